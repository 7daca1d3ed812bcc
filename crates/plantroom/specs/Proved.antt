-- The table of examples holds, and so do the list of calls, the starts in a log and the transitions that steps fire: computed.
use Rattle.std.specs.Prelude.{◌≡◌, refl, true}
use Rattle.std.proofs.Common.{arith}
use Rattle.effbd.specs.Answers.{accepted}
use Rattle.effbd.specs.Records.{are_bytes, kind_table, entry_in, length_of, fields_of, fault_at, read_many}
use Rattle.effbd.specs.Diagrams.{kind_of, head_fault, item_fault, uses_at, uses_fine, row_at, row_right, row_fine, row_fault, triggers_fine, row_fault_in}
use Rattle.effbd.specs.Counts.{copies_of, copies, tallies, count_total, tally, takes, gives, initial_count}
use Rattle.effbd.specs.Nesting.{stack, owner, close, branch_of, loop, box, first_outlet, leads, outlet, nesting_broken, killer_empty, exit_misplaced, box_exit_misplaced, thirteenth_open, nesting_fault, first_faulty, not_one_to_one, loop_left, ends_branch, falls_into, scenario_falls, spends_no_time, unless_row, nested, after_rows, after_items, read_diagram}
use Rattle.effbd.specs.Layout.{place_of}
use Rattle.effbd.specs.States.{state_words, state_of, entered_row, ends_killer, killed, entered, branch_entries, fresh_words}
use Rattle.effbd.specs.Moves.{move_of, lowest_item, words_outcome, move_words, checked_move, step_diagram}
use Rattle.effbd.specs.Nets.{arc_bytes, transition_bytes, mark_bytes, net_bytes, arc_due, arc_fine, above, transition_fine, net_head_fault, mark_fault, arc_fault, transition_fault, read_tail, after_places, read_net}
use Rattle.effbd.specs.Firing.{weight_at, cleared_at, effect_of, covers, taken_and_cleared, fired_state, overflows, fire, fire_lowest, lets_pass, ticked_state, net_wait, net_move, checked_net_move, step_net, fresh_net_words}
use Rattle.effbd.specs.Patterns.{names, arcs_of, ranges_from, transition_of, net_of}
use Rattle.effbd.specs.Transitions.{checked_number, transition_diagram, lowest_enabled, checked_net_number, transition_net}
use Rattle.effbd.specs.Annex.{digits, number, numbers, arc_lines, transition_lines, net_lines, printed, annex_in}
use Rattle.effbd.specs.BusEnds.{telegram, is_ours, offered, taken}
use Rattle.effbd.specs.History.{fresh_ends, run, seen, run_all, seen_all, offers, wrote_before, foreign, MayBeHanded}
use Rattle.effbd.specs.Logs.{setpoints_at, setpoints, log_fault, made, state_from, played_from}
use Rattle.effbd.specs.Starts.{is_start, starts_from, fall_in, busiest_from, starts_of, log_starts}
use Rattle.plantroom.specs.Table.{file_of, file_a, same_words, plays, holds, all_hold, examples, annex_of_a, follower_says, follower_holds, table_holds}
use Rattle.plantroom.specs.Requests.{box_refusals, refusals, requests, requests_hold}
use Rattle.plantroom.specs.Calls.{diagram_a, calls, accepting, calls_hold}
use Rattle.plantroom.specs.Starts.{questions, answered, starts_hold}
use Rattle.plantroom.specs.Transitions.{turns, told, apart, transitions_hold}

-- THEOREM: document 01's examples A to I, with every number that it gives
pub examples-hold : table_holds ≡ true
unfolding are_bytes kind_table entry_in length_of fields_of fault_at read_many
    kind_of head_fault item_fault uses_at uses_fine row_at row_right row_fine row_fault triggers_fine row_fault_in copies_of copies tallies count_total tally takes gives initial_count
    stack owner close branch_of loop box first_outlet leads outlet nesting_broken killer_empty exit_misplaced box_exit_misplaced thirteenth_open nesting_fault first_faulty not_one_to_one loop_left ends_branch falls_into scenario_falls spends_no_time unless_row nested after_rows after_items read_diagram
    place_of state_words state_of entered_row ends_killer killed entered branch_entries fresh_words move_of lowest_item words_outcome move_words checked_move step_diagram
    arc_bytes transition_bytes mark_bytes net_bytes arc_due arc_fine above transition_fine net_head_fault mark_fault arc_fault transition_fault read_tail after_places read_net
    weight_at cleared_at effect_of covers taken_and_cleared fired_state overflows fire fire_lowest lets_pass ticked_state net_wait net_move checked_net_move step_net fresh_net_words
    names arcs_of ranges_from transition_of net_of digits number numbers arc_lines transition_lines net_lines printed annex_in telegram taken
    file_of same_words plays holds all_hold examples annex_of_a follower_says follower_holds table_holds
examples-hold = refl

-- THEOREM: examples of document 02's requests, with every answer of both steppers, and their refusals
pub requests-hold : requests_hold ≡ true
unfolding are_bytes kind_table entry_in length_of fields_of fault_at read_many
    kind_of head_fault item_fault uses_at uses_fine row_at row_right row_fine row_fault triggers_fine row_fault_in copies_of copies tallies count_total tally takes gives initial_count
    stack owner close branch_of loop box first_outlet leads outlet nesting_broken killer_empty exit_misplaced box_exit_misplaced thirteenth_open nesting_fault first_faulty not_one_to_one loop_left ends_branch falls_into scenario_falls spends_no_time unless_row nested after_rows after_items read_diagram
    place_of state_words state_of entered_row ends_killer killed entered branch_entries fresh_words move_of lowest_item words_outcome move_words checked_move step_diagram
    arc_bytes transition_bytes mark_bytes net_bytes arc_due arc_fine above transition_fine net_head_fault mark_fault arc_fault transition_fault read_tail after_places read_net
    weight_at cleared_at effect_of covers taken_and_cleared fired_state overflows fire fire_lowest lets_pass ticked_state net_wait net_move checked_net_move step_net fresh_net_words
    names arcs_of ranges_from transition_of net_of
    file_of same_words plays holds all_hold requests refusals box_refusals requests_hold
requests-hold = refl

-- THEOREM: the list of calls is one that demand 3 speaks of, and ends as said
pub calls-hold : (read_diagram (file_a 3) ≡ accepted diagram_a) × MayBeHanded (file_a 3) diagram_a 9 calls × (calls_hold ≡ true)
unfolding are_bytes kind_table entry_in length_of fields_of fault_at read_many
    kind_of head_fault item_fault uses_at uses_fine row_at row_right row_fine row_fault triggers_fine row_fault_in copies_of copies tallies count_total tally takes gives initial_count
    stack owner close branch_of loop box first_outlet leads outlet nesting_broken killer_empty exit_misplaced box_exit_misplaced thirteenth_open nesting_fault first_faulty not_one_to_one loop_left ends_branch falls_into scenario_falls spends_no_time unless_row nested after_rows after_items read_diagram
    place_of state_words state_of entered_row ends_killer killed entered branch_entries fresh_words move_of lowest_item words_outcome move_words checked_move step_diagram
    arc_bytes transition_bytes mark_bytes net_bytes arc_due arc_fine above transition_fine net_head_fault mark_fault arc_fault transition_fault read_tail after_places read_net
    weight_at cleared_at effect_of covers taken_and_cleared fired_state overflows fire fire_lowest lets_pass ticked_state net_wait net_move checked_net_move step_net fresh_net_words
    names arcs_of ranges_from transition_of net_of telegram is_ours offered taken fresh_ends run seen run_all seen_all
    file_of same_words diagram_a calls accepting calls_hold
calls-hold = (refl, (offers, (offers, (offers, (wrote_before 1 (omega arith) refl, (wrote_before 0 (omega arith) refl, (wrote_before 0 (omega arith) refl, (offers, (foreign refl, (foreign refl, (wrote_before 1 (omega arith) refl, tt)))))))))), refl)

-- THEOREM: request 1's worked example
pub starts-hold : starts_hold ≡ true
unfolding kind_table entry_in length_of fields_of fault_at read_many
    kind_of head_fault item_fault uses_at uses_fine row_at row_right row_fine row_fault triggers_fine row_fault_in copies_of copies tallies count_total tally takes gives initial_count
    stack owner close branch_of loop box first_outlet leads outlet nesting_broken killer_empty exit_misplaced box_exit_misplaced thirteenth_open nesting_fault first_faulty not_one_to_one loop_left ends_branch falls_into scenario_falls spends_no_time unless_row nested after_rows after_items read_diagram
    place_of state_words state_of entered_row ends_killer killed entered branch_entries fresh_words move_of lowest_item words_outcome move_words
    setpoints_at setpoints log_fault made state_from played_from is_start starts_from fall_in busiest_from starts_of log_starts
    file_of questions answered starts_hold
starts-hold = refl

-- THEOREM: request 6's worked example
pub transitions-hold : transitions_hold ≡ true
unfolding are_bytes kind_table entry_in length_of fields_of fault_at read_many
    kind_of head_fault item_fault uses_at uses_fine row_at row_right row_fine row_fault triggers_fine row_fault_in copies_of copies tallies count_total tally takes gives initial_count
    stack owner close branch_of loop box first_outlet leads outlet nesting_broken killer_empty exit_misplaced box_exit_misplaced thirteenth_open nesting_fault first_faulty not_one_to_one loop_left ends_branch falls_into scenario_falls spends_no_time unless_row nested after_rows after_items read_diagram
    place_of state_words state_of entered_row ends_killer killed entered branch_entries fresh_words move_of lowest_item words_outcome move_words checked_move step_diagram
    arc_bytes transition_bytes mark_bytes net_bytes arc_due arc_fine above transition_fine net_head_fault mark_fault arc_fault transition_fault read_tail after_places read_net
    weight_at cleared_at effect_of covers taken_and_cleared fired_state overflows fire fire_lowest lets_pass ticked_state net_wait net_move checked_net_move step_net fresh_net_words
    names arcs_of ranges_from transition_of net_of checked_number transition_diagram lowest_enabled checked_net_number transition_net
    file_of turns told apart transitions_hold
transitions-hold = refl
