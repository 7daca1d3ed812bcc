-- How many bytes the arcs of a FUNCTION's uses have at most.
use Rattle.std.proofs.Common.{ℕ, ◌+◌, ◌-◌, ◌*◌, ◌≤◌, ◌<◌, zero-le, ◌≡◌, subst, false, List, [], ◌∷◌, arith, length, eqb}
use Rattle.effbd.specs.Diagrams.{function, Diagram, Use, row_count, item_total, row, kind}
use Rattle.effbd.specs.Counts.{count_total}
use Rattle.effbd.specs.Nets.{take_arc, give_arc}
use Rattle.agreement.specs.AcceptedFiles.{Held}
use Rattle.diagram_table.specs.Cells.{uses_in, trigger_in, some_trigger_in, run_first, run_length}
use Rattle.diagram_table.specs.Held.{Holds, HoldsUses, HoldsCopies, HoldsRanks}
use Rattle.net_records.proofs.Small.{Small, none-small, more, ◌then◌, either, turns, arc-small}
use Rattle.net_clears.proofs.Weights.{count_arcs}
use Rattle.net_uses.specs.FunctionTransitions.{copy_arcs, use_arc, pass_arcs, trigger_arcs, plain_arcs, use_arcs}
use Rattle.net_uses.proofs.UseArcs.{uses-few, equal-one}
use Rattle.net_uses.proofs.CountArcs.{uses-fine, gives-are}

-- the takes: at most one for each use in each of the two passes
take-small : (table : List ℕ) (rows row pass j k w : ℕ) → Small (use_arc table rows take_arc row pass j k w) 8
unfolding use_arc copy_arcs run_length
take-small table rows row pass j k w = either (eqb (trigger_in table k) pass)
    (either (eqb pass 0) (arc-small take_arc _ w) (rw (equal-one take_arc (3 * rows + run_first table false row j k) w) (arc-small take_arc _ w)))
    (more zero-le none-small)

pass-small : (table : List ℕ) (rows row pass j : ℕ) (us : List Use) → Small (pass_arcs table rows take_arc row pass j us) (8 * length us)
unfolding pass_arcs
pass-small table rows row pass j [] = none-small
pass-small table rows row pass j (u ∷ us) = more (omega arith) (take-small table rows row pass j _ _ then pass-small table rows row pass (j + 1) us)

plain-small : (rows : ℕ) (us : List Use) → Small (plain_arcs rows take_arc us) (8 * length us)
unfolding plain_arcs
plain-small rows [] = none-small
plain-small rows (u ∷ us) = more (omega arith) (arc-small take_arc _ _ then plain-small rows us)

pub takes-small : (table : List ℕ) (rows row : ℕ) (us : List Use) → Small (use_arcs table rows take_arc row us) (16 * length us)
unfolding use_arcs trigger_arcs
takes-small table rows row us = either (eqb (some_trigger_in table) 0) (more (omega arith) (plain-small rows us))
    (more (omega arith) (pass-small table rows row 0 0 us then pass-small table rows row 1 0 us))

module _ (d : Diagram) (rows items : ℕ) (table file : List ℕ) (h : Holds d rows items table) (u : HoldsUses file d table) (copied : HoldsCopies d table) (ranked : HoldsRanks d table)
    (held : Held d) where
  pub gives-small : (r : ℕ) → r < row_count d → kind d r ≡ function → Small (use_arcs table rows give_arc r (uses_in table file r)) (count_total d * 8)
  gives-small r l e = subst (λ x. Small x (count_total d * 8)) (gives-are d rows items table file h u copied ranked held r l e) (unfold count_arcs in turns _ 8 (count_total d) (λ i b. arc-small give_arc _ _))

  -- no more uses than items
  pub few-uses : (r : ℕ) → r < row_count d → kind d r ≡ function → length (uses_in table file r) ≤ item_total d
  few-uses r l e = let few : length (uses_in table file r) ≤ item_total d - 0 = rw (u.uses r l) (uses-few (row d r).uses (item_total d) 0 (uses-fine d held r e)) in omega arith
