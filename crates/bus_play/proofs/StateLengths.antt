-- A call leaves both states as long as they were.
use Rattle.std.proofs.Common.{ℕ, zero, suc, ◌+◌, ◌≡◌, refl, sym, ◌∙◌, ap, List, [], ◌∷◌, cond, ◌&&◌, arith, length, length-append, length-take-le, length-drop, get_or, ltb, leb, eqb, eqb-true, not}
use Rattle.std.proofs.lemmas.List.{length-map}
use Rattle.effbd.specs.Ranges.{all_below}
use Rattle.effbd.specs.Answers.{Outcome, accepted, refused, and_then, unless, afterwards}
use Rattle.effbd.specs.Diagrams.{Diagram}
use Rattle.effbd.specs.Nesting.{read_diagram}
use Rattle.effbd.specs.Layout.{places}
use Rattle.effbd.specs.States.{State, state_words, state_of, state_passes}
use Rattle.effbd.specs.Moves.{Move, step_row, wait_ticks, no_move, move_of, move, words_outcome, move_words, checked_move, step_diagram}
use Rattle.effbd.specs.Nets.{Net, read_net}
use Rattle.effbd.specs.Firing.{NetState, Effect, Behaviour, behaviour_of, effect_of, covers, fired_state, overflows, fire, fire_lowest, lets_pass, ticked_state, net_wait, net_move, net_words, net_words_outcome, net_state_of, net_word_count, checked_net_move, step_net}
use Rattle.effbd.specs.BusEnds.{offered, offered_as, most_count, telegram_length, taken, taken_as, is_telegram, station_at, number_at, code_at, argument_at}
use Rattle.effbd.specs.History.{Call, offer, hand}
use Rattle.ranges.specs.RangeLaws.{length-tab}
use Rattle.ranges.specs.Tests.{decide, and_left}
use Rattle.calls.specs.CallList.{call_of}
use Rattle.calls.specs.LiveEnds.{Live, live, live_after, CallMade}
use Rattle.calls.specs.declared.Line.{Line}
use Rattle.calls.specs.declared.Ends.{Ends}

-- a state is as long after a move as before
abbrev Keeps : List ℕ → Outcome (List ℕ) → Type 0
Keeps words o = length (afterwards words o) ≡ length words

moved-long : (d : Diagram) (words : List ℕ) (o : Outcome State) → length words ≡ places d → Keeps words (words_outcome d o)
unfolding words_outcome state_words
moved-long d words (accepted s) e = length-tab (places d) _ ∙ sym e
moved-long d words (refused n v) e = refl

checked-long : (d : Diagram) (m : Move) (words : List ℕ) → Keeps words (checked_move d m words)
unfolding checked_move move_words
checked-long d m words = decide (eqb (length words) (places d) && state_passes d (state_of d words))
    (λ t. rw t (moved-long d words (move d m (state_of d words)) (eqb-true (length words) (places d) (and_left _ _ t)))) (λ t. rw t refl)

diagram-long : (m : Move) (words : List ℕ) (o : Outcome Diagram) → Keeps words (and_then o (λ d. checked_move d m words))
diagram-long m words (accepted d) = checked-long d m words
diagram-long m words (refused n v) = refl

offered-long : (state : List ℕ) (count station code argument : ℕ) (area : List ℕ) (o : Outcome (List ℕ)) → Keeps state o
    → length (offered_as state count station code argument area o).state ≡ length state
offered-long state count station code argument area (accepted next) e =
    decide (ltb count most_count) (λ t. rw t (decide (leb telegram_length (length area)) (λ u. rw u e) (λ u. rw u refl))) (λ t. rw t refl)
offered-long state count station code argument area (refused n v) e = refl

-- a net's state has a word for each place and each transition
pub record Sized (n : Behaviour) (s : NetState) : Type 0 where
  pub marks : length s.marks ≡ n.places
  pub clocks : length s.clocks ≡ length n.effects

module _ (n : Behaviour) where
  fire-long : (j : ℕ) (t : Effect) (s : NetState) → Sized n s → Sized n (afterwards s (fire n j t s))
  unfolding fire fired_state
  fire-long j t s z = decide (ltb (get_or s.clocks j 0) t.earliest) (λ e. rw e z)
      (λ e. rw e (decide (all_below n.places (λ p. not (overflows n t s p)))
      (λ f. rw f (record { marks = length-tab n.places _; clocks = length-tab (length n.effects) _ }))
      (λ f. rw f z)))

  lowest-long : (ts : List Effect) (j r : ℕ) (s : NetState) → Sized n s → Sized n (afterwards s (fire_lowest n ts j r s))
  unfolding fire_lowest
  lowest-long [] j r s z = z
  lowest-long (t ∷ ts) j r s z = decide (eqb t.label r && covers n t s.marks) (λ e. rw e (fire-long j t s z)) (λ e. rw e (lowest-long ts (suc j) r s z))

  wait-long : (d : ℕ) (s : NetState) → Sized n s → Sized n (afterwards s (net_wait n d s))
  unfolding net_wait ticked_state
  wait-long d s z = decide (eqb d 0) (λ e. rw e z)
      (λ e. rw e (decide (all_below (length n.effects) (lets_pass n d s))
      (λ f. rw f (record { marks = z.marks; clocks = length-tab (length n.effects) _ }))
      (λ f. rw f z)))

  net-moved : (m : Move) (s : NetState) → Sized n s → Sized n (afterwards s (net_move n m s))
  unfolding net_move
  net-moved (step_row r) s z = lowest-long n.effects 0 r s z
  net-moved (wait_ticks d) s z = wait-long d s z
  net-moved no_move s z = z

  words-long : (s : NetState) → Sized n s → length (net_words s) ≡ n.places + length n.effects
  words-long s z = length-append s.marks s.clocks ∙ omega (arith, z.marks, z.clocks)

  outcome-long : (words : List ℕ) (s : NetState) (o : Outcome NetState) → length words ≡ n.places + length n.effects → Sized n (afterwards s o) → Keeps words (net_words_outcome o)
  outcome-long words s (accepted next) e z = words-long next z ∙ sym e
  outcome-long words s (refused number value) e z = refl

net-checked : (n : Net) (m : Move) (words : List ℕ) → Keeps words (checked_net_move n m words)
unfolding checked_net_move
net-checked n m words = decide (eqb (length words) (net_word_count n))
    (λ t. rw t (
    let e = eqb-true (length words) (net_word_count n) t in
    let s = net_state_of (length n.marks) words in
    let many = length-map n.transitions effect_of in
    let z : Sized (behaviour_of n) s = record {
      marks = length-take-le (length n.marks) words (omega arith);
      clocks = length-drop (length n.marks) words ∙ omega arith;
    } in
    outcome-long (behaviour_of n) words s (net_move (behaviour_of n) m s) (omega arith) (net-moved (behaviour_of n) m s z)))
    (λ t. rw t refl)

net-long : (m : Move) (words : List ℕ) (o : Outcome Net) → Keeps words (and_then o (λ n. checked_net_move n m words))
net-long m words (accepted n) = net-checked n m words
net-long m words (refused number value) = refl

unless-long : (f v : ℕ) (words : List ℕ) (o : Outcome (List ℕ)) → Keeps words o → Keeps words (unless f v o)
unless-long zero v words o k = k
unless-long (suc n) v words o k = refl

taken-long : (state : List ℕ) (count : ℕ) (o : Outcome (List ℕ)) → Keeps state o → length (taken_as state count o).state ≡ length state
taken-long state count (accepted next) k = k
taken-long state count (refused number value) k = refl

module _ (file net : List ℕ) (station : ℕ) (v : Live) where
  leader-long : (call : Call) → length (live_after file net station v call).leader ≡ length v.leader
  unfolding live_after offered step_diagram
  leader-long (offer code argument area) = offered-long v.leader v.sent station code argument area _ (diagram-long (move_of code argument) v.leader (read_diagram file))
  leader-long (hand bytes) = refl

  follower-long : (call : Call) → length (live_after file net station v call).follower ≡ length v.follower
  unfolding live_after taken step_net
  follower-long (offer code argument area) = refl
  follower-long (hand bytes) =
      let w = v.follower in
      let moved = and_then (read_net net) (λ n. checked_net_move n (move_of (code_at bytes) (argument_at bytes)) w) in
      let early = cond (leb (number_at bytes) (suc v.taken)) 0 33 in
      let late = cond (leb (number_at bytes) v.taken) 32 0 in
      let other = cond (eqb (station_at bytes) station) 0 31 in
      let none = cond (is_telegram bytes) 0 30 in
      let due = unless late v.taken (unless early v.taken moved) in
      let k = unless-long early v.taken w moved (net-long (move_of (code_at bytes) (argument_at bytes)) w (read_net net)) in
      let l = unless-long late v.taken w (unless early v.taken moved) k in
      taken-long w v.taken (unless none 0 (unless other (station_at bytes) due)) (unless-long none 0 w (unless other (station_at bytes) due) (unless-long other (station_at bytes) w due l))

module _ {line : Line} {before after : Ends} {call call' : List ℕ} {answer : Outcome ℕ} (m : CallMade line before call after call' answer) where
  pub leader-kept : length after.leader.now ≡ length before.leader.now
  leader-kept = ap length m.called.leader-holds ∙ leader-long line.file.now line.net.now line.station (live before) (call_of call)

  pub follower-kept : length after.follower.now ≡ length before.follower.now
  follower-kept = ap length m.called.follower-holds ∙ follower-long line.file.now line.net.now line.station (live before) (call_of call)
