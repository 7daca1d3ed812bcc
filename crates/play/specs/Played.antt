-- A list of calls, given as bytes, on both ends: what it leaves in their memory, with the claim of demand 3. Assumes nothing.
use Rattle.std.specs.Prelude.{ℕ, ◌≡◌, Result, Ok, Err, Bool, false, cond, ◌&&◌, List, length, eqb}
use Rattle.effbd.specs.Answers.{Outcome, accepted, refused, and_then}
use Rattle.effbd.specs.declared.refusals.Refusal.{Refusal}
use Rattle.effbd.specs.Diagrams.{Diagram}
use Rattle.effbd.specs.Nesting.{read_diagram}
use Rattle.effbd.specs.Layout.{places}
use Rattle.effbd.specs.Nets.{Net}
use Rattle.effbd.specs.Firing.{net_word_count}
use Rattle.effbd.specs.Patterns.{net_of}
use Rattle.effbd.specs.History.{fresh_ends, seen_all, net_file_of, ends_of, MayBeHanded, Demand3}
use Rattle.calls.specs.declared.Counts.{Counts}
use Rattle.calls.specs.CallList.{calls_of, list_after}

-- a net's state has this many words
unfoldable pub as_long : Outcome Net → ℕ → Bool
as_long (accepted n) words = eqb words (net_word_count n)
as_long (refused number value) words = false

-- the diagram whose ends can be played on states of these lengths: the file's own refusals, then 20
unfoldable pub playable : (file leader follower : List ℕ) → Outcome Diagram
playable file leader follower = and_then (read_diagram file)
    (λ d. cond (eqb (length leader) (places d) && eqb (length follower) (net_word_count (net_of d))) (accepted d) (refused 20 0))

-- both ends started fresh and the calls of the list were made: the memory is that of the list's end, and demand 3 holds of it
pub record Played (file : List ℕ) (d : Diagram) (station : ℕ) (calls leader follower after : List ℕ) (sent took : ℕ) : Type 0 where
  pub leader-holds : leader ≡ (ends_of file d station (calls_of calls)).leader
  pub sent_is : sent ≡ (ends_of file d station (calls_of calls)).count
  pub follower-holds : follower ≡ (ends_of file d station (calls_of calls)).follower
  pub taken_is : took ≡ (ends_of file d station (calls_of calls)).taken
  -- each offer's area holds what the call left there
  pub list-holds : after ≡ list_after (length calls) (seen_all file (net_file_of d) station (fresh_ends d) (calls_of calls)) calls
  pub claim : MayBeHanded file d station (calls_of calls) → Demand3 file d station (calls_of calls)

-- nothing lent is altered
pub record Unplayed (calls leader follower calls' leader' follower' : List ℕ) (sent took : ℕ) : Type 0 where
  pub leader-kept : leader' ≡ leader
  pub follower-kept : follower' ≡ follower
  pub list-kept : calls' ≡ calls
  pub none-sent : sent ≡ 0
  pub none-taken : took ≡ 0

-- what `play` leaves: the list was played on the diagram, or nothing was done
abbrev pub PlayedAs : Outcome Diagram → (file : List ℕ) (station : ℕ) (calls leader follower calls' leader' follower' : List ℕ) (sent took : ℕ) → Type 0
PlayedAs (accepted d) file station calls leader follower calls' leader' follower' sent took = Played file d station calls leader' follower' calls' sent took
PlayedAs (refused number value) file station calls leader follower calls' leader' follower' sent took = Unplayed calls leader follower calls' leader' follower' sent took

-- the counts of a list that was played, 0 where it was refused
abbrev pub sent : Result Counts Refusal → ℕ
sent (Ok counts) = counts.sent
sent (Err refusal) = 0

abbrev pub taken : Result Counts Refusal → ℕ
taken (Ok counts) = counts.taken
taken (Err refusal) = 0
