-- The memory of both ends, call by call: what a call is answered and what it leaves; and a list of them, given as bytes. Assumes nothing.
use Rattle.std.specs.Prelude.{ℕ, ◌≡◌, List, [], ◌∷◌, length}
use Rattle.effbd.specs.Answers.{Outcome, is_accepted, afterwards}
use Rattle.effbd.specs.BusEnds.{offered, taken}
use Rattle.effbd.specs.History.{Call, offer, hand, Seen}
use Rattle.calls.specs.declared.Line.{Line}
use Rattle.calls.specs.declared.Ends.{Ends}
use Rattle.calls.specs.CallList.{call_of, calls_of, after_call, list_after}

-- the memory of both ends: states and counts
pub record Live : Type 0 where
  pub leader : List ℕ
  pub sent : ℕ
  pub follower : List ℕ
  pub taken : ℕ

module _ (file net : List ℕ) (station : ℕ) where
  -- what one call is answered, what it leaves, and what is seen of it
  unfoldable pub live_answer : Live → Call → Outcome ℕ
  live_answer v (offer code argument area) = (offered file v.leader v.sent station code argument area).answer
  live_answer v (hand bytes) = (taken net v.follower v.taken station bytes).answer

  unfoldable pub live_after : Live → Call → Live
  live_after v (offer code argument area) = let o = offered file v.leader v.sent station code argument area in
      record { leader = o.state; sent = afterwards v.sent o.answer; follower = v.follower; taken = v.taken }
  live_after v (hand bytes) = let k = taken net v.follower v.taken station bytes in
      record { leader = v.leader; sent = v.sent; follower = k.state; taken = afterwards v.taken k.answer }

  unfoldable pub live_seen : Live → Call → Seen
  live_seen v (offer code argument area) = let o = offered file v.leader v.sent station code argument area in record { accepts = is_accepted o.answer; area = o.area }
  live_seen v (hand bytes) = record { accepts = is_accepted (taken net v.follower v.taken station bytes).answer; area = [] }

  unfoldable pub live_all : Live → List Call → Live
  live_all v [] = v
  live_all v (x ∷ xs) = live_all (live_after v x) xs

  unfoldable pub live_seen_all : Live → List Call → List Seen
  live_seen_all v [] = []
  live_seen_all v (x ∷ xs) = live_seen v x ∷ live_seen_all (live_after v x) xs

-- one call was made: its answer, the memory of both ends and the call's bytes afterwards
pub record Called (file net : List ℕ) (station : ℕ) (v : Live) (call leader follower after : List ℕ) (answer : Outcome ℕ) (sent took : ℕ) : Type 0 where
  pub answer-is : answer ≡ live_answer file net station v (call_of call)
  pub leader-holds : leader ≡ (live_after file net station v (call_of call)).leader
  pub sent_is : sent ≡ (live_after file net station v (call_of call)).sent
  pub follower-holds : follower ≡ (live_after file net station v (call_of call)).follower
  pub taken_is : took ≡ (live_after file net station v (call_of call)).taken
  pub record-holds : after ≡ after_call call (live_seen file net station v (call_of call))

-- all calls of a list were made
pub record AllCalled (file net : List ℕ) (station : ℕ) (v : Live) (calls leader follower after : List ℕ) (sent took : ℕ) : Type 0 where
  pub live : record { leader = leader; sent = sent; follower = follower; taken = took } ≡ live_all file net station v (calls_of calls)
  pub list : after ≡ list_after (length calls) (live_seen_all file net station v (calls_of calls)) calls

-- the memory that the ends lend
abbrev pub live : Ends → Live
live e = record { leader = e.leader.now; sent = e.counts.sent; follower = e.follower.now; taken = e.counts.taken }

-- the ends lend the same memory as before
pub record SameLent (before after : Ends) : Type 0 where
  pub leader : after.leader.ghost_name ≡ before.leader.ghost_name
  pub follower : after.follower.ghost_name ≡ before.follower.ghost_name

-- one call was made, and all calls of a list, on these ends
pub record CallMade (line : Line) (before : Ends) (call : List ℕ) (after : Ends) (call' : List ℕ) (answer : Outcome ℕ) : Type 0 where
  pub called : Called line.file.now line.net.now line.station (live before) call after.leader.now after.follower.now call' answer after.counts.sent after.counts.taken
  pub same : SameLent before after

pub record CallsMade (line : Line) (before : Ends) (calls : List ℕ) (after : Ends) (calls' : List ℕ) : Type 0 where
  pub called : AllCalled line.file.now line.net.now line.station (live before) calls after.leader.now after.follower.now calls' after.counts.sent after.counts.taken
  pub same : SameLent before after
