-- Document 01, "Bus ends": lists of calls, the bytes that may be handed over, the history, the claim of demand 3. Assumes nothing.
use Rattle.std.specs.Prelude.{ℕ, suc, ◌≤◌, ◌<◌, ◌≡◌, Bool, true, false, cond, ◌&&◌, List, [], ◌∷◌, ◌++◌, length, get_or, take, drop, leb, ltb, eqb}
use Rattle.effbd.specs.Answers.{Outcome, accepted, refused, is_accepted, afterwards}
use Rattle.effbd.specs.Diagrams.{Diagram}
use Rattle.effbd.specs.States.{fresh_words}
use Rattle.effbd.specs.Moves.{move_of, move_words, step_diagram}
use Rattle.effbd.specs.Nets.{net_bytes}
use Rattle.effbd.specs.Firing.{step_net, fresh_net_words}
use Rattle.effbd.specs.Patterns.{net_of}
use Rattle.effbd.specs.Image.{image_words}
use Rattle.effbd.specs.BusEnds.{telegram_length, telegram, number_at, is_ours, Offered, most_count, offered, Taken, taken}

-- "The list mixes, in any order, moves offered to the leader (any code, row or ticks, and any area) and bytes handed to the follower"
pub data Call : Type 0 where
  offer : (code argument : ℕ) (area : List ℕ) → Call
  hand : List ℕ → Call

-- both ends: states and counts; and the 14 bytes that each accepted offer wrote, "as they were then"
pub record Ends : Type 0 where
  pub leader : List ℕ
  pub count : ℕ
  pub follower : List ℕ
  pub taken : ℕ
  pub wrote : List (List ℕ)

-- "Both ends start fresh, count 0"
unfoldable pub fresh_ends : Diagram → Ends
fresh_ends d = record { leader = fresh_words d; count = 0; follower = fresh_net_words (net_of d); taken = 0; wrote = [] }

-- what is seen of a call: accepted or taken, and its area afterwards (bytes handed over have none)
pub record Seen : Type 0 where
  pub accepts : Bool
  pub area : List ℕ

-- "same station; the follower has the net translated from the leader's accepted diagram"
module _ (file net : List ℕ) (station : ℕ) where
  -- "Each call gets the state and count that the last one at its end returned or left; nobody else writes these, the diagram or the net"
  abbrev pub after_offer : Ends → Offered → Ends
  after_offer e o = record {
    leader = o.state;
    count = afterwards e.count o.answer;
    follower = e.follower;
    taken = e.taken;
    wrote = cond (is_accepted o.answer) (e.wrote ++ (take telegram_length o.area ∷ [])) e.wrote;
  }

  abbrev pub after_hand : Ends → Taken → Ends
  after_hand e k = record { leader = e.leader; count = e.count; follower = k.state; taken = afterwards e.taken k.answer; wrote = e.wrote }

  unfoldable pub run : Ends → Call → Ends
  run e (offer code argument area) = after_offer e (offered file e.leader e.count station code argument area)
  run e (hand bytes) = after_hand e (taken net e.follower e.taken station bytes)

  unfoldable pub seen : Ends → Call → Seen
  seen e (offer code argument area) =
      let o = offered file e.leader e.count station code argument area in record { accepts = is_accepted o.answer; area = o.area }
  seen e (hand bytes) = record { accepts = is_accepted (taken net e.follower e.taken station bytes).answer; area = [] }

  unfoldable pub run_all : Ends → List Call → Ends
  run_all e [] = e
  run_all e (x ∷ xs) = run_all (run e x) xs

  unfoldable pub seen_all : Ends → List Call → List Seen
  seen_all e [] = []
  seen_all e (x ∷ xs) = seen e x ∷ seen_all (run e x) xs

  -- "The bytes are the 14 that an earlier accepted offer of the list wrote, as they were then, or are no telegram of this station (30, 31)"
  pub data Deliverable (e : Ends) : Call → Type 0 where
    offers : {code argument : ℕ} {area : List ℕ} → Deliverable e (offer code argument area)
    wrote_before : {bytes : List ℕ} (i : ℕ) → i < length e.wrote → bytes ≡ get_or e.wrote i [] → Deliverable e (hand bytes)
    foreign : {bytes : List ℕ} → is_ours station bytes ≡ false → Deliverable e (hand bytes)

  abbrev pub AllDeliverable : Ends → List Call → Type 0
  AllDeliverable e [] = Unit
  AllDeliverable e (x ∷ xs) = Deliverable e x × AllDeliverable (run e x) xs

-- "*History*, from the diagram, the station and the list alone": the states added after the fresh one, which is state 0, and t
pub record History : Type 0 where
  pub states : List (List ℕ)
  pub t : ℕ

abbrev pub no_history : History
no_history = record { states = []; t = 0 }

module _ (d : Diagram) (station : ℕ) where
  -- state i; the last state
  unfoldable pub state_at : History → ℕ → List ℕ
  state_at h i = get_or (fresh_words d ∷ h.states) i []

  abbrev pub last_state : History → List ℕ
  last_state h = state_at h (length h.states)

  -- "An offer adds the state after its move if none of the diagram's 21 to 26 stands against it at the last state,
  -- fewer than 4,294,967,295 were added before and the area has 14 bytes or more; otherwise it adds nothing"
  abbrev pub has_room : History → List ℕ → Bool
  has_room h area = ltb (length h.states) most_count && leb telegram_length (length area)

  abbrev pub added_as : History → Bool → Outcome (List ℕ) → History
  added_as h true (accepted s) = record { states = h.states ++ (s ∷ []); t = h.t }
  added_as h false (accepted s) = h
  added_as h b (refused number value) = h

  -- "A telegram of this station numbered t + 1 raises t by 1; other bytes don't"
  unfoldable pub past : History → Call → History
  past h (offer code argument area) = added_as h (has_room h area) (move_words d (move_of code argument) (last_state h))
  past h (hand bytes) = cond (is_ours station bytes && eqb (number_at bytes) (suc h.t)) (record { states = h.states; t = suc h.t }) h

  unfoldable pub past_all : History → List Call → History
  past_all h [] = h
  past_all h (x ∷ xs) = past_all (past h x) xs

  -- "An offer was accepted exactly if it added a state, and then it wrote its move's telegram, of this station and numbered with the states
  -- added up to and with its own" (beyond it, and where nothing was added, the area is as it was)
  abbrev pub offer_due : (before after : History) (code argument : ℕ) (area : List ℕ) → Seen
  offer_due before after code argument area = let added = ltb (length before.states) (length after.states) in
      record { accepts = added; area = cond added (telegram (length after.states) station code argument ++ drop telegram_length area) area }

  -- "bytes were taken exactly if they raised t"
  abbrev pub hand_due : (before after : History) → Seen
  hand_due before after = record { accepts = ltb before.t after.t; area = [] }

  unfoldable pub due : History → Call → Seen
  due h (offer code argument area) = offer_due h (past h (offer code argument area)) code argument area
  due h (hand bytes) = hand_due h (past h (hand bytes))

  unfoldable pub due_all : History → List Call → List Seen
  due_all h [] = []
  due_all h (x ∷ xs) = due h x ∷ due_all (past h x) xs

-- "the net translated from the leader's accepted diagram"
abbrev pub net_file_of : Diagram → List ℕ
net_file_of d = net_bytes (net_of d)

-- the history of a list, and both ends after it
abbrev pub history_of : Diagram → (station : ℕ) → List Call → History
history_of d station calls = past_all d station no_history calls

abbrev pub ends_of : List ℕ → Diagram → (station : ℕ) → List Call → Ends
ends_of file d station calls = run_all file (net_file_of d) station (fresh_ends d) calls

-- what demand 3 supposes of a list: each of its calls hands over what may be handed over at its turn
abbrev pub MayBeHanded : List ℕ → Diagram → (station : ℕ) → List Call → Type 0
MayBeHanded file d station calls = AllDeliverable file (net_file_of d) station (fresh_ends d) calls

-- the claim of demand 3 about a whole list: "After the list"
pub record Demand3 (file : List ℕ) (d : Diagram) (station : ℕ) (calls : List Call) : Type 0 where
  -- "the leader has the last state and as count the number added"
  pub leader-state : (ends_of file d station calls).leader ≡ last_state d station (history_of d station calls)
  pub leader-count : (ends_of file d station calls).count ≡ length (history_of d station calls).states
  -- "the follower has count t and the image of state t" (there is a state t)
  pub follower-count : (ends_of file d station calls).taken ≡ (history_of d station calls).t
  pub not-ahead : (history_of d station calls).t ≤ length (history_of d station calls).states
  pub follower-state : (ends_of file d station calls).follower ≡ image_words d (state_at d station (history_of d station calls) (history_of d station calls).t)
  -- what was accepted, taken and written, call by call
  pub calls-as-due : seen_all file (net_file_of d) station (fresh_ends d) calls ≡ due_all d station no_history calls
  -- "At every state of the history the diagram's stepper, and the net's at its image, accept the same moves, whatever code, row or ticks"
  pub same-moves : (i : ℕ) → i ≤ length (history_of d station calls).states → (code argument : ℕ)
      → is_accepted (step_diagram file code argument (state_at d station (history_of d station calls) i))
      ≡ is_accepted (step_net (net_file_of d) code argument (image_words d (state_at d station (history_of d station calls) i)))
