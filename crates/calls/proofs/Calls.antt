-- One call made, an offer or a hand, from what the leader's and the follower's calls leave.
use Prim.Native.Nat.{ℕ, ◌-◌, ◌≤◌, min}
use mathlib.Core.Path.{◌≡◌, refl, sym, ◌∙◌, ap}
use mathlib.Core.Logic.{◌≢◌}
use Rattle.std.proofs.Math.Nat.{min-eq_left, min-eq_right}
use mathlib.Core.List.{List, [], ◌++◌, append-nil}
use native.Mathlib.Omega.{arith}
use lib.ListN.{length, take, drop, drop_of_length-le, length-drop}
use lib.Seq.{take_all}
use lib.Dec.{ltb}
use borrow.Author.Tests.{eq-eqb, ne_eqb, ltb-true, ltb-false}
use Rattle.effbd.specs.Answers.{Outcome, afterwards}
use Rattle.effbd.specs.Records.{word, kind_at}
use Rattle.effbd.specs.BusEnds.{offered, taken}
use Rattle.effbd.specs.History.{Call, offer, hand}
use Rattle.ranges.specs.RangeLaws.{tail-is}
use Rattle.ranges.specs.Tests.{decide}
use Rattle.calls.specs.CallList.{call_of}
use Rattle.calls.specs.LiveEnds.{Live, live_answer, live_after, live_seen, Called}

-- where the area of an offer begins: at byte 8, or at the end of fewer bytes
pub record AreaFrom (call : List ℕ) (from : ℕ) : Type 0 where
  pub within : from ≤ length call
  pub head : take from call ≡ take 8 call
  pub area : drop from call ≡ drop 8 call

pub area-from : (call : List ℕ) (from : ℕ) → from ≡ min (length call) 8 → AreaFrom call from
area-from call from e = decide (ltb (length call) 8)
    (λ t. let l = ltb-true (length call) 8 t in let f : from ≡ length call = e ∙ min-eq_left {n = length call} {m = 8} (omega arith) in record {
      within = omega arith;
      head = ap (λ (n : ℕ). take n call) f ∙ (take_all (length call) call (omega arith) ∙ sym (take_all 8 call (omega arith)));
      area = ap (λ (n : ℕ). drop n call) f ∙ (drop_of_length-le call {i = length call} (omega arith) ∙ sym (drop_of_length-le call {i = 8} (omega arith)));
    })
    (λ t. let l = ltb-false (length call) 8 t in let f : from ≡ 8 = e ∙ min-eq_right {n = 8} {m = length call} (omega arith) in record {
      within = omega arith;
      head = ap (λ (n : ℕ). take n call) f;
      area = ap (λ (n : ℕ). drop n call) f;
    })

rest-none : (n : ℕ) (l : List ℕ) → drop (length l - n) (drop n l) ≡ []
rest-none n l = drop_of_length-le (drop n l) {i = length l - n} (rw (length-drop n l) (omega arith))

module _ (file net : List ℕ) (station : ℕ) (v : Live) (call : List ℕ) (k : ℕ) (f : k ≡ kind_at call) where
  is-offer : (code argument : ℕ) → k ≡ 1 → code ≡ word call 4 → argument ≡ word call 6 → call_of call ≡ offer code argument (drop 8 call)
  unfolding call_of
  is-offer code argument o p q = rw (eq-eqb (kind_at call) 1 (sym f ∙ o)) (cc)

  is-hand : k ≢ 1 → call_of call ≡ hand (drop 4 call)
  unfolding call_of
  is-hand w = rw (ne_eqb (kind_at call) 1 (λ z. w (f ∙ z)))

  pub offer-called : (code argument : ℕ) → k ≡ 1 → code ≡ word call 4 → argument ≡ word call 6 → (from : ℕ) → AreaFrom call from
      → (answer : Outcome ℕ) (leader area : List ℕ) (sent : ℕ)
      → answer ≡ (offered file v.leader v.sent station code argument (take (length call - from) (drop from call))).answer
      → leader ≡ (offered file v.leader v.sent station code argument (take (length call - from) (drop from call))).state
      → area ≡ (offered file v.leader v.sent station code argument (take (length call - from) (drop from call))).area
      → sent ≡ afterwards v.sent answer
      → Called file net station v call leader v.follower (take from call ++ (area ++ drop (length call - from) (drop from call))) answer sent v.taken
  unfolding live_answer live_after live_seen
  offer-called code argument o p q from r answer leader area sent a s w n =
      let is = is-offer code argument o p q in
      let lent : take (length call - from) (drop from call) ≡ drop 8 call = tail-is from call ∙ r.area in
      let a' : answer ≡ live_answer file net station v (call_of call) = a
      ∙ (ap (λ (x : List ℕ). (offered file v.leader v.sent station code argument x).answer) lent ∙ ap (live_answer file net station v) (sym is)) in record {
        answer-is = a';
        leader-holds = s ∙ (ap (λ (x : List ℕ). (offered file v.leader v.sent station code argument x).state) lent ∙ ap (λ (x : Call). (live_after file net station v x).leader) (sym is));
        sent_is = n ∙ (ap (afterwards v.sent) (a ∙ ap (λ (x : List ℕ). (offered file v.leader v.sent station code argument x).answer) lent) ∙ ap (λ (x : Call). (live_after file net station v x).sent) (sym is));
        follower-holds = ap (λ (x : Call). (live_after file net station v x).follower) (sym is);
        taken_is = ap (λ (x : Call). (live_after file net station v x).taken) (sym is);
        record-holds = rw (eq-eqb (kind_at call) 1 (sym f ∙ o)) (ap (λ (l : List ℕ). l ++ (area ++ drop (length call - from) (drop from call))) r.head
            ∙ ap (λ (l : List ℕ). take 8 call ++ l) (ap (λ (l : List ℕ). area ++ l) (rest-none from call) ∙ (append-nil area
            ∙ (w ∙ (ap (λ (x : List ℕ). (offered file v.leader v.sent station code argument x).area) lent ∙ ap (λ (x : Call). (live_seen file net station v x).area) (sym is))))));
      }

  pub hand-called : k ≢ 1 → (bytes : List ℕ) → bytes ≡ drop 4 call → (answer : Outcome ℕ) (follower : List ℕ) (took : ℕ)
      → answer ≡ (taken net v.follower v.taken station bytes).answer
      → follower ≡ (taken net v.follower v.taken station bytes).state
      → took ≡ afterwards v.taken answer
      → Called file net station v call v.leader follower call answer v.sent took
  unfolding live_answer live_after live_seen
  hand-called w bytes e answer follower took a s n =
      let is = is-hand w ∙ ap hand (sym e) in record {
        answer-is = a ∙ ap (live_answer file net station v) (sym is);
        leader-holds = ap (λ (x : Call). (live_after file net station v x).leader) (sym is);
        sent_is = ap (λ (x : Call). (live_after file net station v x).sent) (sym is);
        follower-holds = s ∙ ap (λ (x : Call). (live_after file net station v x).follower) (sym is);
        taken_is = n ∙ (ap (afterwards v.taken) a ∙ ap (λ (x : Call). (live_after file net station v x).taken) (sym is));
        record-holds = rw (ne_eqb (kind_at call) 1 (λ z. w (f ∙ z)));
      }
