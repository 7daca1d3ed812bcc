-- Demand 3 where the calls are made. `offer` and `take` (crates bus_leader and bus_follower) promise `offered` and `taken` of effbd for whatever they
-- are given; a list of calls runs these very definitions (`one-offer`, `one-hand`), and `demand-3` is the claim about every such list.
use Rattle.std.specs.Prelude.{ℕ, ◌≡◌, refl, true, List}
use Rattle.effbd.specs.Answers.{accepted}
use Rattle.effbd.specs.Records.{are_bytes}
use Rattle.effbd.specs.Diagrams.{Diagram}
use Rattle.effbd.specs.Nesting.{read_diagram}
use Rattle.effbd.specs.BusEnds.{offered, taken}
use Rattle.effbd.specs.History.{Call, offer, hand, Ends, after_offer, after_hand, run, MayBeHanded, Demand3}
use Rattle.agreement.proofs.Theorems.{demand-3 as claimed}

-- an offer of a list is the leader's call on the leader's own state and count, bytes handed over are the follower's
pub one-offer : (file net : List ℕ) (station : ℕ) (e : Ends) (code argument : ℕ) (area : List ℕ)
    → run file net station e (offer code argument area) ≡ after_offer file net station e (offered file e.leader e.count station code argument area)
unfolding run
one-offer file net station e code argument area = refl

pub one-hand : (file net : List ℕ) (station : ℕ) (e : Ends) (bytes : List ℕ)
    → run file net station e (hand bytes) ≡ after_hand file net station e (taken net e.follower e.taken station bytes)
unfolding run
one-hand file net station e bytes = refl

-- THEOREM: demand 3
pub demand-3 : (file : List ℕ) (d : Diagram) → are_bytes file ≡ true → read_diagram file ≡ accepted d → (station : ℕ) (calls : List Call)
    → MayBeHanded file d station calls → Demand3 file d station calls
demand-3 file d bytes read station calls handed = claimed file d bytes read station calls handed
