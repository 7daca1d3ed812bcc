-- Both ends made ready, or a refusal: from what the parts of `play` leave to what it promises.
use Prim.Native.Nat.{ℕ}
use mathlib.Core.Path.{◌≡◌, refl, sym, ◌∙◌, ap, ap₂, subst}
use mathlib.Core.Bool.{Bool, true, false, cond, ◌&&◌}
use mathlib.Core.List.{List}
use native.Mathlib.Omega.{arith}
use lib.ListN.{length}
use lib.Dec.{eqb}
use Rattle.effbd.specs.Answers.{Outcome, accepted, refused, and_then, returning_zero, afterwards}
use Rattle.effbd.specs.Records.{are_bytes}
use Rattle.effbd.specs.Diagrams.{Diagram}
use Rattle.effbd.specs.Nesting.{read_diagram}
use Rattle.effbd.specs.Layout.{places}
use Rattle.effbd.specs.States.{fresh_words}
use Rattle.effbd.specs.Moves.{fresh_diagram}
use Rattle.effbd.specs.Nets.{Net, read_net}
use Rattle.effbd.specs.Firing.{net_word_count, words_of, fresh_net_words, fresh_net}
use Rattle.effbd.specs.Patterns.{net_of}
use Rattle.effbd.specs.History.{Seen, fresh_ends, net_file_of}
use Rattle.ranges.specs.Tests.{decide}
use Rattle.play.specs.Demand.{demand-3}
use Rattle.calls.specs.CallList.{calls_of, list_after}
use Rattle.ends.specs.ReadyEnds.{net_length, NetOf}
use Rattle.calls.specs.LiveEnds.{Live, AllCalled}
use Rattle.play.specs.Played.{as_long, playable, Played, PlayedAs}
use Rattle.calls.proofs.Lists.{live-run-all, live-seen-all}
use Rattle.ends.proofs.LaidNets.{net-reads, fresh-is, fresh-net-is}

-- a state's length
pub long-by : (o : Outcome Net) (l w : ℕ) → accepted w ≡ words_of o → eqb l w ≡ as_long o l
unfolding words_of as_long
long-by (accepted n) l w e = let q : w ≡ net_word_count n = cc in ap (eqb l) q
long-by (refused number value) l w e = absurd (let z : ◌≡◌ {A = ℕ} 0 1 = cc in omega arith)

pub long-never : (o : Outcome Net) (l number value : ℕ) → refused number value ≡ words_of o → false ≡ as_long o l
unfolding words_of as_long
long-never (accepted n) l number value e = absurd (let z : ◌≡◌ {A = ℕ} 0 1 = cc in omega arith)
long-never (refused n v) l number value e = refl

-- the calls, from counts of 0
pub from-none : {file net : List ℕ} {station : ℕ} {leader follower calls leader' follower' calls' : List ℕ} {s t sent took : ℕ} → s ≡ 0 → t ≡ 0
    → AllCalled file net station (record { leader = leader; sent = s; follower = follower; taken = t }) calls leader' follower' calls' sent took
    → AllCalled file net station (record { leader = leader; sent = 0; follower = follower; taken = 0 }) calls leader' follower' calls' sent took
from-none {file} {net} {station} {leader} {follower} {calls} {leader'} {follower'} {calls'} {s} {t} {sent} {took} e f h =
    subst (λ (x : ℕ). AllCalled file net station (record { leader = leader; sent = 0; follower = follower; taken = x }) calls leader' follower' calls' sent took) f
    (subst (λ (x : ℕ). AllCalled file net station (record { leader = leader; sent = x; follower = follower; taken = t }) calls leader' follower' calls' sent took) e h)

-- nothing was done
pub unplayed : (o : Outcome Diagram) (number value : ℕ) → o ≡ refused number value → (file : List ℕ) (station : ℕ) (calls leader follower leader' : List ℕ) → leader' ≡ leader
    → (refused number value ≡ returning_zero o) × PlayedAs o file station calls leader follower calls leader' follower 0 0
unplayed (refused n v) number value e file station calls leader follower leader' l =
    (sym (ap returning_zero e), record { leader-kept = l; follower-kept = refl; list-kept = refl; none-sent = refl; none-taken = refl })
unplayed (accepted d) number value e file station calls leader follower leader' l = absurd (let z : ◌≡◌ {A = ℕ} 0 1 = cc in omega arith)

-- the list was played
pub played : (o : Outcome Diagram) (d : Diagram) → o ≡ accepted d → (file : List ℕ) (station : ℕ) (calls leader follower calls' leader' follower' : List ℕ) (sent took : ℕ)
    → Played file d station calls leader' follower' calls' sent took
    → (accepted 0 ≡ returning_zero o) × PlayedAs o file station calls leader follower calls' leader' follower' sent took
played o d e file station calls leader follower calls' leader' follower' sent took p = rw e (refl, p)

-- a file that is refused
pub file-refused : (file : List ℕ) (number value : ℕ) → refused number value ≡ net_length (read_diagram file) → (leader follower : List ℕ) → playable file leader follower ≡ refused number value
unfolding net_length playable
file-refused file number value e leader follower = go (read_diagram file) e
  where
    go : (o : Outcome Diagram) → refused number value ≡ net_length o
        → and_then o (λ d. cond (eqb (length leader) (places d) && eqb (length follower) (net_word_count (net_of d))) (accepted d) (refused 20 0)) ≡ refused number value
    go (accepted d) f = absurd (let z : ◌≡◌ {A = ℕ} 0 1 = cc in omega arith)
    go (refused n v) f = let a : n ≡ number = cc in let b : v ≡ value = cc in ap₂ refused a b

module _ (file net : List ℕ) (n : NetOf file net) (bytes : are_bytes file ≡ true) where
  as_long-is : (follower : List ℕ) (b : Bool) → b ≡ as_long (read_net net) (length follower) → eqb (length follower) (net_word_count (net_of n.diagram)) ≡ b
  unfolding as_long
  as_long-is follower b e = sym (e ∙ ap (λ (o : Outcome Net). as_long o (length follower)) (net-reads file net n bytes))

  playable-is : (leader follower : List ℕ) (a b : Bool) → eqb (length leader) (places n.diagram) ≡ a → eqb (length follower) (net_word_count (net_of n.diagram)) ≡ b
      → playable file leader follower ≡ cond (a && b) (accepted n.diagram) (refused 20 0)
  unfolding playable
  playable-is leader follower a b p q = ap (λ (o : Outcome Diagram). and_then o (λ d. cond (eqb (length leader) (places d) && eqb (length follower) (net_word_count (net_of d))) (accepted d) (refused 20 0))) n.read
      ∙ ap₂ (λ (x y : Bool). cond (x && y) (accepted n.diagram) (refused 20 0)) p q

  -- the follower's state has another length
  pub follower-off : (leader follower : List ℕ) → false ≡ as_long (read_net net) (length follower) → playable file leader follower ≡ refused 20 0
  follower-off leader follower e = decide (eqb (length leader) (places n.diagram))
      (λ t. playable-is leader follower true false t (as_long-is follower false e)) (λ t. playable-is leader follower false false t (as_long-is follower false e))

  -- the leader's state has another length
  pub leader-off : (leader follower leader' : List ℕ) (number value : ℕ) → true ≡ as_long (read_net net) (length follower)
      → refused number value ≡ returning_zero (fresh_diagram file leader) → leader' ≡ afterwards leader (fresh_diagram file leader)
      → (playable file leader follower ≡ refused number value) × (leader' ≡ leader)
  leader-off leader follower leader' number value e r l = decide (eqb (length leader) (places n.diagram))
      (λ t. let z : refused number value ≡ accepted 0 = r ∙ ap returning_zero (fresh-is file net n bytes leader true t) in absurd (let y : ◌≡◌ {A = ℕ} 0 1 = cc in omega arith))
      (λ t. let z : refused number value ≡ refused 20 0 = r ∙ ap returning_zero (fresh-is file net n bytes leader false t) in let a : 20 ≡ number = cc in let b : 0 ≡ value = cc in
      (playable-is leader follower false true t (as_long-is follower true e) ∙ ap₂ refused a b, l ∙ ap (afterwards leader) (fresh-is file net n bytes leader false t)))

  all-played : (station : ℕ) (calls leader' follower' calls' : List ℕ) (sent took : ℕ)
      → AllCalled file (net_file_of n.diagram) station (record { leader = fresh_words n.diagram; sent = 0; follower = fresh_net_words (net_of n.diagram); taken = 0 }) calls leader' follower' calls' sent took
      → Played file n.diagram station calls leader' follower' calls' sent took
  unfolding fresh_ends
  all-played station calls leader' follower' calls' sent took c =
      let d = n.diagram in
      let e = c.live ∙ sym (live-run-all file (net_file_of d) station (calls_of calls) (fresh_ends d)) in record {
        leader-holds = ap (λ (v : Live). v.leader) e;
        sent_is = ap (λ (v : Live). v.sent) e;
        follower-holds = ap (λ (v : Live). v.follower) e;
        taken_is = ap (λ (v : Live). v.taken) e;
        list-holds = c.list ∙ sym (ap (λ (s : List Seen). list_after (length calls) s calls) (live-seen-all file (net_file_of d) station (calls_of calls) (fresh_ends d)));
        claim = demand-3 file d bytes n.read station (calls_of calls);
      }

  -- both ends are fresh and the calls were made
  pub both-fresh : (station : ℕ) (leader follower fresh calls leader' follower' calls' : List ℕ) (sent took value : ℕ) → true ≡ as_long (read_net net) (length follower)
      → accepted value ≡ returning_zero (fresh_diagram file leader) → fresh ≡ afterwards leader (fresh_diagram file leader)
      → AllCalled file net station (record { leader = fresh; sent = 0; follower = afterwards follower (fresh_net net follower); taken = 0 }) calls leader' follower' calls' sent took
      → (accepted 0 ≡ returning_zero (playable file leader follower)) × PlayedAs (playable file leader follower) file station calls leader follower calls' leader' follower' sent took
  both-fresh station leader follower fresh calls leader' follower' calls' sent took value e r l c = decide (eqb (length leader) (places n.diagram))
      (λ t. let p = as_long-is follower true e in played (playable file leader follower) n.diagram (playable-is leader follower true true t p) file station calls leader follower calls' leader' follower' sent took
      (all-played station calls leader' follower' calls' sent took
      (subst (λ (x : List ℕ). AllCalled file x station (record { leader = fresh_words n.diagram; sent = 0; follower = fresh_net_words (net_of n.diagram); taken = 0 }) calls leader' follower' calls' sent took) n.is
      (subst (λ (x : List ℕ). AllCalled file net station (record { leader = fresh_words n.diagram; sent = 0; follower = x; taken = 0 }) calls leader' follower' calls' sent took)
      (ap (afterwards follower) (fresh-net-is file net n bytes follower p))
      (subst (λ (x : List ℕ). AllCalled file net station (record { leader = x; sent = 0; follower = afterwards follower (fresh_net net follower); taken = 0 }) calls leader' follower' calls' sent took)
      (l ∙ ap (afterwards leader) (fresh-is file net n bytes leader true t)) c)))))
      (λ t. let z : accepted value ≡ refused 20 0 = r ∙ ap returning_zero (fresh-is file net n bytes leader false t) in absurd (let y : ◌≡◌ {A = ℕ} 0 1 = cc in omega arith))
