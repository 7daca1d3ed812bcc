-- Both ends made ready for their first call: the sizes of their states, the fresh words at the start of what is lent.
use Prim.Native.Nat.{ℕ, ◌+◌, ◌≤◌}
use mathlib.Core.Path.{◌≡◌, refl, sym, ◌∙◌, ap, ap₂, subst}
use mathlib.Core.Bool.{true, ◌&&◌}
use mathlib.Core.List.{List, ◌++◌}
use native.Mathlib.Omega.{arith}
use lib.ListN.{length, take, drop, length-append}
use lib.Seq.{length-take-le}
use lib.Dec.{leb}
use borrow.Author.Tests.{eq-eqb, leb-true}
use Rattle.effbd.specs.Answers.{Outcome, accepted, refused, and_then, returning_zero, afterwards}
use Rattle.effbd.specs.Records.{are_bytes}
use Rattle.effbd.specs.Diagrams.{Diagram}
use Rattle.effbd.specs.Nesting.{read_diagram}
use Rattle.effbd.specs.Layout.{places}
use Rattle.effbd.specs.States.{state_words, fresh_words, state_length}
use Rattle.effbd.specs.Moves.{fresh_diagram}
use Rattle.effbd.specs.Nets.{Net, read_net, most_places, most_transitions}
use Rattle.effbd.specs.Firing.{net_word_count, words_of, fresh_net_words, fresh_net}
use Rattle.effbd.specs.Patterns.{net_of}
use Rattle.effbd.specs.History.{net_file_of}
use Rattle.translate.specs.NetRecords.{net_room}
use Rattle.ranges.specs.RangeLaws.{length-tab}
use Rattle.ranges.specs.Tests.{and_left, and_right}
use Rattle.agreement.specs.AcceptedFiles.{held}
use Rattle.agreement.proofs.WellFormed.{few-places}
use Rattle.agreement.specs.Formed.{well_formed}
use Rattle.agreement.proofs.Theorems.{net-well-formed}
use Rattle.ends.specs.ReadyEnds.{net_length, NetLaidAs, NetOf, FreshEnds, FreshOf, ReadyAs, leader_room, follower_room}
use Rattle.ends.proofs.LaidNets.{net-reads, fresh-is, fresh-net-is}

few_words : (n : Net) → well_formed n ≡ true → net_word_count n ≤ follower_room
unfolding well_formed
few_words n w =
    let a = and_right (leb 1 (length n.marks)) _ (and_left (leb 1 (length n.marks) && (leb (length n.marks) most_places && leb (length n.transitions) most_transitions)) _ w) in
    let b = leb-true (length n.marks) most_places (and_left (leb (length n.marks) most_places) _ a) in
    let c = leb-true (length n.transitions) most_transitions (and_right (leb (length n.marks) most_places) _ a) in
    omega arith

module _ (file net : List ℕ) (n : NetOf file net) (bytes : are_bytes file ≡ true) where
  leader-words : (w : ℕ) → w ≡ afterwards 0 (state_length file) → w ≡ places n.diagram
  unfolding state_length
  leader-words w e = e ∙ ap (λ (o : Outcome Diagram). afterwards 0 (and_then o (λ d. accepted (places d)))) n.read

  pub leader-few : (w : ℕ) → w ≡ afterwards 0 (state_length file) → w ≤ leader_room
  leader-few w e = let few = few-places n.diagram (held file n.diagram bytes n.read) in let c = leader-words w e in omega arith

  follower-words : (w : ℕ) → w ≡ afterwards 0 (words_of (read_net net)) → w ≡ net_word_count (net_of n.diagram)
  unfolding words_of
  follower-words w e = e ∙ ap (λ (o : Outcome Net). afterwards 0 (and_then o (λ x. accepted (net_word_count x)))) (net-reads file net n bytes)

  pub follower-few : (w : ℕ) → w ≡ afterwards 0 (words_of (read_net net)) → w ≤ follower_room
  follower-few w e = subst (λ (x : ℕ). x ≤ follower_room) (sym (follower-words w e)) (few_words (net_of n.diagram) (net-well-formed file n.diagram bytes n.read))

  -- each state's part was lent and made fresh
  pub ends_fresh : (leader follower : List ℕ) (w w' k k' : ℕ) (fresh fresh' : List ℕ) → w ≡ afterwards 0 (state_length file) → w' ≡ afterwards 0 (words_of (read_net net))
      → k ≡ w → k' ≡ w' → leader_room ≤ length leader → follower_room ≤ length follower
      → fresh ≡ afterwards (take k leader) (fresh_diagram file (take k leader)) → fresh' ≡ afterwards (take k' follower) (fresh_net net (take k' follower))
      → FreshOf file leader follower (fresh ++ drop k leader) (fresh' ++ drop k' follower) w w'
  ends_fresh leader follower w w' k k' fresh fresh' e e' q q' l l' f f' =
      let a = leader-few w e in let a' = follower-few w' e' in let p = leader-words w e in let p' = follower-words w' e' in
      let lent = length-take-le k leader (omega arith) ∙ (q ∙ p) in let lent' = length-take-le k' follower (omega arith) ∙ (q' ∙ p') in record {
        diagram = n.diagram;
        read = n.read;
        ends = record {
          leader-long = p;
          leader-fits = a;
          leader-holds = ap₂ (λ (x : List ℕ) (y : ℕ). x ++ drop y leader) (f ∙ ap (afterwards (take k leader)) (fresh-is file net n bytes (take k leader) true (eq-eqb _ _ lent))) q;
          follower-long = p';
          follower-fits = a';
          follower-holds = ap₂ (λ (x : List ℕ) (y : ℕ). x ++ drop y follower) (f' ∙ ap (afterwards (take k' follower)) (fresh-net-is file net n bytes (take k' follower) (eq-eqb _ _ lent'))) q';
        };
      }

-- a refused file has no ends
pub no-ends : (file net leader follower net' : List ℕ) (number value : ℕ) → refused number value ≡ net_length (read_diagram file) → NetLaidAs (read_diagram file) net net'
    → (refused number value ≡ returning_zero (read_diagram file)) × ReadyAs (read_diagram file) net leader follower net' leader follower 0 0 0
unfolding net_length
no-ends file net leader follower net' number value e h = go (read_diagram file) e h
  where
    go : (o : Outcome Diagram) → refused number value ≡ net_length o → NetLaidAs o net net'
        → (refused number value ≡ returning_zero o) × ReadyAs o net leader follower net' leader follower 0 0 0
    go (accepted d) f l = absurd (let z : ◌≡◌ {A = ℕ} 0 1 = cc in omega arith)
    go (refused n v) f l = (f, record { net-kept = l; leader-kept = refl; follower-kept = refl; no-net = refl; no-leader = refl; no-follower = refl })

-- an accepted one has them
pub both-ready : (file net leader follower net' leader' follower' : List ℕ) (size words words' : ℕ) → accepted size ≡ net_length (read_diagram file)
    → NetLaidAs (read_diagram file) net net' → FreshOf file leader follower leader' follower' words words'
    → (accepted 0 ≡ returning_zero (read_diagram file)) × ReadyAs (read_diagram file) net leader follower net' leader' follower' size words words'
unfolding net_length
both-ready file net leader follower net' leader' follower' size words words' e h f = go (read_diagram file) refl e h
  where
    go : (o : Outcome Diagram) → read_diagram file ≡ o → accepted size ≡ net_length o → NetLaidAs o net net'
        → (accepted 0 ≡ returning_zero o) × ReadyAs o net leader follower net' leader' follower' size words words'
    go (accepted d) r g l =
        let q : size ≡ length (net_file_of d) = cc in
        let same : f.diagram ≡ d = (let r' = f.read in cc) in (
          refl,
          record {
            net-long = q;
            net-fits = let s = l.small in omega arith;
            net-holds = l.holds ∙ ap (λ (x : ℕ). net_file_of d ++ drop x net) (sym q);
            fresh = subst (λ (x : Diagram). FreshEnds x leader follower leader' follower' words words') same f.ends;
          },
        )
    go (refused n v) r g l = absurd (let z : ◌≡◌ {A = ℕ} 0 1 = cc in omega arith)

-- whatever the file, each size is one that what is lent has room for
pub sizes-fit : (o : Outcome Diagram) (net leader follower net' leader' follower' : List ℕ) (size words words' : ℕ)
    → ReadyAs o net leader follower net' leader' follower' size words words' → (size ≤ net_room) × ((words ≤ leader_room) × (words' ≤ follower_room))
sizes-fit (accepted d) net leader follower net' leader' follower' size words words' r = (r.net-fits, (r.fresh.leader-fits, r.fresh.follower-fits))
sizes-fit (refused n v) net leader follower net' leader' follower' size words words' r =
    let a = r.no-net in let b = r.no-leader in let c = r.no-follower in (omega arith, (omega arith, omega arith))

fresh-long : (d : Diagram) → length (fresh_words d) ≡ places d
unfolding fresh_words state_words
fresh-long d = length-tab (places d) _

fresh-net-long : (n : Net) → length (fresh_net_words n) ≡ net_word_count n
unfolding fresh_net_words
fresh-net-long n = length-append n.marks _ ∙ ap (λ (k : ℕ). length n.marks + k) (length-tab (length n.transitions) (λ x. 0))

-- a part that starts what was lent is no longer than that
starts-within : (after front rest : List ℕ) (n : ℕ) → after ≡ front ++ rest → n ≡ length front → n ≤ length after
starts-within after front rest n e f = let a = ap length e ∙ length-append front rest in omega arith

-- and what was lent has each of them as a part
pub sizes-within : (o : Outcome Diagram) (net leader follower net' leader' follower' : List ℕ) (size words words' : ℕ)
    → ReadyAs o net leader follower net' leader' follower' size words words' → (size ≤ length net') × ((words ≤ length leader') × (words' ≤ length follower'))
sizes-within (accepted d) net leader follower net' leader' follower' size words words' r =
    let f = r.fresh in (
      starts-within net' (net_file_of d) (drop size net) size r.net-holds r.net-long,
      (
        starts-within leader' (fresh_words d) (drop words leader) words f.leader-holds (f.leader-long ∙ sym (fresh-long d)),
        starts-within follower' (fresh_net_words (net_of d)) (drop words' follower) words' f.follower-holds (f.follower-long ∙ sym (fresh-net-long (net_of d))),
      ),
    )
sizes-within (refused n v) net leader follower net' leader' follower' size words words' r =
    let a = r.no-net in let b = r.no-leader in let c = r.no-follower in (omega arith, (omega arith, omega arith))
