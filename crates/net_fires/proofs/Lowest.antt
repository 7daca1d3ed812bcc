-- THEOREM (number_is): the lowest transition that the walk finds in an accepted net file is the lowest-numbered enabled one.
use Prim.Native.Nat.{ℕ, ◌+◌, ◌*◌, ◌≤◌, ◌<◌}
use mathlib.Core.Path.{◌≡◌, refl, sym, ◌∙◌, ap}
use mathlib.Core.Bool.{Bool, true, cond, ◌&&◌}
use mathlib.Core.List.{List, [], ◌∷◌, map}
use native.Mathlib.Omega.{arith}
use lib.Dec.{ltb, eqb}
use lib.ListN.{length, get_or, drop, take, length-map}
use borrow.Author.Tests.{eq-eqb, ne_eqb, lt-ltb, le-ltb}
use Rattle.ranges.specs.Tests.{decide}
use Rattle.ranges.specs.RangeLaws.{least-ext, least-low}
use Rattle.effbd.specs.Ranges.{least}
use Rattle.effbd.specs.Answers.{accepted, refused}
use Rattle.effbd.specs.Records.{are_bytes, word}
use Rattle.effbd.specs.Nets.{Net, Transition, read_net}
use Rattle.effbd.specs.Firing.{Behaviour, NetState, behaviour_of, covers, effect_of, net_state_of, net_word_count, no_effect, words_of}
use Rattle.effbd.specs.Transitions.{checked_net_number, lowest_enabled, transition_net}
use Rattle.agreement.proofs.Numbering.{get_d_map}
use Rattle.net_file.specs.Contents.{behind_places, transitions_in}
use Rattle.net_file.proofs.Accepted.{place-count}
use Rattle.net_file.proofs.Answers.{Read, refused-inv}
use Rattle.net_file.proofs.Walks.{length-transitions}
use Rattle.net_walk.specs.Walked.{lowest, stands}
use Rattle.net_walk.proofs.Rising.{enabled-is}
use Rattle.net_walk.proofs.FineArcs.{arcs-fine}

-- the walk finds the least number that stands
walk_is : (ts : List Transition) (marks : List ℕ) (label : ℕ) (none : Transition) → lowest ts marks label ≡ least (length ts) (λ x. stands (get_or ts x none) marks label)
unfolding lowest
walk_is [] marks label none = refl
walk_is (t ∷ ts) marks label none = decide (stands t marks label)
    (λ y. rw (least, y))
    (λ y. rw (least, y) (let e = walk_is ts marks label none in omega arith))

module _ (file : List ℕ) (n : Net) (bytes : are_bytes file ≡ true) (says : read_net file ≡ accepted n) (marks clocks : List ℕ) (r : ℕ) where
  none : Transition
  none = record { label = 0; earliest = 0; latest = 0; arcs = [] }

  lowest-is : lowest n.transitions marks r ≡ lowest_enabled (behaviour_of n) r (record { marks = marks; clocks = clocks })
  unfolding lowest_enabled stands effect_of
  lowest-is = walk_is n.transitions marks r none
      ∙ (least-ext (length n.transitions) _ _ same ∙ ap (λ (k : ℕ). least k (λ x. let t = get_or (map effect_of n.transitions) x no_effect in eqb t.label r && covers (behaviour_of n) t marks)) (sym (length-map n.transitions effect_of)))
    where
      same : (x : ℕ) → x < length n.transitions
          → stands (get_or n.transitions x none) marks r ≡ (let t = get_or (map effect_of n.transitions) x no_effect in eqb t.label r && covers (behaviour_of n) t marks)
      same x l = rw (get_d_map effect_of n.transitions x none no_effect l)
          (ap (λ (b : Bool). eqb (get_or n.transitions x none).label r && b) (sym (enabled-is (behaviour_of n) (get_or n.transitions x none) marks (arcs-fine file n bytes says x none l))))

lowest-low : (n : Behaviour) (r : ℕ) (s : NetState) → lowest_enabled n r s ≤ length n.effects
unfolding lowest_enabled
lowest-low n r s = least-low (length n.effects) _

-- a refused file, a state of another length
pub file-turned : (file words : List ℕ) (r a b : ℕ) → refused a b ≡ words_of (read_net file) → refused a b ≡ transition_net file r words
unfolding transition_net
file-turned file words r a b e = rw (refused-inv file a b e)

module _ (file words : List ℕ) (size r : ℕ) (read : Read file size) where
  pub length-off : (length words ≡ size → ⊥) → refused 20 0 ≡ transition_net file r words
  unfolding transition_net checked_net_number
  length-off h = rw (read.says, ne_eqb (length words) (net_word_count read.net) (λ q. h (q ∙ read.counts)))

  module _ (bytes : are_bytes file ≡ true) (long : length words ≡ size) {places count x : ℕ} {transitions : List ℕ} (ep : places ≡ word file 4) (ec : count ≡ word file 6)
      (et : transitions ≡ drop (8 + 6 * places) file) (ex : x ≡ lowest (transitions_in count transitions) (take places words) r) where
    same-walk : lowest (transitions_in count transitions) (take places words) r ≡ lowest read.net.transitions (take (length read.net.marks) words) r
    unfolding behind_places
    same-walk = rw (place-count file read.net read.holds, read.holds.transitions, et, ec, ep)

    walked : x ≡ lowest_enabled (behaviour_of read.net) r (net_state_of (length read.net.marks) words)
    walked = ex ∙ (same-walk ∙ lowest-is file read.net bytes read.says (take (length read.net.marks) words) (drop (length read.net.marks) words) r)

    many : length (behaviour_of read.net).effects ≡ count
    many = length-map read.net.transitions effect_of ∙ (ap length read.holds.transitions ∙ (length-transitions (word file 6) _ ∙ sym ec))

    told : cond (ltb x count) (accepted x) (refused 22 r) ≡ transition_net file r words
    unfolding transition_net checked_net_number
    told = rw (read.says, eq-eqb (length words) (net_word_count read.net) (long ∙ sym read.counts), ← walked, many)

    pub none-enabled : x ≡ count → refused 22 r ≡ transition_net file r words
    none-enabled e = sym (rw (le-ltb x count (omega (arith, e)))) ∙ told

    pub number_is : (x ≡ count → ⊥) → accepted x ≡ transition_net file r words
    number_is h = sym (rw (lt-ltb x count below)) ∙ told
      where
        below : x < count
        below = omega (arith, walked, many, lowest-low (behaviour_of read.net) r (net_state_of (length read.net.marks) words), h)
