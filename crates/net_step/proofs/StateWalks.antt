-- Walks over the words of a state: who holds a wait, new clocks.
use Prim.Native.Nat.{ℕ, suc, ◌+◌, ◌-◌, ◌≤◌, ◌<◌}
use mathlib.Core.Path.{◌≡◌, refl, ap, sym, ◌∙◌}
use mathlib.Core.Bool.{Bool, true, false, ◌||◌}
use mathlib.Core.List.{List, [], ◌∷◌, ◌++◌}
use native.Mathlib.Nat.{sub-zero}
use native.Mathlib.Numerals.{add-one}
use native.Mathlib.Omega.{arith}
use lib.ListN.{length, drop, get_or, set, length-append, drop_of_length-le}
use lib.Seq.{drop-cons, get_or_at, set_at, append_snoc}
use Rattle.effbd.specs.Nets.{Transition}
use Rattle.net_file.specs.Contents.{transition_in, after_transition, transitions_in}
use Rattle.net_file.proofs.Walks.{transitions-more, transitions-none}
use Rattle.net_step.specs.Stepping.{clocks_by, holds_wait, wait_held}

-- who holds a wait
module _ (ticks : ℕ) (marks : List ℕ) (count x : ℕ) (rest clocks : List ℕ) where
  held_at : (v : Bool) → x < count → holds_wait ticks marks (transition_in rest) (get_or clocks x 0) ≡ v
      → wait_held ticks marks x (transitions_in (count - x) rest) clocks ≡ (v || wait_held ticks marks (x + 1) (transitions_in (count - (x + 1)) (after_transition rest)) clocks)
  unfolding wait_held
  held_at v l h = rw (transitions-more (count - x) (count - (x + 1)) rest (omega arith), h)

  pub held-go : x < count → holds_wait ticks marks (transition_in rest) (get_or clocks x 0) ≡ false
      → wait_held ticks marks x (transitions_in (count - x) rest) clocks ≡ wait_held ticks marks (x + 1) (transitions_in (count - (x + 1)) (after_transition rest)) clocks
  held-go l h = held_at false l h

  pub held-stop : x < count → holds_wait ticks marks (transition_in rest) (get_or clocks x 0) ≡ true → wait_held ticks marks x (transitions_in (count - x) rest) clocks ≡ true
  held-stop l h = held_at true l h

  pub held-end : count ≤ x → wait_held ticks marks x (transitions_in (count - x) rest) clocks ≡ false
  unfolding wait_held
  held-end l = rw (transitions-none (count - x) rest (omega arith))

-- where the writer of clocks stands
pub record Written (f : ℕ → Transition → ℕ → ℕ) (count : ℕ) (transitions clocks₀ clocks rest : List ℕ) (x : ℕ) : Type 0 where
  pub few : x ≤ count
  pub front : List ℕ
  pub size : length front ≡ x
  pub is : clocks ≡ front ++ drop x clocks₀
  pub same : front ++ clocks_by f x (transitions_in (count - x) rest) clocks₀ ≡ clocks_by f 0 (transitions_in count transitions) clocks₀

module _ (f : ℕ → Transition → ℕ → ℕ) (count : ℕ) (transitions clocks₀ : List ℕ) where
  pub write-none : Written f count transitions clocks₀ clocks₀ transitions 0
  write-none = record { few = omega arith; front = []; size = refl; is = refl; same = rw sub-zero }

  clocks-more : (x : ℕ) (rest : List ℕ) → x < count
      → clocks_by f x (transitions_in (count - x) rest) clocks₀ ≡ f x (transition_in rest) (get_or clocks₀ x 0) ∷ clocks_by f (x + 1) (transitions_in (count - (x + 1)) (after_transition rest)) clocks₀
  unfolding clocks_by
  clocks-more x rest l = rw (transitions-more (count - x) (count - (x + 1)) rest (omega arith))

  module _ (clocks rest : List ℕ) (x : ℕ) (w : Written f count transitions clocks₀ clocks rest x) where
    pub write-go : (v old : ℕ) (next more : List ℕ) → length clocks₀ ≡ count → x < count → old ≡ get_or clocks x 0 → v ≡ f x (transition_in rest) old
        → next ≡ set clocks x v → more ≡ after_transition rest → Written f count transitions clocks₀ next more (x + 1)
    write-go v old next more ln l eo ev ec er =
        let lx : x < length clocks₀ = omega arith in
        let c₁ : clocks ≡ w.front ++ (get_or clocks₀ x 0 ∷ drop (suc x) clocks₀) = w.is ∙ ap (λ (q : List ℕ). w.front ++ q) (drop-cons clocks₀ x 0 lx) in
        let o₁ : old ≡ get_or clocks₀ x 0 = eo ∙ ap (λ (q : List ℕ). get_or q x 0) c₁ ∙ get_or_at w.front (get_or clocks₀ x 0) (drop (suc x) clocks₀) 0 x w.size in
        let v₁ : v ≡ f x (transition_in rest) (get_or clocks₀ x 0) = ev ∙ ap (λ (q : ℕ). f x (transition_in rest) q) o₁ in
        record {
          few = omega arith;
          front = w.front ++ (v ∷ []);
          size = length-append w.front (v ∷ []) ∙ (let z = w.size in omega arith);
          is = ec ∙ ap (λ (q : List ℕ). set q x v) c₁ ∙ set_at w.front (get_or clocks₀ x 0) (drop (suc x) clocks₀) v x w.size ∙ sym (append_snoc w.front v (drop (suc x) clocks₀)) ∙ rw add-one;
          same = rw (er, append_snoc w.front v (clocks_by f (x + 1) (transitions_in (count - (x + 1)) (after_transition rest)) clocks₀), v₁, ← clocks-more x rest l) w.same;
        }

    pub write-end : length clocks₀ ≡ count → count ≤ x → clocks ≡ clocks_by f 0 (transitions_in count transitions) clocks₀
    unfolding clocks_by
    write-end ln l =
        let h : length clocks₀ ≤ x = omega arith in
        w.is ∙ rw (drop_of_length-le clocks₀ h) (rw (transitions-none (count - x) rest (omega arith)) at w.same)
