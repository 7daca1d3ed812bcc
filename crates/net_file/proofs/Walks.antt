-- Walking arcs and transitions by tails: one more, no more.
use Prim.Native.Nat.{ℕ, zero, suc, ◌+◌, ◌*◌, ◌≤◌, ◌<◌}
use mathlib.Core.Path.{◌≡◌, refl, ap, ◌∙◌}
use mathlib.Core.Bool.{true, false}
use mathlib.Core.List.{List, [], ◌∷◌}
use native.Mathlib.Nat.{le_of_suc-le-suc, not-suc-le-zero}
use native.Mathlib.Omega.{arith}
use borrow.Author.Tests.{leb-true}
use lib.ListN.{length, drop, get_or, length-drop}
use lib.Seq.{drop-drop}
use lib.Dec.{leb}
use Rattle.ranges.specs.Tests.{decide, and_left}
use Rattle.effbd.specs.Records.{kind_at}
use Rattle.effbd.specs.Nets.{Transition, take_arc, arc_due, arc_at}
use Rattle.net_file.specs.Contents.{arc_here, arcs_within, arcs_in, past_arcs, transition_in, after_transition, transitions_in, part_at}

pub here-long : (rest : List ℕ) → arc_here rest ≡ true → 8 ≤ length rest
unfolding arc_here
here-long rest h = leb-true 8 (length rest) (and_left (leb 8 (length rest)) (arc_due take_arc (kind_at rest)) h)

-- enough fuel is enough
same-arcs : (f g : ℕ) (rest : List ℕ) → length rest ≤ f → length rest ≤ g → arcs_within f rest ≡ arcs_within g rest
unfolding arcs_within
same-arcs zero zero rest p q = refl
same-arcs zero (suc g) rest p q = decide (arc_here rest) (λ h. let l = here-long rest h in absurd (omega arith)) (λ h. rw h)
same-arcs (suc f) zero rest p q = decide (arc_here rest) (λ h. let l = here-long rest h in absurd (omega arith)) (λ h. rw h)
same-arcs (suc f) (suc g) rest p q = decide (arc_here rest)
    (λ h. let l = here-long rest h in rw (h, same-arcs f g (drop 8 rest) (omega (arith, length-drop 8 rest)) (omega (arith, length-drop 8 rest))))
    (λ h. rw h)

pub arcs-more : (rest : List ℕ) → arc_here rest ≡ true → arcs_in rest ≡ arc_at rest ∷ arcs_in (drop 8 rest)
unfolding arcs_in arcs_within
arcs-more rest h =
    let l = here-long rest h in
    same-arcs (length rest) (suc (length rest)) rest (omega arith) (omega arith)
    ∙ rw (h, same-arcs (length rest) (length (drop 8 rest)) (drop 8 rest) (omega (arith, length-drop 8 rest)) (omega arith))

pub arcs-done : (rest : List ℕ) → arc_here rest ≡ false → arcs_in rest ≡ []
unfolding arcs_in arcs_within
arcs-done rest h = same-arcs (length rest) (suc (length rest)) rest (omega arith) (omega arith) ∙ rw h

pub past_more : (rest : List ℕ) → arc_here rest ≡ true → past_arcs rest ≡ past_arcs (drop 8 rest)
unfolding past_arcs
past_more rest h =
    rw (arcs-more rest h, drop-drop (8 * length (arcs_in (drop 8 rest))) 8 rest)
    (let e : 8 * suc (length (arcs_in (drop 8 rest))) ≡ 8 + 8 * length (arcs_in (drop 8 rest)) = omega arith in ap (λ (i : ℕ). drop i rest) e)

pub past-done : (rest : List ℕ) → arc_here rest ≡ false → past_arcs rest ≡ rest
unfolding past_arcs
past-done rest h = rw (arcs-done rest h)

-- transitions
pub transitions-more : (a b : ℕ) (rest : List ℕ) → a ≡ suc b → transitions_in a rest ≡ transition_in rest ∷ transitions_in b (after_transition rest)
unfolding transitions_in
transitions-more a b rest e = rw e

pub transitions-none : (a : ℕ) (rest : List ℕ) → a ≡ 0 → transitions_in a rest ≡ []
unfolding transitions_in
transitions-none a rest e = rw e

pub length-transitions : (n : ℕ) (rest : List ℕ) → length (transitions_in n rest) ≡ n
unfolding transitions_in
length-transitions zero rest = refl
length-transitions (suc n) rest = ap suc (length-transitions n (after_transition rest))

pub transition-at : (n j : ℕ) (rest : List ℕ) (none : Transition) → j < n → get_or (transitions_in n rest) j none ≡ transition_in (part_at j rest)
unfolding transitions_in part_at
transition-at zero j rest none l = absurd (not-suc-le-zero l)
transition-at (suc n) zero rest none l = refl
transition-at (suc n) (suc j) rest none l = transition-at n j (after_transition rest) none (le_of_suc-le-suc l)

pub part-more : (a b : ℕ) (rest : List ℕ) → a ≡ suc b → part_at a rest ≡ part_at b (after_transition rest)
unfolding part_at
part-more a b rest e = rw e

pub part_none : (a : ℕ) (rest : List ℕ) → a ≡ 0 → part_at a rest ≡ rest
unfolding part_at
part_none a rest e = rw e
