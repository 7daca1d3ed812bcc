-- Kinds of rows.
use Rattle.std.specs.Prelude.{ℕ, ◌≤◌, ◌<◌, ◌≡◌, refl, ◌≢◌, true, false, ltb}
use Rattle.std.proofs.Common.{sym, ◌∙◌, ap, ltb-true, ltb-false, eqb-true, eq-eqb}
use Rattle.std.proofs.Math.ListN.{get_or-eq_default}
use Rattle.effbd.specs.Diagrams.{Diagram, Kind, Row, and_close, and_open, box_close, box_exit, box_open, branch, end, function, it_close, it_open, kind, kind_of, loop_exit, lp_close, lp_open, number_of, or_close, or_open, plain, row_count, same_kind}
use Rattle.ranges.specs.Tests.{decide, clash}

-- a number that no row has stands for an END
pub kind-past : (d : Diagram) (r : ℕ) → row_count d ≤ r → kind d r ≡ end
kind-past d r l = ap (λ (x : Row). x.kind) (get_or-eq_default d.rows (plain end) l)

pub kind-in : (d : Diagram) (r : ℕ) → kind d r ≢ end → r < row_count d
kind-in d r h = decide (ltb r (row_count d)) (λ q. ltb-true r (row_count d) q) (λ q. absurd (h (kind-past d r (ltb-false r (row_count d) q))))

of_code : (k : Kind) → kind_of (number_of k) ≡ k
unfolding kind_of
of_code function = refl
of_code and_open = refl
of_code branch = refl
of_code and_close = refl
of_code or_open = refl
of_code or_close = refl
of_code it_open = refl
of_code it_close = refl
of_code lp_open = refl
of_code lp_close = refl
of_code loop_exit = refl
of_code end = refl
of_code box_open = refl
of_code box_close = refl
of_code box_exit = refl

pub same-eq : (k j : Kind) → same_kind k j ≡ true → k ≡ j
same-eq k j e = sym (of_code k) ∙ (ap kind_of (eqb-true (number_of k) (number_of j) e) ∙ of_code j)

pub eq-same : (k j : Kind) → k ≡ j → same_kind k j ≡ true
eq-same k j e = eq-eqb (number_of k) (number_of j) (ap number_of e)

pub ne_same : (k j : Kind) → k ≢ j → same_kind k j ≡ false
ne_same k j h = decide (same_kind k j) (λ e. absurd (h (same-eq k j e))) (λ e. e)

pub not-kind : (d : Diagram) (x : ℕ) {k : Kind} → kind d x ≡ k → (j : Kind) → same_kind k j ≡ false → kind d x ≢ j
not-kind d x {k} e j f g = clash (eq-same k j (sym e ∙ g)) f
