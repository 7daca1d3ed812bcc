-- How long the annex text is.
use Rattle.std.specs.Prelude.{ℕ, zero, suc, ◌+◌, ◌*◌, ◌≤◌, ◌≡◌, refl, Bool, ◌&&◌, List, [], ◌∷◌, ◌++◌, map, length, eqb}
use Rattle.std.proofs.Common.{subst}
use Rattle.std.proofs.Math.Bool.{true}
use native.Mathlib.Omega.{arith}
use Rattle.std.proofs.Math.ListN.{length-append}
use Rattle.std.proofs.Math.Dec.{leb}
use borrow.Author.Tests.{leb-true}
use Rattle.effbd.specs.Answers.{Outcome, accepted, refused, and_then}
use Rattle.effbd.specs.Records.{are_bytes}
use Rattle.effbd.specs.Diagrams.{Diagram, row_count}
use Rattle.effbd.specs.Layout.{place_of, places}
use Rattle.effbd.specs.Nesting.{read_diagram}
use Rattle.effbd.specs.Nets.{Arc, Transition, Net, arc_bytes, transition_bytes, mark_bytes, net_bytes, most_places, most_transitions}
use Rattle.effbd.specs.Patterns.{Name, arcs_of, join_range, ranges_from, names, pattern_of, transition_of, net_of}
use Rattle.effbd.specs.Annex.{number, numbers, line, t_letter, label_letters, from_letters, to_letters, arc_letters, arc_lines, transition_lines, net_lines, printed, fitted, annex_in}
use Rattle.text.specs.NumberLengths.{number_short}
use Rattle.agreement.specs.AcceptedFiles.{AllOf, Held, held}
use Rattle.ranges.specs.Tests.{decide, and_left, and_right}
use Rattle.agreement.specs.ByteLaws.{bind_inv, never}
use Rattle.agreement.specs.Counts.{counts-few}
use Rattle.agreement.specs.Formed.{marks_fine, transitions_fine, well_formed}
use Rattle.agreement.proofs.WellFormed.{well-made}

pair-short : (letters : List ℕ) (first second : ℕ) → length (line letters (first ∷ second ∷ [])) ≤ length letters + 23
unfolding numbers
pair-short letters first second =
    let a = length-append letters ((number first ++ (number second ++ [])) ++ (10 ∷ [])) in
    let b = length-append (number first ++ (number second ++ [])) (10 ∷ []) in
    let c = length-append (number first) (number second ++ []) in
    let d = length-append (number second) [] in
    let e = number_short first in
    let f = number_short second in
    omega arith

letters-short : (k : ℕ) → length (arc_letters k) ≤ 5
letters-short k = decide (eqb k 35) (λ e. rw e (omega arith)) (λ e. rw e (decide (eqb k 36) (λ f. rw f (omega arith)) (λ f. rw f (omega arith))))

-- a text is at most six times as long as the bytes that say it
arcs-short : (xs : List Arc) → length (arc_lines xs) ≤ 6 * length (arc_bytes xs)
unfolding arc_lines arc_bytes
arcs-short [] = omega arith
arcs-short (x ∷ xs) =
    let a = length-append (line (arc_letters x.kind) (x.first ∷ x.second ∷ [])) (arc_lines xs) in
    let b = pair-short (arc_letters x.kind) x.first x.second in
    let c = letters-short x.kind in
    let d = arcs-short xs in
    omega arith

numbers-short : (ms : List ℕ) → length (numbers ms) ≤ 6 * length (mark_bytes ms)
unfolding numbers mark_bytes
numbers-short [] = omega arith
numbers-short (m ∷ ms) = let a = length-append (number m) (numbers ms) in let b = number_short m in let c = numbers-short ms in omega arith

first-line : (j label earliest latest : ℕ)
    → length (t_letter ++ (number j ++ (label_letters ++ (number label ++ (from_letters ++ (number earliest ++ (to_letters ++ (number latest ++ (10 ∷ []))))))))) ≤ 60
first-line j label earliest latest =
    let a = length-append (number j) (label_letters ++ (number label ++ (from_letters ++ (number earliest ++ (to_letters ++ (number latest ++ (10 ∷ []))))))) in
    let b = length-append (number label) (from_letters ++ (number earliest ++ (to_letters ++ (number latest ++ (10 ∷ []))))) in
    let c = length-append (number earliest) (to_letters ++ (number latest ++ (10 ∷ []))) in
    let d = length-append (number latest) (10 ∷ []) in
    let e = number_short j in
    let f = number_short label in
    let g = number_short earliest in
    let h = number_short latest in
    omega arith

transitions-short : (j : ℕ) (ts : List Transition) → length (transition_lines j ts) ≤ 6 * length (transition_bytes ts)
unfolding transition_lines transition_bytes
transitions-short j [] = omega arith
transitions-short j (t ∷ ts) =
    let a = length-append (t_letter ++ (number j ++ (label_letters ++ (number t.label ++ (from_letters ++ (number t.earliest ++ (to_letters ++ (number t.latest ++ (10 ∷ [])))))))))
    (arc_lines t.arcs ++ transition_lines (suc j) ts) in
    let b = length-append (arc_lines t.arcs) (transition_lines (suc j) ts) in
    let c = length-append (arc_bytes t.arcs) (transition_bytes ts) in
    let d = first-line j t.label t.earliest t.latest in
    let e = arcs-short t.arcs in
    let f = transitions-short (suc j) ts in
    omega arith

net-short : (n : Net) → length (net_lines n) ≤ 6 * length (net_bytes n)
unfolding net_lines net_bytes
net-short n =
    let a = length-append (line (110 ∷ 101 ∷ 116 ∷ []) (length n.marks ∷ length n.transitions ∷ [])) (line (109 ∷ 97 ∷ 114 ∷ 107 ∷ 115 ∷ []) n.marks ++ transition_lines 0 n.transitions) in
    let b = length-append (line (109 ∷ 97 ∷ 114 ∷ 107 ∷ 115 ∷ []) n.marks) (transition_lines 0 n.transitions) in
    let c = length-append (numbers n.marks) (10 ∷ []) in
    let d = length-append (mark_bytes n.marks) (transition_bytes n.transitions) in
    let e = pair-short (110 ∷ 101 ∷ 116 ∷ []) (length n.marks) (length n.transitions) in
    let f = numbers-short n.marks in
    let g = transitions-short 0 n.transitions in
    omega arith

printed-short : (o : Outcome Net) (most : ℕ) → 5 ≤ most → ((n : Net) → o ≡ accepted n → length (net_bytes n) ≤ most) → length (printed o) ≤ 6 * most
unfolding printed
printed-short (accepted n) most l h = let a = net-short n in let b = h n refl in omega arith
printed-short (refused number value) most l h = let a = pair-short (114 ∷ 101 ∷ 102 ∷ 117 ∷ 115 ∷ 101 ∷ 100 ∷ []) number value in omega arith

fitted-small : (room : ℕ) (m n : Net) → fitted room m ≡ accepted n → (length (net_bytes n) ≤ room) × (m ≡ n)
fitted-small room m n e = decide (leb (length (net_bytes m)) room)
    (λ z. let y : m ≡ n = (let w : accepted m ≡ accepted n = rw z at e in cc) in (subst (λ x. length (net_bytes x) ≤ room) y (leb-true (length (net_bytes m)) room z), y))
    (λ z. never (rw z at e))

of-diagram : (file : List ℕ) (room : ℕ) (n : Net) → and_then (read_diagram file) (λ d. fitted room (net_of d)) ≡ accepted n
    → (d : Diagram) × (read_diagram file ≡ accepted d) × (length (net_bytes n) ≤ room) × (net_of d ≡ n)
of-diagram file room n e = let a = bind_inv (read_diagram file) (λ d. fitted room (net_of d)) n e in
    let b = fitted-small room (net_of a.0) n a.2 in (a.0, a.1, b.0, b.1)

-- THEOREM: 393,216 bytes are enough for the text of any file, where 65,536 bytes or less are lent for the net
pub annex-fits : (room : ℕ) (file : List ℕ) → room ≤ 65536 → length (annex_in room file) ≤ 393216
unfolding annex_in
annex-fits room file l = printed-short (and_then (read_diagram file) (λ d. fitted room (net_of d))) 65536 (omega arith) (λ n e. let a = (of-diagram file room n e).2 in omega arith)

pub size_fits : (size room : ℕ) (file : List ℕ) → size ≡ length (annex_in room file) → room ≤ 65536 → size ≤ 393216
size_fits size room file e l = let a = annex-fits room file l in omega arith

-- the net of an accepted diagram is small, however much is lent for it
few-arcs : (k n : ℕ) (weight : ℕ → ℕ) → length (arcs_of k n weight) ≤ n
unfolding arcs_of
few-arcs k zero weight = omega arith
few-arcs k (suc n) weight = decide (eqb (weight n) 0)
    (λ e. rw e (let a = few-arcs k n weight in let b = length-append (arcs_of k n weight) [] in omega arith))
    (λ e. rw e (let a = few-arcs k n weight in let b = length-append (arcs_of k n weight) (record { kind = k; first = n; second = weight n } ∷ []) in omega arith))

few-joined : (p : ℕ) (xs : List Arc) → length (join_range p xs) ≤ suc (length xs)
few-joined p [] = omega arith
few-joined p (x ∷ xs) = decide (eqb x.first (suc p)) (λ e. rw e (omega arith)) (λ e. rw e (omega arith))

few-ranges : (n p : ℕ) (cleared : ℕ → Bool) → length (ranges_from n p cleared) ≤ n
unfolding ranges_from
few-ranges zero p cleared = omega arith
few-ranges (suc n) p cleared = let a = few-ranges n (suc p) cleared in
    decide (cleared p) (λ e. rw e (let b = few-joined p (ranges_from n (suc p) cleared) in omega arith)) (λ e. rw e (omega arith))

arc-bytes : (xs : List Arc) → length (arc_bytes xs) ≡ 8 * length xs
unfolding arc_bytes
arc-bytes [] = refl
arc-bytes (x ∷ xs) = let a = arc-bytes xs in omega arith

mark-bytes : (ms : List ℕ) → length (mark_bytes ms) ≡ 6 * length ms
unfolding mark_bytes
mark-bytes [] = refl
mark-bytes (m ∷ ms) = let a = mark-bytes ms in omega arith

transition-bytes : (ts : List Transition) → AllOf (λ (t : Transition). length t.arcs ≤ 3648) ts → length (transition_bytes ts) ≤ 29194 * length ts
unfolding transition_bytes
transition-bytes [] h = omega arith
transition-bytes (t ∷ ts) h = let a = transition-bytes ts h.1 in let b = arc-bytes t.arcs in let c = length-append (arc_bytes t.arcs) (transition_bytes ts) in let d = h.0 in omega arith

module _ (d : Diagram) (h : Held d) where
  arcs-few : (x : Name d) → length (transition_of d x).arcs ≤ 3648
  unfolding transition_of
  arcs-few x =
      let takes = arcs_of 35 (places d) (λ p. (pattern_of d x).take (place_of d p)) in
      let clears = ranges_from (places d) 0 (λ p. (pattern_of d x).clear (place_of d p)) in
      let gives = arcs_of 37 (places d) (λ p. (pattern_of d x).give (place_of d p)) in
      let a = few-arcs 35 (places d) (λ p. (pattern_of d x).take (place_of d p)) in
      let b = few-ranges (places d) 0 (λ p. (pattern_of d x).clear (place_of d p)) in
      let c = few-arcs 37 (places d) (λ p. (pattern_of d x).give (place_of d p)) in
      let e = length-append takes (clears ++ gives) in
      let f = length-append clears gives in
      let r = h.rows in
      let i = h.items in
      let k = counts-few d 63 h.works in
      omega arith

  each-few : (xs : List (Name d)) → AllOf (λ (t : Transition). length t.arcs ≤ 3648) (map (transition_of d) xs)
  each-few [] = tt
  each-few (x ∷ xs) = (arcs-few x, each-few xs)

  net-small : length (net_bytes (net_of d)) ≤ 4000000
  unfolding net_bytes
  net-small =
      let n = net_of d in
      let made : ((leb 1 (length n.marks) && (leb (length n.marks) most_places && leb (length n.transitions) most_transitions)) && (marks_fine n.marks && transitions_fine (length n.marks) 0 n.transitions)) ≡ true =
      unfold well_formed in well-made d h in
      let sizes = and_left (leb 1 (length n.marks) && (leb (length n.marks) most_places && leb (length n.transitions) most_transitions)) _ made in
      let later = and_right (leb 1 (length n.marks)) _ sizes in
      let a = leb-true (length n.marks) most_places (and_left (leb (length n.marks) most_places) _ later) in
      let b = leb-true (length n.transitions) most_transitions (and_right (leb (length n.marks) most_places) _ later) in
      let c = transition-bytes n.transitions (unfold net_of in each-few (names d (row_count d))) in
      let e = mark-bytes n.marks in
      let f = length-append (mark_bytes n.marks) (transition_bytes n.transitions) in
      omega arith

-- THEOREM: the text is short, whatever the room lent for the net
pub annex-short : (room : ℕ) (file : List ℕ) → are_bytes file ≡ true → length (annex_in room file) ≤ 24000000
unfolding annex_in
annex-short room file b = printed-short (and_then (read_diagram file) (λ d. fitted room (net_of d))) 4000000 (omega arith)
    (λ n e. let a = of-diagram file room n e in subst (λ x. length (net_bytes x) ≤ 4000000) a.3 (net-small a.0 (held file a.0 b a.1)))
