-- A net file and its net: reading the bytes of a net gives it back; an accepted file is the bytes of its net.
use Prim.Native.Nat.{ℕ, zero, suc, ◌-◌, ◌≤◌, ◌<◌}
use Rattle.std.specs.Prelude.{◌≡◌, Bool, false, cond, ◌&&◌, ltb, eqb}
use Rattle.std.proofs.Math.Path.{refl, sym, ap, subst}
use Rattle.std.proofs.Common.{◌∙◌, ap₂, length-drop}
use Rattle.std.proofs.Math.Bool.{true}
use mathlib.Core.List.{List, [], ◌∷◌, ◌++◌}
use native.Mathlib.Omega.{arith}
use Rattle.std.proofs.Math.ListN.{length, drop}
use Rattle.std.proofs.Math.Dec.{leb}
use borrow.Author.Tests.{leb-true, eqb-true, eqb-false, le-leb, lt-leb, eq-eqb, ne_eqb}
use Rattle.effbd.specs.Answers.{Outcome, accepted, refused, unless}
use Rattle.effbd.specs.Nets.{Arc, Net, Tail, Transition, above, after_places, arc_at, arc_bytes, arc_due, arc_fault, arc_fine, mark_bytes, mark_fault, most_places, most_transitions, net_bytes, net_head_fault, net_with, read_net, read_tail, transition_at, transition_bytes, transition_fault, transition_fine, with_arc, with_transition, no_tail}
use Rattle.effbd.specs.Records.{entry_in, kind_table, Got, are_bytes, kind_at, length_at, length_of, read_many, word, word_bytes}
use Rattle.ranges.specs.Tests.{and_intro, and_left, and_right, decide}
use Rattle.agreement.specs.ByteLaws.{Clean, adding-inv, bind_inv, bytes_drop, clean-none, never, next-inv, none-clean, of_two, two_at, word_fits}
use Rattle.agreement.specs.Formed.{arcs_fine, fits_word, marks_fine, transitions_fine, well_formed}

arc-length : (k j : ℕ) → 35 ≤ k → arc_due k j ≡ true → length_of j ≡ 8
unfolding arc_due length_of entry_in kind_table
arc-length k j h e = decide (eqb j 35)
    (λ z. rw (eqb-true j 35 z))
    (λ y. decide (eqb j 36)
    (λ z. rw (eqb-true j 36 z))
    (λ z.
    let u = eqb-false j 35 y in
    let v = eqb-false j 36 z in
    let a = leb-true k j (and_left (leb k j) (leb j 37) e) in
    let b = leb-true j 37 (and_right (leb k j) (leb j 37) e) in
    rw (let w : j ≡ 37 = omega arith in w)))

due-above : (k j : ℕ) → 35 ≤ k → arc_due k j ≡ true → 35 ≤ j
unfolding arc_due
due-above k j h e = let a = leb-true k j (and_left (leb k j) (leb j 37) e) in omega arith

module _ (P total : ℕ) where
  arc-clean : (k from : ℕ) (l : List ℕ) → 35 ≤ k → 8 ≤ length l → length_at l ≡ 8 → arc_due k (kind_at l) ≡ true → arc_fine P k from (arc_at l) ≡ true → arc_fault P total k from l ≡ 0
  unfolding arc_fault
  arc-clean k from l h n s due fine = clean-none l true (eqb (length_at l) (length_of (kind_at l))) (arc_fine P k from (arc_at l)) 5
      (record { long = omega arith; is_due = refl; is_right = eq-eqb (length_at l) (length_of (kind_at l)) (s ∙ sym (arc-length k (kind_at l) h due)); whole = rw s n; is_fine = fine })

  arc-turn : (f more k from label : ℕ) (l : List ℕ) → 35 ≤ k → 8 ≤ length l → length_at l ≡ 8 → arc_due k (kind_at l) ≡ true → arc_fine P k from (arc_at l) ≡ true
      → read_tail P total (suc f) more k from label l ≡ with_arc (arc_at l) (read_tail P total f more (kind_at l) (above (arc_at l)) label (drop 8 l))
  unfolding read_tail
  arc-turn f zero k from label l h n s due fine = rw (ne_eqb (length l) 0 (omega arith), le-leb 4 (length l) (omega arith), due, arc-clean k from l h n s due fine)
  arc-turn f (suc m) k from label l h n s due fine = rw (le-leb 4 (length l) (omega arith), due, arc-clean k from l h n s due fine)

  trans-undue : (k : ℕ) (l : List ℕ) → 35 ≤ k → kind_at l ≡ 34 → arc_due k (kind_at l) ≡ false
  unfolding arc_due
  trans-undue k l h q = rw (q, lt-leb k 34 (omega arith))

  trans-clean : (label : ℕ) (l : List ℕ) → 10 ≤ length l → length_at l ≡ 10 → kind_at l ≡ 34 → transition_fine label (transition_at l) ≡ true → transition_fault P total label l ≡ 0
  unfolding transition_fault length_of entry_in kind_table
  trans-clean label l n s q fine = clean-none l (eqb (kind_at l) 34) (eqb (length_at l) 10) (transition_fine label (transition_at l)) 5
      (record { long = omega arith; is_due = eq-eqb (kind_at l) 34 q; is_right = eq-eqb (length_at l) 10 s; whole = rw s n; is_fine = fine })

  trans-turn : (f more k from label : ℕ) (l : List ℕ) → 35 ≤ k → 10 ≤ length l → length_at l ≡ 10 → kind_at l ≡ 34 → transition_fine label (transition_at l) ≡ true
      → read_tail P total (suc f) (suc more) k from label l ≡ with_transition (transition_at l) (read_tail P total f more 35 0 (word l 4) (drop 10 l))
  unfolding read_tail
  trans-turn f more k from label l h n s q fine = rw (le-leb 4 (length l) (omega arith), trans-undue k l h q, trans-clean label l n s q fine)

  -- the arcs of a transition, before transitions that read back
  Reads : List Transition → Type 0
  Reads ts = (f k from label : ℕ) → 35 ≤ k → length (transition_bytes ts) < f → transitions_fine P label ts ≡ true
      → read_tail P total f (length ts) k from label (transition_bytes ts) ≡ accepted (record { arcs = []; transitions = ts })

  arcs-read : (ts : List Transition) → Reads ts → (xs : List Arc) (f k from label : ℕ) → 35 ≤ k → length (arc_bytes xs ++ transition_bytes ts) < f
      → arcs_fine P k from xs ≡ true → transitions_fine P label ts ≡ true → read_tail P total f (length ts) k from label (arc_bytes xs ++ transition_bytes ts) ≡ accepted (record { arcs = xs; transitions = ts })
  unfolding Reads arc_bytes arcs_fine
  arcs-read ts ih [] f k from label h n a b = ih f k from label h n b
  arcs-read ts ih (x ∷ xs) zero k from label h n a b = absurd (omega arith)
  arcs-read ts ih (x ∷ xs) (suc f) k from label h n a b =
      subst (λ (y : Arc). read_tail P total (suc f) (length ts) k from label l ≡ with_arc y (read_tail P total f (length ts) y.kind (above y) label r)) same
      (arc-turn f (length ts) k from label l h (omega arith) refl (rw (of_two x.kind) due) (subst (λ y. arc_fine P k from y ≡ true) (sym same) fine))
      ∙ rw (arcs-read ts ih xs f x.kind (above x) label (due-above k x.kind h due) (omega arith) rest b)
    where
      r : List ℕ
      r = arc_bytes xs ++ transition_bytes ts

      l : List ℕ
      l = word_bytes 8 ++ (word_bytes x.kind ++ (word_bytes x.first ++ (word_bytes x.second ++ r)))

      same : arc_at l ≡ x
      same = λ j. record { kind = of_two x.kind j; first = of_two x.first j; second = of_two x.second j }

      due : arc_due k x.kind ≡ true
      due = and_left (arc_due k x.kind) _ a

      more : (arc_fine P k from x && (fits_word x.second && arcs_fine P x.kind (above x) xs)) ≡ true
      more = and_right (arc_due k x.kind) _ a

      fine : arc_fine P k from x ≡ true
      fine = and_left (arc_fine P k from x) _ more

      rest : arcs_fine P x.kind (above x) xs ≡ true
      rest = and_right (fits_word x.second) _ (and_right (arc_fine P k from x) _ more)

  trans-read : (ts : List Transition) → Reads ts
  unfolding Reads transition_bytes transitions_fine
  trans-read [] zero k from label h n a = absurd (omega arith)
  trans-read [] (suc f) k from label h n a = unfold read_tail in refl
  trans-read (t ∷ ts) zero k from label h n a = absurd (omega arith)
  trans-read (t ∷ ts) (suc f) k from label h n a =
      subst (λ (y : Transition). read_tail P total (suc f) (suc (length ts)) k from label l ≡ with_transition y (read_tail P total f (length ts) 35 0 y.label r)) same
      (trans-turn f (length ts) k from label l h (omega arith) refl refl (subst (λ y. transition_fine label y ≡ true) (sym same) fine))
      ∙ rw (arcs-read ts (trans-read ts) t.arcs f 35 0 t.label (omega arith) (omega arith) arcs rest)
    where
      r : List ℕ
      r = arc_bytes t.arcs ++ transition_bytes ts

      l : List ℕ
      l = word_bytes 10 ++ (word_bytes 34 ++ (word_bytes t.label ++ (word_bytes t.earliest ++ (word_bytes t.latest ++ r))))

      bare : Transition
      bare = record { label = t.label; earliest = t.earliest; latest = t.latest; arcs = [] }

      same : transition_at l ≡ bare
      same = λ j. record { label = of_two t.label j; earliest = of_two t.earliest j; latest = of_two t.latest j; arcs = [] }

      fine : transition_fine label bare ≡ true
      fine = unfold transition_fine in and_left (transition_fine label t) _ a

      more : (fits_word t.latest && (arcs_fine P 35 0 t.arcs && transitions_fine P t.label ts)) ≡ true
      more = and_right (transition_fine label t) _ a

      arcs : arcs_fine P 35 0 t.arcs ≡ true
      arcs = and_left (arcs_fine P 35 0 t.arcs) _ (and_right (fits_word t.latest) _ more)

      rest : transitions_fine P t.label ts ≡ true
      rest = and_right (arcs_fine P 35 0 t.arcs) _ (and_right (fits_word t.latest) _ more)

marks-read : (ms : List ℕ) (r : List ℕ) (total : ℕ) → read_many mark_fault (λ l. word l 4) total (length ms) (mark_bytes ms ++ r) ≡ accepted (record { value = ms; rest = r })
unfolding read_many mark_bytes
marks-read [] r total = refl
marks-read (m ∷ ms) r total = rw (clean, marks-read ms r total, of_two m)
  where
    l : List ℕ
    l = word_bytes 6 ++ (word_bytes 33 ++ (word_bytes m ++ (mark_bytes ms ++ r)))

    clean : mark_fault l ≡ 0
    clean = unfold mark_fault length_of entry_in kind_table in clean-none l true true true 5 (record { long = omega arith; is_due = refl; is_right = refl; whole = omega arith; is_fine = refl })

read_at : (l ms r : List ℕ) (P T : ℕ) (t : Tail) → net_head_fault l ≡ 0 → word l 4 ≡ P → word l 6 ≡ T
    → read_many mark_fault (λ l. word l 4) (length l) P (drop 8 l) ≡ accepted (record { value = ms; rest = r }) → read_tail P (length l) (suc (length r)) T 38 0 0 r ≡ accepted t
    → read_net l ≡ accepted (record { marks = ms; transitions = t.transitions })
unfolding read_net after_places
read_at l ms r P T t c p q m e = rw (c, p, m, q, p, e)

-- THEOREM: reading the bytes of a well-formed net gives it back
pub read_back : (n : Net) → well_formed n ≡ true → read_net (net_bytes n) ≡ accepted n
unfolding net_bytes well_formed Reads
read_back n h = read_at l n.marks (transition_bytes n.transitions) P (length n.transitions) (record { arcs = []; transitions = n.transitions })
    clean (of_two P) (of_two (length n.transitions)) (marks-read n.marks (transition_bytes n.transitions) (length l))
    (trans-read P (length l) n.transitions (suc (length (transition_bytes n.transitions))) 38 0 0 (omega arith) (omega arith) (and_right (marks_fine n.marks) _ (and_right sizes _ h)))
  where
    P : ℕ
    P = length n.marks

    l : List ℕ
    l = word_bytes 8 ++ (word_bytes 32 ++ (word_bytes (length n.marks) ++ (word_bytes (length n.transitions) ++ (mark_bytes n.marks ++ transition_bytes n.transitions))))

    sizes : Bool
    sizes = leb 1 P && (leb P most_places && leb (length n.transitions) most_transitions)

    clean : net_head_fault l ≡ 0
    clean = unfold net_head_fault length_of entry_in kind_table in clean-none l true true (leb 1 (word l 4) && (leb (word l 4) most_places && leb (word l 6) most_transitions)) 4
        (record { long = omega arith; is_due = refl; is_right = refl; whole = omega arith; is_fine = rw (of_two P, of_two (length n.transitions)) (and_left sizes _ h) })

-- what a tail that was read says of its bytes
pub record Back (P k from label more : ℕ) (l : List ℕ) (t : Tail) : Type 0 where
  pub written : arc_bytes t.arcs ++ transition_bytes t.transitions ≡ l
  pub arcs : arcs_fine P k from t.arcs ≡ true
  pub transitions : transitions_fine P label t.transitions ≡ true
  pub many : length t.transitions ≡ more

pub with_arc-inv : (x : Arc) (a : Outcome Tail) (t : Tail) → with_arc x a ≡ accepted t → (u : Tail) × (a ≡ accepted u) × (record { arcs = x ∷ u.arcs; transitions = u.transitions } ≡ t)
with_arc-inv x (accepted u) t e = (u, refl, cc)
with_arc-inv x (refused n v) t e = never e

pub with_trans-inv : (x : Transition) (a : Outcome Tail) (t : Tail) → with_transition x a ≡ accepted t
    → (u : Tail) × (a ≡ accepted u) × (record { arcs = []; transitions = record { label = x.label; earliest = x.earliest; latest = x.latest; arcs = u.arcs } ∷ u.transitions } ≡ t)
with_trans-inv x (accepted u) t e = (u, refl, cc)
with_trans-inv x (refused n v) t e = never e

module _ (P total : ℕ) where
  arc-back : (k from label more : ℕ) (l : List ℕ) (u : Tail) → 35 ≤ k → are_bytes l ≡ true → arc_due k (kind_at l) ≡ true → arc_fault P total k from l ≡ 0
      → Back P (kind_at l) (above (arc_at l)) label more (drop 8 l) u → Back P k from label more l (record { arcs = arc_at l ∷ u.arcs; transitions = u.transitions })
  unfolding arc_fault arc_bytes arcs_fine
  arc-back k from label more l u h b due e back = record {
    written = ap (λ (x : List ℕ). word_bytes 8 ++ (word_bytes (word l 2) ++ (word_bytes (word l 4) ++ (word_bytes (word l 6) ++ x)))) back.written ∙ (ap (λ (x : ℕ). word_bytes x ++ (word_bytes (word l 2) ++ (word_bytes (word l 4) ++ (word_bytes (word l 6) ++ drop 8 l)))) (sym s)
        ∙ (let m = n in rw (two_at l 6 (omega arith) b, two_at l 4 (omega arith) b, two_at l 2 (omega arith) b) (two_at l 0 (omega arith) b)));
    arcs = and_intro due (and_intro c.is_fine (and_intro (le-leb (word l 6) 65535 (word_fits l b 6)) back.arcs));
    transitions = back.transitions;
    many = back.many;
  }
    where
      c : Clean l true (eqb (length_at l) (length_of (kind_at l))) (arc_fine P k from (arc_at l))
      c = none-clean l true (eqb (length_at l) (length_of (kind_at l))) (arc_fine P k from (arc_at l)) 4 e

      s : length_at l ≡ 8
      s = eqb-true (length_at l) (length_of (kind_at l)) c.is_right ∙ arc-length k (kind_at l) h due

      n : 8 ≤ length l
      n = let z = c.whole in let y = s in omega arith

  trans-back : (label more : ℕ) (l : List ℕ) (u : Tail) (k from : ℕ) → are_bytes l ≡ true → transition_fault P total label l ≡ 0
      → Back P 35 0 (word l 4) more (drop 10 l) u
      → Back P k from label (suc more) l (record { arcs = []; transitions = record { label = word l 4; earliest = word l 6; latest = word l 8; arcs = u.arcs } ∷ u.transitions })
  unfolding transition_fault transition_bytes arc_bytes transitions_fine arcs_fine length_of entry_in kind_table transition_fine
  trans-back label more l u k from b e back = record {
    written = ap (λ (x : List ℕ). word_bytes 10 ++ (word_bytes 34 ++ (word_bytes (word l 4) ++ (word_bytes (word l 6) ++ (word_bytes (word l 8) ++ x))))) back.written
        ∙ (ap₂ (λ (x y : ℕ). word_bytes x ++ (word_bytes y ++ (word_bytes (word l 4) ++ (word_bytes (word l 6) ++ (word_bytes (word l 8) ++ drop 10 l))))) (sym s) (sym q)
        ∙ (let m = n in rw (two_at l 8 (omega arith) b, two_at l 6 (omega arith) b, two_at l 4 (omega arith) b, two_at l 2 (omega arith) b) (two_at l 0 (omega arith) b)));
    arcs = refl;
    transitions = and_intro c.is_fine (and_intro (le-leb (word l 8) 65535 (word_fits l b 8)) (and_intro back.arcs back.transitions));
    many = ap suc back.many;
  }
    where
      c : Clean l (eqb (kind_at l) 34) (eqb (length_at l) 10) (leb label (word l 4) && (ltb (word l 4) 64 && leb (word l 6) (word l 8)))
      c = none-clean l (eqb (kind_at l) 34) (eqb (length_at l) 10) (leb label (word l 4) && (ltb (word l 4) 64 && leb (word l 6) (word l 8))) 4 e

      s : length_at l ≡ 10
      s = eqb-true (length_at l) 10 c.is_right

      q : kind_at l ≡ 34
      q = eqb-true (kind_at l) 34 c.is_due

      n : 10 ≤ length l
      n = let z = c.whole in let y = s in omega arith

  empty-list : (l : List ℕ) → length l ≡ 0 → l ≡ []
  empty-list [] e = refl
  empty-list (x ∷ l) e = absurd (omega arith)

  arc-long : (k from : ℕ) (l : List ℕ) → 35 ≤ k → arc_due k (kind_at l) ≡ true → arc_fault P total k from l ≡ 0 → 8 ≤ length l
  unfolding arc_fault
  arc-long k from l h due e =
      let c = none-clean l true (eqb (length_at l) (length_of (kind_at l))) (arc_fine P k from (arc_at l)) 4 e in
      let s : length_at l ≡ 8 = eqb-true (length_at l) (length_of (kind_at l)) c.is_right ∙ arc-length k (kind_at l) h due in
      let z = c.whole in omega arith

  trans-long : (label : ℕ) (l : List ℕ) → transition_fault P total label l ≡ 0 → 10 ≤ length l
  unfolding transition_fault length_of entry_in kind_table
  trans-long label l e =
      let c = none-clean l (eqb (kind_at l) 34) (eqb (length_at l) 10) (transition_fine label (transition_at l)) 4 e in
      let s : length_at l ≡ 10 = eqb-true (length_at l) 10 c.is_right in
      let z = c.whole in omega arith

  -- an arc read, then the rest
  arc-then : (f more k from label : ℕ) (l : List ℕ) (t : Tail) → 35 ≤ k → length l < suc f → are_bytes l ≡ true → (leb 4 (length l) && arc_due k (kind_at l)) ≡ true
      → ((u : Tail) → length (drop 8 l) < f → read_tail P total f more (kind_at l) (above (arc_at l)) label (drop 8 l) ≡ accepted u → Back P (kind_at l) (above (arc_at l)) label more (drop 8 l) u)
      → unless (arc_fault P total k from l) (total - length l) (with_arc (arc_at l) (read_tail P total f more (kind_at l) (above (arc_at l)) label (drop 8 l))) ≡ accepted t
      → Back P k from label more l t
  arc-then f more k from label l t h n b due ih e =
      let a = next-inv (arc_fault P total k from l) (total - length l) _ t e in
      let w = with_arc-inv (arc_at l) _ t a.1 in
      let d = and_right (leb 4 (length l)) (arc_due k (kind_at l)) due in
      let z : 8 ≤ length l = arc-long k from l h d a.0 in
      subst (Back P k from label more l) w.2 (arc-back k from label more l w.0 h b d a.0 (ih w.0 (shorter z) w.1))
    where
      shorter : 8 ≤ length l → length (drop 8 l) < f
      shorter z = rw (length-drop 8 l) (omega arith)

  none-back : (k from label : ℕ) (l : List ℕ) (t : Tail) → length l ≡ 0 → accepted no_tail ≡ accepted t → Back P k from label zero l t
  none-back k from label l t e z = subst (Back P k from label zero l) (let y : no_tail ≡ t = cc in y)
      (record { written = unfold arc_bytes transition_bytes in sym (empty-list l e); arcs = unfold arcs_fine in refl; transitions = unfold transitions_fine in refl; many = refl })

  tail-back : (f more k from label : ℕ) (l : List ℕ) (t : Tail) → 35 ≤ k → length l < f → are_bytes l ≡ true
      → read_tail P total f more k from label l ≡ accepted t → Back P k from label more l t
  unfolding read_tail
  tail-back zero more k from label l t h n b e = absurd (omega arith)
  tail-back (suc f) zero k from label l t h n b e = go (λ u x d z. tail-back f zero (kind_at l) (above (arc_at l)) label (drop 8 l) u d x (bytes_drop 8 l b) z)
      (eqb (length l) 0) (leb 4 (length l) && arc_due k (kind_at l)) refl refl e
    where
      arc : Outcome Tail
      arc = unless (arc_fault P total k from l) (total - length l) (with_arc (arc_at l) (read_tail P total f zero (kind_at l) (above (arc_at l)) label (drop 8 l)))

      go : ((u : Tail) → length (drop 8 l) < f → 35 ≤ kind_at l → read_tail P total f zero (kind_at l) (above (arc_at l)) label (drop 8 l) ≡ accepted u → Back P (kind_at l) (above (arc_at l)) label zero (drop 8 l) u)
          → (x y : Bool) → eqb (length l) 0 ≡ x → (leb 4 (length l) && arc_due k (kind_at l)) ≡ y → cond x (accepted no_tail) (cond y arc (refused 6 (total - length l))) ≡ accepted t → Back P k from label zero l t
      go ih true y p q z = none-back k from label l t (eqb-true (length l) 0 p) z
      go ih false true p q z = arc-then f zero k from label l t h n b q (λ u x w. ih u x (due-above k (kind_at l) h (and_right (leb 4 (length l)) _ q)) w) z
      go ih false false p q z = never z
  tail-back (suc f) (suc m) k from label l t h n b e = go (λ u x d z. tail-back f (suc m) (kind_at l) (above (arc_at l)) label (drop 8 l) u d x (bytes_drop 8 l b) z)
      (λ u x z. tail-back f m 35 0 (word l 4) (drop 10 l) u (omega arith) x (bytes_drop 10 l b) z)
      (leb 4 (length l) && arc_due k (kind_at l)) refl e
    where
      arc : Outcome Tail
      arc = unless (arc_fault P total k from l) (total - length l) (with_arc (arc_at l) (read_tail P total f (suc m) (kind_at l) (above (arc_at l)) label (drop 8 l)))

      more : Outcome Tail
      more = unless (transition_fault P total label l) (total - length l) (with_transition (transition_at l) (read_tail P total f m 35 0 (word l 4) (drop 10 l)))

      go : ((u : Tail) → length (drop 8 l) < f → 35 ≤ kind_at l → read_tail P total f (suc m) (kind_at l) (above (arc_at l)) label (drop 8 l) ≡ accepted u → Back P (kind_at l) (above (arc_at l)) label (suc m) (drop 8 l) u)
          → ((u : Tail) → length (drop 10 l) < f → read_tail P total f m 35 0 (word l 4) (drop 10 l) ≡ accepted u → Back P 35 0 (word l 4) m (drop 10 l) u)
          → (y : Bool) → (leb 4 (length l) && arc_due k (kind_at l)) ≡ y → cond y arc more ≡ accepted t → Back P k from label (suc m) l t
      go ih jh true q z = arc-then f (suc m) k from label l t h n b q (λ u x w. ih u x (due-above k (kind_at l) h (and_right (leb 4 (length l)) _ q)) w) z
      go ih jh false q z =
          let a = next-inv (transition_fault P total label l) (total - length l) _ t z in
          let w = with_trans-inv (transition_at l) _ t a.1 in
          let y = trans-long label l a.0 in
          subst (Back P k from label (suc m) l) w.2 (trans-back label m l w.0 k from b a.0 (jh w.0 (rw (length-drop 10 l) (omega arith)) w.1))

pub record MarksBack (m : ℕ) (l : List ℕ) (g : Got (List ℕ)) : Type 0 where
  pub written : mark_bytes g.value ++ g.rest ≡ l
  pub fine : marks_fine g.value ≡ true
  pub many : length g.value ≡ m
  pub rest : are_bytes g.rest ≡ true

mark-back : (m : ℕ) (l : List ℕ) (g : Got (List ℕ)) → are_bytes l ≡ true → mark_fault l ≡ 0 → MarksBack m (drop (length_at l) l) g
    → MarksBack (suc m) l (record { value = word l 4 ∷ g.value; rest = g.rest })
unfolding mark_fault mark_bytes marks_fine length_of entry_in kind_table
mark-back m l g b e back = record {
  written = ap (λ (x : List ℕ). word_bytes 6 ++ (word_bytes 33 ++ (word_bytes (word l 4) ++ x))) back.written
      ∙ (rw s (ap₂ (λ (x y : ℕ). word_bytes x ++ (word_bytes y ++ (word_bytes (word l 4) ++ drop 6 l))) (sym s) (sym q)
      ∙ (let m = n in rw (two_at l 4 (omega arith) b, two_at l 2 (omega arith) b) (two_at l 0 (omega arith) b))));
  fine = and_intro (le-leb (word l 4) 65535 (word_fits l b 4)) back.fine;
  many = ap suc back.many;
  rest = back.rest;
}
  where
    c : Clean l (eqb (kind_at l) 33) (eqb (length_at l) 6) true
    c = none-clean l (eqb (kind_at l) 33) (eqb (length_at l) 6) true 4 e

    s : length_at l ≡ 6
    s = eqb-true (length_at l) 6 c.is_right

    q : kind_at l ≡ 33
    q = eqb-true (kind_at l) 33 c.is_due

    n : 6 ≤ length l
    n = let z = c.whole in let y = s in omega arith

marks-back : (m total : ℕ) (l : List ℕ) (g : Got (List ℕ)) → are_bytes l ≡ true → read_many mark_fault (λ l. word l 4) total m l ≡ accepted g → MarksBack m l g
unfolding read_many
marks-back zero total l g b e = subst (MarksBack zero l) (let y : record { value = []; rest = l } ≡ g = cc in y)
    (record { written = unfold mark_bytes in refl; fine = unfold marks_fine in refl; many = refl; rest = b })
marks-back (suc m) total l g b e =
    let a = next-inv (mark_fault l) (total - length l) _ g e in
    let w = adding-inv (word l 4) _ g a.1 in
    subst (MarksBack (suc m) l) w.2 (mark-back m l w.0 b a.0 (marks-back m total (drop (length_at l) l) w.0 (bytes_drop (length_at l) l b) w.1))

pub net_with-inv : (ms : List ℕ) (a : Outcome Tail) (n : Net) → net_with ms a ≡ accepted n → (u : Tail) × (a ≡ accepted u) × (record { marks = ms; transitions = u.transitions } ≡ n)
net_with-inv ms (accepted u) n e = (u, refl, cc)
net_with-inv ms (refused x v) n e = never e

pub record NetBack (l : List ℕ) (n : Net) : Type 0 where
  pub written : net_bytes n ≡ l
  pub fine : well_formed n ≡ true

-- before the first transition there is no arc: none of kind 38 or more is due
no-arcs : (P : ℕ) (xs : List Arc) → arcs_fine P 38 0 xs ≡ true → xs ≡ []
unfolding arcs_fine arc_due
no-arcs P [] e = refl
no-arcs P (x ∷ xs) e =
    let d = and_left (leb 38 x.kind && leb x.kind 37) _ e in
    let a = leb-true 38 x.kind (and_left (leb 38 x.kind) (leb x.kind 37) d) in
    let b = leb-true x.kind 37 (and_right (leb 38 x.kind) (leb x.kind 37) d) in
    absurd (omega arith)

-- THEOREM: an accepted net file is the bytes of the net that it reads to, which is well-formed
pub net-back : (l : List ℕ) (n : Net) → are_bytes l ≡ true → read_net l ≡ accepted n → NetBack l n
unfolding read_net net_bytes well_formed after_places net_head_fault length_of entry_in kind_table arc_bytes
net-back l n b e =
    let a = next-inv (net_head_fault l) 0 _ n e in
    let w = bind_inv (read_many mark_fault (λ l. word l 4) (length l) (word l 4) (drop 8 l)) (after_places l) n a.1 in
    let u = net_with-inv w.0.value _ n w.2 in
    let m = marks-back (word l 4) (length l) (drop 8 l) w.0 (bytes_drop 8 l b) w.1 in
    let k = tail-back (word l 4) (length l) (suc (length w.0.rest)) (word l 6) 38 0 0 w.0.rest u.0 (omega arith) (omega arith) m.rest u.1 in
    subst (NetBack l) u.2 (whole w.0 u.0 m k (none-clean l (eqb (kind_at l) 32) (eqb (length_at l) 8) (leb 1 (word l 4) && (leb (word l 4) most_places && leb (word l 6) most_transitions)) 3 a.0))
  where
    whole : (g : Got (List ℕ)) (u : Tail) → MarksBack (word l 4) (drop 8 l) g → Back (word l 4) 38 0 0 (word l 6) g.rest u
        → Clean l (eqb (kind_at l) 32) (eqb (length_at l) 8) (leb 1 (word l 4) && (leb (word l 4) most_places && leb (word l 6) most_transitions))
        → NetBack l (record { marks = g.value; transitions = u.transitions })
    whole g u m k c = record {
      written = rw (m.many, k.many) (ap (λ (x : List ℕ). word_bytes 8 ++ (word_bytes 32 ++ (word_bytes (word l 4) ++ (word_bytes (word l 6) ++ x)))) (ap (λ x. mark_bytes g.value ++ x) tailed ∙ m.written)
          ∙ (ap₂ (λ (x y : ℕ). word_bytes x ++ (word_bytes y ++ (word_bytes (word l 4) ++ (word_bytes (word l 6) ++ drop 8 l)))) (sym s) (sym q)
          ∙ (let z = long in rw (two_at l 6 (omega arith) b, two_at l 4 (omega arith) b, two_at l 2 (omega arith) b) (two_at l 0 (omega arith) b))));
      fine = rw (m.many, k.many) (and_intro c.is_fine (and_intro m.fine k.transitions));
    }
      where
        s : length_at l ≡ 8
        s = eqb-true (length_at l) 8 c.is_right

        q : kind_at l ≡ 32
        q = eqb-true (kind_at l) 32 c.is_due

        long : 8 ≤ length l
        long = let z = c.whole in let y = s in omega arith

        tailed : transition_bytes u.transitions ≡ g.rest
        tailed = ap (λ (x : List Arc). arc_bytes x ++ transition_bytes u.transitions) (sym (no-arcs (word l 4) u.arcs k.arcs)) ∙ k.written
