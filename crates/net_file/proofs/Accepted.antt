-- What an accepted net file holds: its net is what its bytes say.
use Prim.Native.Nat.{ℕ, zero, suc, ◌+◌, ◌-◌, ◌*◌, ◌≤◌, ◌<◌}
use mathlib.Core.Path.{◌≡◌, refl, sym, ◌∙◌, ap, ap₂, subst, fun_ext}
use mathlib.Core.Bool.{Bool, true, false, ◌&&◌}
use mathlib.Core.List.{List, [], ◌∷◌}
use native.Mathlib.Omega.{arith}
use lib.ListN.{length, drop, length-drop}
use lib.Seq.{drop-drop}
use lib.Dec.{leb, eqb}
use borrow.Author.Tests.{leb-true, eqb-true, eqb-false, le-leb}
use Rattle.ranges.specs.Tests.{decide, and_left, and_right, and_intro}
use Rattle.ranges.specs.RangeLaws.{length-tab}
use Rattle.effbd.specs.Ranges.{tabulate}
use Rattle.effbd.specs.Answers.{accepted}
use Rattle.effbd.specs.Records.{word, length_at, kind_at, length_of, kind_table, entry_in, Got, read_many}
use Rattle.effbd.specs.Nets.{Arc, Transition, Net, take_arc, give_arc, most_places, most_transitions, arc_due, above, arc_at, transition_at, mark_at, mark_fault, net_head_fault, Tail, no_tail, arc_fault, transition_fault, read_tail, after_places, read_net}
use Rattle.effbd.specs.Firing.{net_word_count}
use Rattle.net_file.specs.Due.{own_length, arc_next}
use Rattle.net_file.specs.Contents.{arc_here, arcs_in, past_arcs, transition_in, after_transition, transitions_in, behind_places}
use Rattle.agreement.specs.ByteLaws.{none-clean, never, next-inv, bind_inv, adding-inv}
use Rattle.agreement.specs.NetFiles.{with_arc-inv, with_trans-inv, net_with-inv}
use Rattle.net_file.proofs.Tails.{ArcRead, arc-read, TransitionRead, transition-read, tail-arc, tail-end, tail-over, tail-transition}
use Rattle.net_file.proofs.Places.{place_read}
use Rattle.net_file.proofs.Walks.{arcs-more, arcs-done, past_more, past-done, length-transitions}

abbrev whole : Transition → Tail → Transition
whole x u = record { label = x.label; earliest = x.earliest; latest = x.latest; arcs = u.arcs }

-- what an accepted tail holds
-- (where no arc is due it has none)
pub record TailRead (k more : ℕ) (rest : List ℕ) (t : Tail) : Type 0 where
  pub arcs : t.arcs ≡ arcs_in rest
  pub none : give_arc < k → t.arcs ≡ []
  pub transitions : t.transitions ≡ transitions_in more (past_arcs rest)

module _ (count total : ℕ) where
  read-arc : (k from more : ℕ) (rest : List ℕ) (u : Tail) → ArcRead count total k from rest → TailRead (kind_at rest) more (drop 8 rest) u
      → TailRead k more rest (record { arcs = arc_at rest ∷ u.arcs; transitions = u.transitions })
  unfolding arc_here arc_due
  read-arc k from more rest u r ih = record {
    arcs = ap (λ (xs : List Arc). arc_at rest ∷ xs) ih.arcs ∙ sym (arcs-more rest here);
    none = λ l. absurd (let a = r.rising in let b = r.kinds.most in omega arith);
    transitions = ih.transitions ∙ ap (transitions_in more) (sym (past_more rest here));
  }
    where
      here : arc_here rest ≡ true
      here = and_intro (le-leb 8 (length rest) r.whole) (and_intro (le-leb 35 (kind_at rest) r.kinds.least) (le-leb (kind_at rest) 37 r.kinds.most))

  no-arc : (rest : List ℕ) → kind_at rest ≡ 34 → arc_here rest ≡ false
  unfolding arc_here arc_due
  no-arc rest e = rw e (off (leb 8 (length rest)))
    where
      off : (b : Bool) → (b && false) ≡ false
      off true = refl
      off false = refl

  read-transition : (k label more : ℕ) (rest : List ℕ) (u : Tail) → TransitionRead count total label rest → TailRead take_arc more (drop 10 rest) u
      → TailRead k (suc more) rest (record { arcs = []; transitions = whole (transition_at rest) u ∷ u.transitions })
  unfolding transitions_in transition_in after_transition
  read-transition k label more rest u r ih = record {
    arcs = sym (arcs-done rest (no-arc rest r.kind));
    none = λ l. refl;
    transitions = rw (past-done rest (no-arc rest r.kind), ih.arcs, ih.transitions);
  }

  read-end : (k : ℕ) (rest : List ℕ) (t : Tail) → length rest ≡ 0 → accepted no_tail ≡ accepted t → TailRead k 0 rest t
  unfolding transitions_in arc_here
  read-end k rest t e z = subst (TailRead k 0 rest) (let y : no_tail ≡ t = cc in y)
      (record { arcs = sym (arcs-done rest (rw e)); none = λ l. refl; transitions = refl })

  pub tail-read : (fuel more k from label : ℕ) (rest : List ℕ) (t : Tail) → 35 ≤ k → length rest < fuel
      → read_tail count total fuel more k from label rest ≡ accepted t → TailRead k more rest t
  tail-read zero more k from label rest t h l e = absurd (omega arith)
  tail-read (suc fuel) more k from label rest t h l e = decide (arc_next k rest)
      (λ a.
      let u = next-inv (arc_fault count total k from rest) (total - length rest) _ t (sym (tail-arc count total fuel more k from label rest a) ∙ e) in
      let r = arc-read count total k from rest h a u.0 in
      let w = with_arc-inv (arc_at rest) _ t u.1 in
      let n = r.whole in
      subst (TailRead k more rest) w.2
      (read-arc k from more rest w.0 r (tail-read fuel more (kind_at rest) (above (arc_at rest)) label (drop 8 rest) w.0 r.kinds.least (rw (length-drop 8 rest) (omega arith)) w.1)))
      (λ a. go more a e (λ n u z m. tail-read fuel n take_arc 0 (word rest 4) (drop 10 rest) u (omega arith) z m))
    where
      go : (more : ℕ) → arc_next k rest ≡ false → read_tail count total (suc fuel) more k from label rest ≡ accepted t
          → ((n : ℕ) (u : Tail) → length (drop 10 rest) < fuel → read_tail count total fuel n take_arc 0 (word rest 4) (drop 10 rest) ≡ accepted u → TailRead take_arc n (drop 10 rest) u)
          → TailRead k more rest t
      go zero a e ih = decide (eqb (length rest) 0)
          (λ z. let q = eqb-true (length rest) 0 z in read-end k rest t q (sym (tail-end count total fuel k from label rest q) ∙ e))
          (λ z. never (sym (tail-over count total fuel k from label rest (eqb-false (length rest) 0 z) a) ∙ e))
      go (suc n) a e ih =
          let u = next-inv (transition_fault count total label rest) (total - length rest) _ t (sym (tail-transition count total fuel n k from label rest a) ∙ e) in
          let r = transition-read count total label rest u.0 in
          let w = with_trans-inv (transition_at rest) _ t u.1 in
          let m = r.whole in
          subst (TailRead k (suc n) rest) w.2 (read-transition k label n rest w.0 r (ih n w.0 (rw (length-drop 10 rest) (omega arith)) w.1))

-- the places
pub record MarksRead (n : ℕ) (rest : List ℕ) (got : Got (List ℕ)) : Type 0 where
  pub marks : got.value ≡ tabulate n (λ i. word (drop (6 * i) rest) 4)
  pub left : got.rest ≡ drop (6 * n) rest

pub marks-read : (n total : ℕ) (rest : List ℕ) (got : Got (List ℕ)) → read_many mark_fault mark_at total n rest ≡ accepted got → MarksRead n rest got
unfolding read_many
marks-read zero total rest got e = subst (MarksRead zero rest) (let y : record { value = []; rest = rest } ≡ got = cc in y) (record { marks = refl; left = refl })
marks-read (suc n) total rest got e =
    let u = next-inv (mark_fault rest) (total - length rest) _ got e in
    let w = adding-inv (mark_at rest) _ got u.1 in
    let p = place_read rest u.0 in
    let six = p.six in
    let m = marks-read n total (drop (length_at rest) rest) w.0 w.1 in
    let z : 6 + 6 * n ≡ 6 * suc n = omega arith in
    subst (MarksRead (suc n) rest) w.2
    (record {
      marks = ap (λ (l : List ℕ). mark_at rest ∷ l) (m.marks ∙ rw six (later n rest));
      left = m.left ∙ rw (six, drop-drop (6 * n) 6 rest, z);
    })
  where
    later : (n : ℕ) (rest : List ℕ) → tabulate n (λ i. word (drop (6 * i) (drop 6 rest)) 4) ≡ tabulate n (λ i. word (drop (6 * suc i) rest) 4)
    later n rest = ap (λ (f : ℕ → ℕ). tabulate n f) (fun_ext (λ i. ap (λ (l : List ℕ). word l 4) (drop-drop (6 * i) 6 rest ∙ (let z : 6 + 6 * i ≡ 6 * suc i = omega arith in ap (λ (j : ℕ). drop j rest) z))))

past-none : (rest : List ℕ) → arcs_in rest ≡ [] → past_arcs rest ≡ rest
unfolding past_arcs
past-none rest e = rw e

-- what a file's head says
pub record HeadRead (file : List ℕ) : Type 0 where
  pub long : 8 ≤ length file
  pub own : own_length file ≡ 8
  pub places : word file 4 ≤ most_places
  pub transitions : word file 6 ≤ most_transitions

pub head_read : (file : List ℕ) → net_head_fault file ≡ 0 → HeadRead file
unfolding net_head_fault length_of entry_in kind_table
head_read file e =
    let c = none-clean file (eqb (kind_at file) 32) (eqb (length_at file) 8) (leb 1 (word file 4) && (leb (word file 4) most_places && leb (word file 6) most_transitions)) 3 e in
    let s = eqb-true (length_at file) 8 c.is_right in
    let z = c.whole in
    let f = and_right (leb 1 (word file 4)) (leb (word file 4) most_places && leb (word file 6) most_transitions) c.is_fine in
    record {
      long = omega arith;
      own = rw (eqb-true (kind_at file) 32 c.is_due);
      places = leb-true (word file 4) most_places (and_left (leb (word file 4) most_places) (leb (word file 6) most_transitions) f);
      transitions = leb-true (word file 6) most_transitions (and_right (leb (word file 4) most_places) (leb (word file 6) most_transitions) f);
    }

-- what an accepted file holds
pub record NetRead (file : List ℕ) (n : Net) : Type 0 where
  pub head : HeadRead file
  pub marks : n.marks ≡ tabulate (word file 4) (λ i. word (drop (6 * i) (drop 8 file)) 4)
  pub transitions : n.transitions ≡ transitions_in (word file 6) (behind_places (word file 4) file)

-- THEOREM: the net of an accepted file is what its bytes say
pub net-read : (file : List ℕ) (n : Net) → read_net file ≡ accepted n → NetRead file n
unfolding read_net after_places behind_places
net-read file n e =
    let u = next-inv (net_head_fault file) 0 _ n e in
    let g = bind_inv (read_many mark_fault mark_at (length file) (word file 4) (drop 8 file)) (after_places file) n u.1 in
    let w = net_with-inv g.0.value _ n g.2 in
    let m = marks-read (word file 4) (length file) (drop 8 file) g.0 g.1 in
    let t = tail-read (word file 4) (length file) (suc (length g.0.rest)) (word file 6) 38 0 0 g.0.rest w.0 (omega arith) (omega arith) w.1 in
    let p = past-none g.0.rest (sym t.arcs ∙ t.none (omega arith)) in
    subst (NetRead file) w.2
    (record {
      head = head_read file u.0;
      marks = m.marks;
      transitions = t.transitions ∙ ap (transitions_in (word file 6)) (p ∙ (m.left ∙ drop-drop (6 * word file 4) 8 file));
    })

-- how many places and transitions an accepted net has, and words its state
pub place-count : (file : List ℕ) (n : Net) → NetRead file n → length n.marks ≡ word file 4
place-count file n r = ap length r.marks ∙ length-tab (word file 4) _

pub transition-count : (file : List ℕ) (n : Net) → NetRead file n → length n.transitions ≡ word file 6
transition-count file n r = ap length r.transitions ∙ length-transitions (word file 6) (behind_places (word file 4) file)

pub word_count : (file : List ℕ) (n : Net) → NetRead file n → net_word_count n ≡ word file 4 + word file 6
word_count file n r = ap₂ (λ (a b : ℕ). a + b) (place-count file n r) (transition-count file n r)
