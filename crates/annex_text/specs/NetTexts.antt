-- The text that is read off a net's bytes is the text of the net; a translation's answer, printed, is the annex text.
use Prim.Native.Nat.{ℕ, zero, suc, ◌+◌, ◌*◌, ◌/◌, ◌%◌, ◌≤◌}
use Rattle.std.specs.Prelude.{◌≢◌, ◌≡◌, Bool, cond, length, drop, ltb, eqb}
use Rattle.std.proofs.Math.Path.{refl}
use Rattle.std.proofs.Common.{sym, ◌∙◌, ap, arith, drop-drop}
use mathlib.Core.List.{List, [], ◌∷◌, ◌++◌, map, append_assoc}
use Rattle.std.proofs.Math.Seq.{take-append_seam}
use borrow.Author.Tests.{ltb-true, ltb-false, lt-leb, le-leb, le-ltb}
use Rattle.effbd.specs.Answers.{Outcome, accepted, refused, and_then}
use Rattle.effbd.specs.Records.{word, kind_at}
use Rattle.effbd.specs.Diagrams.{Diagram, row_count}
use Rattle.effbd.specs.Layout.{place_of, places}
use Rattle.effbd.specs.Nesting.{read_diagram}
use Rattle.effbd.specs.Nets.{Arc, Transition, Net, arc_bytes, transition_bytes, mark_bytes, net_bytes}
use Rattle.effbd.specs.Patterns.{Name, arcs_of, join_range, ranges_from, names, pattern_of, transition_of, net_of, written, translated_as, translated}
use Rattle.effbd.specs.Annex.{number, numbers, line, t_letter, label_letters, from_letters, to_letters, arc_letters, arc_lines, transition_lines, net_lines, printed, fitted, annex_in, net_letters, marks_letters}
use Rattle.agreement.specs.AcceptedFiles.{AllOf}
use Rattle.ranges.specs.Tests.{decide}
use Rattle.agreement.specs.ByteLaws.{of_two}
use Rattle.annex_text.specs.Lines.{record_line, record_size, transitions_at, record_lines, mark_numbers, net_text, answer_text}
use Rattle.annex_text.specs.RecordLaws.{arc-of, arc-line, arc-size, arc-counts, transition-words, transition-line, transition-size, transition-counts}

-- one record more: its line, then the lines of what follows it
step : (fuel j : ℕ) (rest : List ℕ) → 4 ≤ length rest
    → record_lines (suc fuel) j rest ≡ record_line j rest ++ record_lines fuel (j + transitions_at rest) (drop (record_size rest) rest)
unfolding record_lines
step fuel j rest l =
    ap (λ (b : Bool). cond b [] (record_line j rest ++ record_lines fuel (j + transitions_at rest) (drop (record_size rest) rest))) (le-ltb (length rest) 4 l)

-- no arc is of a transition's kind
abbrev pub IsArc : Arc → Type 0
IsArc x = x.kind ≢ 34

abbrev arc_record : Arc → List ℕ → List ℕ
arc_record x rest = 8 ∷ 0 ∷ x.kind % 256 ∷ x.kind / 256 ∷ x.first % 256 ∷ x.first / 256 ∷ x.second % 256 ∷ x.second / 256 ∷ rest

arc-step : (fuel j : ℕ) (x : Arc) (rest : List ℕ) → IsArc x
    → record_lines (suc fuel) j (arc_record x rest) ≡ line (arc_letters x.kind) (x.first ∷ x.second ∷ []) ++ record_lines fuel j rest
arc-step fuel j x rest h = step fuel j (arc_record x rest) (omega arith)
    ∙ (ap (λ (l : List ℕ). l ++ record_lines fuel (j + transitions_at whole) (drop (record_size whole) whole)) (sym (arc-of whole (arc_letters x.kind) x.kind x.first x.second kind-is (sym (of_two x.first)) (sym (of_two x.second)) refl ∙ arc-line whole x.kind kind-is j h))
    ∙ (ap (λ (k : ℕ). text ++ record_lines fuel (j + transitions_at whole) (drop k whole)) (sym (arc-size whole x.kind kind-is h))
    ∙ ap (λ (k : ℕ). text ++ record_lines fuel k rest) counted))
  where
    whole : List ℕ
    whole = arc_record x rest

    text : List ℕ
    text = line (arc_letters x.kind) (x.first ∷ x.second ∷ [])

    kind-is : x.kind ≡ kind_at whole
    kind-is = sym (of_two x.kind)

    counted : j + transitions_at whole ≡ j
    counted = let e = arc-counts whole x.kind kind-is h in omega arith

abbrev transition_record : Transition → List ℕ → List ℕ
transition_record t rest = 10 ∷ 0 ∷ 34 ∷ 0 ∷ t.label % 256 ∷ t.label / 256 ∷ t.earliest % 256 ∷ t.earliest / 256 ∷ t.latest % 256 ∷ t.latest / 256 ∷ rest

abbrev transition_text : ℕ → Transition → List ℕ
transition_text j t = t_letter ++ (number j ++ (label_letters ++ (number t.label ++ (from_letters ++ (number t.earliest ++ (to_letters ++ (number t.latest ++ (10 ∷ []))))))))

transition-step : (fuel j : ℕ) (t : Transition) (rest : List ℕ) → record_lines (suc fuel) j (transition_record t rest) ≡ transition_text j t ++ record_lines fuel (suc j) rest
transition-step fuel j t rest = step fuel j whole (omega arith)
    ∙ (ap (λ (l : List ℕ). l ++ record_lines fuel (j + transitions_at whole) (drop (record_size whole) whole)) (sym (transition-words j whole t.label t.earliest t.latest (sym (of_two t.label)) (sym (of_two t.earliest)) (sym (of_two t.latest)) ∙ transition-line whole 34 refl j refl))
    ∙ (ap (λ (k : ℕ). transition_text j t ++ record_lines fuel (j + transitions_at whole) (drop k whole)) (sym (transition-size whole 34 refl refl))
    ∙ ap (λ (k : ℕ). transition_text j t ++ record_lines fuel k rest) counted))
  where
    whole : List ℕ
    whole = transition_record t rest

    counted : j + transitions_at whole ≡ suc j
    counted = let e = transition-counts whole 34 refl refl in omega arith

-- whatever the fuel, if it is enough, the bytes say the lines
abbrev Says : ℕ → List ℕ → List ℕ → Type 0
Says j bytes lines = (fuel : ℕ) → length bytes ≤ fuel → record_lines fuel j bytes ≡ lines

arcs-say : (xs : List Arc) → AllOf IsArc xs → (j : ℕ) (rest lines : List ℕ) → Says j rest lines → Says j (arc_bytes xs ++ rest) (arc_lines xs ++ lines)
unfolding arc_bytes arc_lines
arcs-say [] h j rest lines s fuel l = s fuel l
arcs-say (x ∷ xs) h j rest lines s zero l = absurd (omega arith)
arcs-say (x ∷ xs) h j rest lines s (suc fuel) l = arc-step fuel j x (arc_bytes xs ++ rest) h.0
    ∙ (ap (λ (y : List ℕ). line (arc_letters x.kind) (x.first ∷ x.second ∷ []) ++ y) (arcs-say xs h.1 j rest lines s fuel (omega arith))
    ∙ sym (append_assoc (line (arc_letters x.kind) (x.first ∷ x.second ∷ [])) (arc_lines xs) lines))

abbrev pub HasArcs : Transition → Type 0
HasArcs t = AllOf IsArc t.arcs

transitions-say : (ts : List Transition) → AllOf HasArcs ts → (j : ℕ) → Says j (transition_bytes ts) (transition_lines j ts)
unfolding transition_bytes transition_lines record_lines
transitions-say [] h j zero l = refl
transitions-say [] h j (suc fuel) l = refl
transitions-say (t ∷ ts) h j zero l = absurd (omega arith)
transitions-say (t ∷ ts) h j (suc fuel) l = transition-step fuel j t (arc_bytes t.arcs ++ transition_bytes ts)
    ∙ ap (λ (y : List ℕ). transition_text j t ++ y) (arcs-say t.arcs h.0 (suc j) (transition_bytes ts) (transition_lines (suc j) ts) (transitions-say ts h.1 (suc j)) fuel (omega arith))

marks-say : (ms rest : List ℕ) → mark_numbers (length ms) (mark_bytes ms ++ rest) ≡ numbers ms
unfolding mark_numbers mark_bytes numbers
marks-say [] rest = refl
marks-say (m ∷ ms) rest = ap (λ (n : ℕ). number n ++ mark_numbers (length ms) (mark_bytes ms ++ rest)) (of_two m) ∙ ap (λ (l : List ℕ). number m ++ l) (marks-say ms rest)

past-marks : (ms rest : List ℕ) → drop (6 * length ms) (mark_bytes ms ++ rest) ≡ rest
unfolding mark_bytes
past-marks [] rest = refl
past-marks (m ∷ ms) rest = let e : 6 * suc (length ms) ≡ 6 + 6 * length ms = omega arith in
    ap (λ (k : ℕ). drop k (mark_bytes (m ∷ ms) ++ rest)) e ∙ (sym (drop-drop (6 * length ms) 6 (mark_bytes (m ∷ ms) ++ rest)) ∙ past-marks ms rest)

-- the text of a net, from its numbers, its marks' numbers and its transitions' lines
abbrev assembled : (places transitions : ℕ) (marks records : List ℕ) → List ℕ
assembled places transitions marks records = line net_letters (places ∷ transitions ∷ []) ++ ((marks_letters ++ (marks ++ (10 ∷ []))) ++ records)

-- THEOREM: the text that is read off a net's bytes is the text of the net
pub net-text : (n : Net) → AllOf HasArcs n.transitions → net_text (net_bytes n) ≡ net_lines n
unfolding net_text net_bytes net_lines
net-text n h =
    ap (λ (k : ℕ). assembled k (word bytes 6) (mark_numbers k (drop 8 bytes)) (lines (drop (8 + 6 * k) bytes))) (of_two p)
    ∙ (ap (λ (k : ℕ). assembled p k (mark_numbers p (drop 8 bytes)) (lines (drop (8 + 6 * p) bytes))) (of_two (length n.transitions))
    ∙ (ap (λ (l : List ℕ). assembled p (length n.transitions) l (lines (drop (8 + 6 * p) bytes))) (marks-say n.marks (transition_bytes n.transitions))
    ∙ ap (λ (l : List ℕ). assembled p (length n.transitions) (numbers n.marks) l)
    (ap lines (sym (drop-drop (6 * p) 8 bytes) ∙ past-marks n.marks (transition_bytes n.transitions))
    ∙ transitions-say n.transitions h 0 (length (transition_bytes n.transitions)) (omega arith))))
  where
    bytes : List ℕ
    bytes = net_bytes n

    p : ℕ
    p = length n.marks

    lines : List ℕ → List ℕ
    lines records = record_lines (length records) 0 records

-- the arcs of a diagram's net are takes, clears and gives
all_append : {A : Type 0} (Q : A → Type 0) (xs ys : List A) → AllOf Q xs → AllOf Q ys → AllOf Q (xs ++ ys)
all_append Q [] ys h g = g
all_append Q (x ∷ xs) ys h g = (h.0, all_append Q xs ys h.1 g)

arcs-are : (k n : ℕ) (weight : ℕ → ℕ) → k ≢ 34 → AllOf IsArc (arcs_of k n weight)
unfolding arcs_of
arcs-are k zero weight h = tt
arcs-are k (suc n) weight h = all_append IsArc (arcs_of k n weight) _ (arcs-are k n weight h) (decide (eqb (weight n) 0) (λ e. rw e tt) (λ e. rw e (h, tt)))

clear-kind : ◌≢◌ {A = ℕ} 36 34
clear-kind e = omega arith

joined-are : (p : ℕ) (xs : List Arc) → AllOf IsArc xs → AllOf IsArc (join_range p xs)
joined-are p [] h = (clear-kind, tt)
joined-are p (x ∷ xs) h = decide (eqb x.first (suc p)) (λ e. rw e (clear-kind, h.1)) (λ e. rw e (clear-kind, h))

ranges-are : (n p : ℕ) (cleared : ℕ → Bool) → AllOf IsArc (ranges_from n p cleared)
unfolding ranges_from
ranges-are zero p cleared = tt
ranges-are (suc n) p cleared =
    decide (cleared p) (λ e. rw e (joined-are p (ranges_from n (suc p) cleared) (ranges-are n (suc p) cleared))) (λ e. rw e (ranges-are n (suc p) cleared))

module _ (d : Diagram) where
  transition-arcs : (x : Name d) → HasArcs (transition_of d x)
  unfolding transition_of
  transition-arcs x = all_append IsArc (arcs_of 35 (places d) (λ p. (pattern_of d x).take (place_of d p))) _ (arcs-are 35 (places d) _ (λ e. omega arith))
      (all_append IsArc (ranges_from (places d) 0 (λ p. (pattern_of d x).clear (place_of d p))) _ (ranges-are (places d) 0 _) (arcs-are 37 (places d) _ (λ e. omega arith)))

  mapped-arcs : (xs : List (Name d)) → AllOf HasArcs (map (transition_of d) xs)
  mapped-arcs [] = tt
  mapped-arcs (x ∷ xs) = (transition-arcs x, mapped-arcs xs)

  diagram-text : net_text (net_bytes (net_of d)) ≡ net_lines (net_of d)
  diagram-text = net-text (net_of d) (unfold net_of in mapped-arcs (names d (row_count d)))

-- THEOREM: what is printed of a translation's answer is the annex text
pub answer-text : (file area : List ℕ) → answer_text (translated file area).answer (translated file area).area ≡ annex_in (length area) file
unfolding translated annex_in
answer-text file area = from (read_diagram file)
  where
    net : (d : Diagram) → answer_text (written (net_bytes (net_of d)) area).answer (written (net_bytes (net_of d)) area).area ≡ printed (fitted (length area) (net_of d))
    net d = unfold printed in decide (ltb (length area) (length bytes))
        (λ e. rw (e, lt-leb (length bytes) (length area) (ltb-true (length area) (length bytes) e)))
        (λ e. rw (e, le-leb (length bytes) (length area) (ltb-false (length area) (length bytes) e)) (ap net_text (take-append_seam bytes (drop (length bytes) area)) ∙ diagram-text d))
      where
        bytes : List ℕ
        bytes = net_bytes (net_of d)

    from : (o : Outcome Diagram) → answer_text (translated_as o area).answer (translated_as o area).area ≡ printed (and_then o (λ d. fitted (length area) (net_of d)))
    from (accepted d) = net d
    from (refused number value) = unfold printed in refl
