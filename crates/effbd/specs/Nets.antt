-- Document 01, "Net": a net as its file has it, its bytes, the reading of a net file (refusals 1 to 6). Assumes nothing.
use Rattle.std.specs.Prelude.{ℕ, zero, suc, ◌-◌, Bool, true, cond, ◌&&◌, List, [], ◌∷◌, ◌++◌, length, drop, leb, ltb, eqb}
use Rattle.effbd.specs.Answers.{Outcome, accepted, refused, unless, and_then}
use Rattle.effbd.specs.Records.{word, word_bytes, length_at, kind_at, length_of, fault_at, Got, read_many}

-- an arc: kind 35 take (place, weight), 36 clear (first, last place), 37 give (place, weight)
pub record Arc : Type 0 where
  pub kind : ℕ
  pub first : ℕ
  pub second : ℕ

abbrev pub take_arc : ℕ
take_arc = 35

abbrev pub clear_arc : ℕ
clear_arc = 36

abbrev pub give_arc : ℕ
give_arc = 37

-- "34 transition: label, a ≤ b. Its arcs follow": earliest is a, latest is b
pub record Transition : Type 0 where
  pub label : ℕ
  pub earliest : ℕ
  pub latest : ℕ
  pub arcs : List Arc

-- a net: the mark of each place, the transitions
pub record Net : Type 0 where
  pub marks : List ℕ
  pub transitions : List Transition

-- "Net records: 32 head, length 8: places, transitions. 33 place, length 6: mark. 34 transition, length 10. Its arcs follow, length 8"
unfoldable pub arc_bytes : List Arc → List ℕ
arc_bytes [] = []
arc_bytes (x ∷ xs) = word_bytes 8 ++ (word_bytes x.kind ++ (word_bytes x.first ++ (word_bytes x.second ++ arc_bytes xs)))

unfoldable pub transition_bytes : List Transition → List ℕ
transition_bytes [] = []
transition_bytes (t ∷ ts) =
    word_bytes 10 ++ (word_bytes 34 ++ (word_bytes t.label ++ (word_bytes t.earliest ++ (word_bytes t.latest ++ (arc_bytes t.arcs ++ transition_bytes ts)))))

unfoldable pub mark_bytes : List ℕ → List ℕ
mark_bytes [] = []
mark_bytes (m ∷ ms) = word_bytes 6 ++ (word_bytes 33 ++ (word_bytes m ++ mark_bytes ms))

unfoldable pub net_bytes : Net → List ℕ
net_bytes n = word_bytes 8 ++ (word_bytes 32 ++ (word_bytes (length n.marks) ++ (word_bytes (length n.transitions) ++ (mark_bytes n.marks ++ transition_bytes n.transitions))))

-- the net's limits: "places (1 to 208), transitions (0 to 128)", "label below 64"; "a net may have up to 1,216 places"
abbrev pub most_places : ℕ
most_places = 1216

abbrev pub most_transitions : ℕ
most_transitions = 128

abbrev pub label_limit : ℕ
label_limit = 64

-- "35 take, 36 clear, 37 give; in that order": behind an arc of kind k one of kind j is due
unfoldable pub arc_due : ℕ → ℕ → Bool
arc_due k j = leb k j && leb j give_arc

-- "places rising, clear ranges rising and disjoint, all places below the head's number, weights 1 or more", "first ≤ last":
-- in a net of `count` places, behind an arc of kind k, where one more of kind k may have places from `from` on
unfoldable pub arc_fine : (count k from : ℕ) → Arc → Bool
arc_fine count k from x = leb (cond (eqb x.kind k) from 0) x.first
    && cond (eqb x.kind clear_arc) (leb x.first x.second && ltb x.second count) (ltb x.first count && leb 1 x.second)

-- the lowest place that one more arc of the same kind may have
unfoldable pub above : Arc → ℕ
above x = suc (cond (eqb x.kind clear_arc) x.second x.first)

-- "label below 64 and never falling, a ≤ b": behind a transition of label `label`
unfoldable pub transition_fine : ℕ → Transition → Bool
transition_fine label t = leb label t.label && (ltb t.label label_limit && leb t.earliest t.latest)

abbrev pub arc_at : List ℕ → Arc
arc_at bytes = record { kind = kind_at bytes; first = word bytes 4; second = word bytes 6 }

abbrev pub transition_at : List ℕ → Transition
transition_at bytes = record { label = word bytes 4; earliest = word bytes 6; latest = word bytes 8; arcs = [] }

abbrev pub mark_at : List ℕ → ℕ
mark_at bytes = word bytes 4

-- "32 head, length 8: places, transitions", within the limits
unfoldable pub net_head_fault : List ℕ → ℕ
net_head_fault bytes = fault_at bytes (eqb (kind_at bytes) 32) (eqb (length_at bytes) (length_of 32))
    (leb 1 (word bytes 4) && (leb (word bytes 4) most_places && leb (word bytes 6) most_transitions)) 4

-- "33 place, length 6: mark"
unfoldable pub mark_fault : List ℕ → ℕ
mark_fault bytes = fault_at bytes (eqb (kind_at bytes) 33) (eqb (length_at bytes) (length_of 33)) true 5

-- what a net file has behind its places, or behind one of its records: more arcs of the transition before, more transitions
pub record Tail : Type 0 where
  pub arcs : List Arc
  pub transitions : List Transition

abbrev pub no_tail : Tail
no_tail = record { arcs = []; transitions = [] }

abbrev pub with_arc : Arc → Outcome Tail → Outcome Tail
with_arc x (accepted t) = accepted (record { arcs = x ∷ t.arcs; transitions = t.transitions })
with_arc x (refused number value) = refused number value

abbrev pub with_transition : Transition → Outcome Tail → Outcome Tail
with_transition x (accepted t) = accepted (record {
  arcs = [];
  transitions = record { label = x.label; earliest = x.earliest; latest = x.latest; arcs = t.arcs } ∷ t.transitions;
})
with_transition x (refused number value) = refused number value

module _ (count total : ℕ) where
  -- "a due arc is checked as any record"
  unfoldable pub arc_fault : (k from : ℕ) → List ℕ → ℕ
  arc_fault k from bytes = fault_at bytes true (eqb (length_at bytes) (length_of (kind_at bytes))) (arc_fine count k from (arc_at bytes)) 5

  -- where no arc is due a transition is
  unfoldable pub transition_fault : (label : ℕ) → List ℕ → ℕ
  transition_fault label bytes = fault_at bytes (eqb (kind_at bytes) 34) (eqb (length_at bytes) (length_of 34)) (transition_fine label (transition_at bytes)) 5

  -- `more` transitions are due; arcs of kind k or later are due, those of kind k with places from `from` on; `label` stood last.
  -- "After the last transition fewer than 4 bytes left over, or a kind that is no arc due there, is 6"; no byte left is the end.
  -- The first number falls with each record and, begun at one more than the bytes, never runs out.
  unfoldable pub read_tail : (fuel more k from label : ℕ) → List ℕ → Outcome Tail
  read_tail zero more k from label rest = accepted no_tail
  read_tail (suc fuel) zero k from label rest =
      let arc = unless (arc_fault k from rest) (total - length rest)
      (with_arc (arc_at rest) (read_tail fuel zero (kind_at rest) (above (arc_at rest)) label (drop 8 rest))) in
      cond (eqb (length rest) 0) (accepted no_tail) (cond (leb 4 (length rest) && arc_due k (kind_at rest)) arc (refused 6 (total - length rest)))
  read_tail (suc fuel) (suc more) k from label rest =
      let arc = unless (arc_fault k from rest) (total - length rest)
      (with_arc (arc_at rest) (read_tail fuel (suc more) (kind_at rest) (above (arc_at rest)) label (drop 8 rest))) in
      let transition = unless (transition_fault label rest) (total - length rest)
      (with_transition (transition_at rest) (read_tail fuel more take_arc 0 (word rest 4) (drop 10 rest))) in
      cond (leb 4 (length rest) && arc_due k (kind_at rest)) arc transition

abbrev pub net_with : List ℕ → Outcome Tail → Outcome Net
net_with marks (accepted t) = accepted (record { marks = marks; transitions = t.transitions })
net_with marks (refused number value) = refused number value

-- before the first transition no arc is due: no kind is 38 or later
unfoldable pub after_places : List ℕ → Got (List ℕ) → Outcome Net
after_places file got = net_with got.value (read_tail (word file 4) (length file) (suc (length got.rest)) (word file 6) (suc give_arc) 0 0 got.rest)

-- a net file: the head, the places, the transitions with their arcs
unfoldable pub read_net : List ℕ → Outcome Net
read_net file = unless (net_head_fault file) 0 (and_then (read_many mark_fault mark_at (length file) (word file 4) (drop 8 file)) (after_places file))
