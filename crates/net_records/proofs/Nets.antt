-- The records of any net, and their bytes.
use Rattle.std.proofs.Common.{ℕ, ◌≡◌, refl, ap, ap₂, ◌∙◌, List, [], ◌∷◌, ◌++◌, map, append_assoc, length}
use Rattle.effbd.specs.Nets.{Arc, Transition, Net, arc_bytes, transition_bytes, mark_bytes, net_bytes}
use Rattle.net_records.specs.Writing.{Records, encode, flat}
use Rattle.net_records.proofs.Bytes.{flat_append}

abbrev pub arc_record : Arc → List ℕ
arc_record x = 8 ∷ x.kind ∷ x.first ∷ x.second ∷ []

unfoldable pub mark_record : ℕ → List ℕ
mark_record m = 6 ∷ 33 ∷ m ∷ []

unfoldable pub transition_record : Transition → List ℕ
transition_record t = 10 ∷ 34 ∷ t.label ∷ t.earliest ∷ t.latest ∷ []

unfoldable pub transition_records : List Transition → Records
transition_records [] = []
transition_records (t ∷ ts) = transition_record t ∷ (map arc_record t.arcs ++ transition_records ts)

pub records-append : (xs ys : List Transition) → transition_records (xs ++ ys) ≡ transition_records xs ++ transition_records ys
unfolding transition_records
records-append [] ys = refl
records-append (t ∷ ts) ys = rw (records-append ts ys, append_assoc)

flat-arcs : (xs : List Arc) → flat (map arc_record xs) ≡ arc_bytes xs
unfolding flat encode arc_bytes
flat-arcs [] = refl
flat-arcs (x ∷ xs) = ap (λ (l : List ℕ). encode (arc_record x) ++ l) (flat-arcs xs)

flat-transitions : (ts : List Transition) → flat (transition_records ts) ≡ transition_bytes ts
unfolding flat encode transition_records transition_record transition_bytes
flat-transitions [] = refl
flat-transitions (t ∷ ts) = ap (λ (l : List ℕ). encode (transition_record t) ++ l)
    (flat_append (map arc_record t.arcs) (transition_records ts) ∙ ap₂ ◌++◌ (flat-arcs t.arcs) (flat-transitions ts))

flat-marks : (ms : List ℕ) → flat (map mark_record ms) ≡ mark_bytes ms
unfolding flat encode mark_record mark_bytes
flat-marks [] = refl
flat-marks (m ∷ ms) = ap (λ (l : List ℕ). encode (mark_record m) ++ l) (flat-marks ms)

unfoldable pub records_of : Net → Records
records_of n = (8 ∷ 32 ∷ length n.marks ∷ length n.transitions ∷ []) ∷ (map mark_record n.marks ++ transition_records n.transitions)

pub flat-net : (n : Net) → flat (records_of n) ≡ net_bytes n
unfolding flat encode records_of net_bytes
flat-net n = ap (λ (l : List ℕ). encode (8 ∷ 32 ∷ length n.marks ∷ length n.transitions ∷ []) ++ l)
    (flat_append (map mark_record n.marks) (transition_records n.transitions) ∙ ap₂ ◌++◌ (flat-marks n.marks) (flat-transitions n.transitions))
