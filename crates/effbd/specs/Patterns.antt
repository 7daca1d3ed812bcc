-- Document 01, "Net", and 02, CR 3 and CR 7: the net of a diagram, transition by transition, and its translation into a lent area (refusal 10). Assumes nothing.
use Rattle.std.specs.Prelude.{ℕ, zero, suc, Bool, true, false, cond, ◌&&◌, List, [], ◌∷◌, ◌++◌, map, length, get_or, drop, ltb, eqb}
use Rattle.effbd.specs.Ranges.{only, nobody, either, tabulate}
use Rattle.effbd.specs.Answers.{Outcome, accepted, refused}
use Rattle.effbd.specs.Diagrams.{Kind, function, and_open, branch, and_close, or_open, or_close, it_open, it_close, lp_open, lp_close, loop_exit, end, box_open, box_close, box_exit, Diagram, row_count, kind, is_kind, alpha, beta, turn_limit}
use Rattle.effbd.specs.Counts.{takes, gives, initial_count}
use Rattle.effbd.specs.Nesting.{owner, close, branch_of, loop, in_loop, box, scenario, outlet, read_diagram}
use Rattle.effbd.specs.Layout.{Place, by_place, places, place_of}
use Rattle.effbd.specs.States.{killed, entered, branch_entries}
use Rattle.effbd.specs.Nets.{Arc, take_arc, clear_arc, give_arc, Transition, Net, net_bytes}

-- a transition by the names of its places
pub record Pattern : Type 0 where
  pub earliest : ℕ
  pub latest : ℕ
  pub take : Place → ℕ
  pub clear : Place → Bool
  pub give : Place → ℕ

-- weights: none; 1 at each row of a set; n at row r; and nothing cleared
abbrev pub none : ℕ → ℕ
none x = 0

abbrev pub one_at : (ℕ → Bool) → ℕ → ℕ
one_at S x = cond (S x) 1 0

abbrev pub weight_of : ℕ → ℕ → ℕ → ℕ
weight_of r n x = cond (only r x) n 0

abbrev pub nowhere : Place → Bool
nowhere p = false

-- "interval [0, 0] unless said"
abbrev pub at_once : (Place → ℕ) → (Place → Bool) → (Place → ℕ) → Pattern
at_once take clear give = record { earliest = 0; latest = 0; take = take; clear = clear; give = give }

-- one mark on P of each row of a set
abbrev pub marks_p : (ℕ → Bool) → Place → ℕ
marks_p S = by_place (one_at S) none none none

-- a transition that stands for none
abbrev pub no_pattern : Pattern
no_pattern = at_once (λ p. 0) nowhere (λ p. 0)

module _ (d : Diagram) where
  -- "clears all places of its loop's rows": all places of a set of rows; "R = count at each IT open in them"
  abbrev pub clears_rows : (ℕ → Bool) → Place → Bool
  clears_rows W = by_place W W W (λ k. false)

  abbrev pub restores_r : (ℕ → Bool) → ℕ → ℕ
  restores_r W q = cond (W q && is_kind d it_open q) (turn_limit d q) 0

  -- "The *entry place* of s is P of the row that entering s changes"; 02, CR 3: "such transitions clear those rows' places (an LE's own
  -- range merging with it), restore R there (each R given once, an ending IT's own included) and give P of each BRANCH":
  -- one that takes P of the rows S, clears the rows W and makes the rows E active
  abbrev pub passes : (S W E : ℕ → Bool) → Pattern
  passes S W E = at_once (marks_p S) (clears_rows W) (by_place (one_at E) none (restores_r W) none)

  -- and one that, having cleared the rows W, enters q
  abbrev pub passes_to : (S W : ℕ → Bool) → ℕ → Pattern
  passes_to S W q = passes S (either W (killed d q)) (entered d q)

  -- "Transitions, by label"
  abbrev pub patterns_as : Kind → ℕ → List Pattern
  -- "first takes P and its takes, gives Q; second, [α, β], takes Q, gives entry of r + 1 and its gives"
  patterns_as function r =
      at_once (by_place (one_at (only r)) none none (takes d r)) nowhere (by_place none (one_at (only r)) none none)
      ∷ record {
        earliest = alpha d r;
        latest = beta d r;
        take = by_place none (one_at (only r)) none none;
        clear = clears_rows (killed d (suc r));
        give = by_place (one_at (entered d (suc r))) none (restores_r (killed d (suc r))) (gives d r);
      }
      ∷ []
  -- "AND open: takes P, gives every branch's entry. AND close: takes P of every BRANCH row, gives entry of r + 1"
  patterns_as and_open r = passes (only r) nobody (branch_entries d r) ∷ []
  patterns_as and_close r = passes_to (branch_of d (owner d r)) nobody (suc r) ∷ []
  -- "BRANCH of an OR: takes P of the open, gives entry of r + 1"
  patterns_as branch r = cond (is_kind d or_open (owner d r)) (passes_to (only (owner d r)) nobody (suc r) ∷ []) []
  -- "OR close, LP open: P to entry of r + 1. IT close, LP close: P to P of the open"
  patterns_as or_close r = passes_to (only r) nobody (suc r) ∷ []
  patterns_as lp_open r = passes_to (only r) nobody (suc r) ∷ []
  patterns_as it_close r = passes (only r) nobody (only (owner d r)) ∷ []
  patterns_as lp_close r = passes (only r) nobody (only (owner d r)) ∷ []
  -- "IT open: first takes P and one R, gives one Q and entry of r + 1; second takes P and count Q, gives count R and the entry after its close"
  patterns_as it_open r =
      at_once (by_place (one_at (only r)) none (one_at (only r)) none) (clears_rows (killed d (suc r)))
      (by_place (one_at (entered d (suc r))) (one_at (only r)) (restores_r (killed d (suc r))) none)
      ∷ at_once (by_place (one_at (only r)) (weight_of r (turn_limit d r)) none none) (clears_rows (killed d (suc (close d r))))
      (by_place (one_at (entered d (suc (close d r)))) none (restores_r (either (only r) (killed d (suc (close d r))))) none)
      ∷ []
  -- "LE: takes P, clears all places of its loop's rows, gives R = count at each IT open in them and the entry after the loop"
  patterns_as loop_exit r = passes_to (only r) (in_loop d r) (suc (close d (loop d r))) ∷ []
  patterns_as or_open r = []
  patterns_as end r = []
  -- 02, CR 7: "29 and 30 in the net as OR close"; EXIT "clears the rows .., restores R in the net and enters the row after its outlet's BRANCH"
  patterns_as box_open r = passes_to (only r) nobody (suc r) ∷ []
  patterns_as box_exit r = passes_to (only r) (scenario d (box d r)) (suc (outlet d r)) ∷ []
  patterns_as box_close r = passes_to (only r) nobody (suc r) ∷ []

  abbrev pub patterns : ℕ → List Pattern
  patterns r = patterns_as (kind d r) r

  -- the transitions of the rows below n, in the order of their numbers: the row, which is the label, and which of its transitions
  pub record Name : Type 0 where
    pub label : ℕ
    pub index : ℕ

  unfoldable pub names : ℕ → List Name
  names zero = []
  names (suc n) = names n ++ tabulate (length (patterns n)) (λ i. record { label = n; index = i })

-- "places rising, zero weights left out": the arcs of kind k of a weight at each of n places
unfoldable pub arcs_of : ℕ → ℕ → (ℕ → ℕ) → List Arc
arcs_of k zero weight = []
arcs_of k (suc n) weight = arcs_of k n weight ++ cond (eqb (weight n) 0) [] (record { kind = k; first = n; second = weight n } ∷ [])

-- "clear ranges rising and disjoint": the ranges of n places from place p on that are cleared, as few as can be
abbrev pub clear_range : ℕ → ℕ → Arc
clear_range first last = record { kind = clear_arc; first = first; second = last }

abbrev pub join_range : ℕ → List Arc → List Arc
join_range p [] = clear_range p p ∷ []
join_range p (x ∷ xs) = cond (eqb x.first (suc p)) (clear_range p x.second ∷ xs) (clear_range p p ∷ x ∷ xs)

unfoldable pub ranges_from : ℕ → ℕ → (ℕ → Bool) → List Arc
ranges_from zero p cleared = []
ranges_from (suc n) p cleared = let later = ranges_from n (suc p) cleared in cond (cleared p) (join_range p later) later

module _ (d : Diagram) where
  -- the pattern of a name, and its transition by numbers: takes, clears, gives
  abbrev pub pattern_of : Name d → Pattern
  pattern_of x = get_or (patterns d x.label) x.index no_pattern

  unfoldable pub transition_of : Name d → Transition
  transition_of x = record {
    label = x.label;
    earliest = (pattern_of x).earliest;
    latest = (pattern_of x).latest;
    arcs = arcs_of take_arc (places d) (λ p. (pattern_of x).take (place_of d p))
        ++ (ranges_from (places d) 0 (λ p. (pattern_of x).clear (place_of d p)) ++ arcs_of give_arc (places d) (λ p. (pattern_of x).give (place_of d p)));
  }

  -- "Fresh marks: 1 at the place that entering row 0 marks, R = count at each IT open, initial counts, else 0"
  abbrev pub fresh_mark : Place → ℕ
  fresh_mark = by_place (one_at (entered d 0)) none (restores_r d (λ q. true)) (initial_count d)

  unfoldable pub net_of : Net
  net_of = record { marks = tabulate (places d) (λ p. fresh_mark (place_of d p)); transitions = map transition_of (names d (row_count d)) }

-- what a translation returns, and what the lent area holds afterwards: "A translation returns the net's length; area bytes beyond it
-- keep their values"; 10 with the "bytes needed"
pub record Translated : Type 0 where
  pub answer : Outcome ℕ
  pub area : List ℕ

abbrev pub written : List ℕ → List ℕ → Translated
written net area = cond (ltb (length area) (length net))
    (record { answer = refused 10 (length net); area = area })
    (record { answer = accepted (length net); area = net ++ drop (length net) area })

abbrev pub translated_as : Outcome Diagram → List ℕ → Translated
translated_as (accepted d) area = written (net_bytes (net_of d)) area
translated_as (refused number value) area = record { answer = refused number value; area = area }

unfoldable pub translated : (file area : List ℕ) → Translated
translated file area = translated_as (read_diagram file) area
