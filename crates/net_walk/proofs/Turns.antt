-- A turn and the end of each walk.
use Prim.Native.Nat.{ℕ, suc, ◌+◌, ◌-◌, ◌≤◌, ◌<◌}
use mathlib.Core.Path.{◌≡◌}
use mathlib.Core.Bool.{Bool, true, false, cond}
use mathlib.Core.List.{List}
use native.Mathlib.Omega.{arith}
use borrow.Author.Tests.{eqb-true, le-leb, lt-leb}
use lib.ListN.{length, drop, get_or, set}
use lib.Dec.{eqb, leb}
use Rattle.ranges.specs.Tests.{decide, clash, and_left, and_right, and_intro}
use Rattle.effbd.specs.Answers.{accepted, refused}
use Rattle.effbd.specs.Records.{word, kind_at}
use Rattle.effbd.specs.Nets.{take_arc, arc_due, arc_at}
use Rattle.net_file.specs.Contents.{arc_here, arcs_in, transition_in, after_transition, transitions_in, part_at}
use Rattle.net_file.proofs.Walks.{here-long, arcs-more, arcs-done, transitions-more, transitions-none, part-more, part_none}
use Rattle.net_walk.specs.Walked.{take_here, covered, zeros, changed_if, applied, too_much, sums, stands, lowest}

pub take-kind : (rest : List ℕ) → take_here rest ≡ true → eqb (kind_at rest) take_arc ≡ true
unfolding take_here
take-kind rest h = and_right (leb 8 (length rest)) (eqb (kind_at rest) take_arc) h

pub take-arc : (rest : List ℕ) → take_here rest ≡ true → arc_here rest ≡ true
unfolding take_here arc_here arc_due
take-arc rest h =
    let k = eqb-true (kind_at rest) take_arc (take-kind rest h) in
    and_intro (and_left (leb 8 (length rest)) (eqb (kind_at rest) take_arc) h) (and_intro (le-leb 35 (kind_at rest) (omega arith)) (le-leb (kind_at rest) 37 (omega arith)))

pub take_long : (rest : List ℕ) → take_here rest ≡ true → 8 ≤ length rest
take_long rest h = here-long rest (take-arc rest h)

-- a take: place and weight are its words, x the mark there
module _ (marks rest : List ℕ) (place weight x : ℕ) (h : take_here rest ≡ true) (ep : place ≡ word rest 4) (ew : weight ≡ word rest 6) (ex : x ≡ get_or marks place 0) where
  pub covered-go : weight ≤ x → covered (arcs_in rest) marks ≡ covered (arcs_in (drop 8 rest)) marks
  unfolding covered
  covered-go l = rw (arcs-more rest (take-arc rest h), take-kind rest h, ← ep, ← ew, ← ex, le-leb weight x l)

  pub covered-stop : x < weight → covered (arcs_in rest) marks ≡ false
  unfolding covered
  covered-stop l = rw (arcs-more rest (take-arc rest h), take-kind rest h, ← ep, ← ew, ← ex, lt-leb weight x l)

is-take : (rest : List ℕ) → arc_here rest ≡ true → eqb (kind_at rest) take_arc ≡ true → take_here rest ≡ true
unfolding take_here
is-take rest a e = and_intro (le-leb 8 (length rest) (here-long rest a)) e

pub covered-end : (marks rest : List ℕ) → take_here rest ≡ false → covered (arcs_in rest) marks ≡ true
unfolding covered
covered-end marks rest h = decide (arc_here rest)
    (λ a. rw (arcs-more rest a, other a))
    (λ a. rw (arcs-done rest a))
  where
    other : arc_here rest ≡ true → eqb (kind_at rest) take_arc ≡ false
    other a = decide (eqb (kind_at rest) take_arc) (λ e. clash (is-take rest a e) h) (λ e. e)

module _ (marks rest : List ℕ) (h : arc_here rest ≡ true) where
  pub applied-go : (kind : ℕ) (next : List ℕ) → next ≡ changed_if kind (arc_at rest) marks → applied kind (arcs_in rest) marks ≡ applied kind (arcs_in (drop 8 rest)) next
  unfolding applied
  applied-go kind next e = rw (arcs-more rest h, e)

  pub sums-go : too_much (arc_at rest) marks ≡ false → sums (arcs_in rest) marks ≡ sums (arcs_in (drop 8 rest)) marks
  unfolding sums
  sums-go e = rw (arcs-more rest h, e)

  pub sums-stop : (place : ℕ) → too_much (arc_at rest) marks ≡ true → place ≡ word rest 4 → sums (arcs_in rest) marks ≡ refused 25 place
  unfolding sums
  sums-stop place e ep = rw (arcs-more rest h, e, ep)

module _ (marks rest : List ℕ) (h : arc_here rest ≡ false) where
  pub applied-end : (kind : ℕ) → applied kind (arcs_in rest) marks ≡ marks
  unfolding applied
  applied-end kind = rw (arcs-done rest h)

  pub sums-end : sums (arcs_in rest) marks ≡ accepted 0
  unfolding sums
  sums-end = rw (arcs-done rest h)

zeros-suc : (a b place : ℕ) (marks : List ℕ) → a ≡ suc b → zeros a place marks ≡ zeros b (place + 1) (set marks place 0)
unfolding zeros
zeros-suc a b place marks e = rw e

zeros-none : (a place : ℕ) (marks : List ℕ) → a ≡ 0 → zeros a place marks ≡ marks
unfolding zeros
zeros-none a place marks e = rw e

pub zeros-go : (last place : ℕ) (marks : List ℕ) → place ≤ last → zeros (last + 1 - place) place marks ≡ zeros (last + 1 - (place + 1)) (place + 1) (set marks place 0)
zeros-go last place marks l = zeros-suc (last + 1 - place) (last + 1 - (place + 1)) place marks (omega arith)

pub zeros-end : (last place : ℕ) (marks : List ℕ) → last < place → zeros (last + 1 - place) place marks ≡ marks
zeros-end last place marks l = zeros-none (last + 1 - place) place marks (omega arith)

pub part-go : (j i : ℕ) (rest : List ℕ) → i < j → part_at (j - i) rest ≡ part_at (j - (i + 1)) (after_transition rest)
part-go j i rest l = part-more (j - i) (j - (i + 1)) rest (omega arith)

pub part_end : (j i : ℕ) (rest : List ℕ) → j ≤ i → part_at (j - i) rest ≡ rest
part_end j i rest l = part_none (j - i) rest (omega arith)

module _ (n j : ℕ) (marks rest : List ℕ) (label : ℕ) where
  lowest-suc : (a b : ℕ) (v : Bool) → a ≡ suc b → stands (transition_in rest) marks label ≡ v
      → lowest (transitions_in a rest) marks label ≡ cond v 0 (lowest (transitions_in b (after_transition rest)) marks label + 1)
  unfolding lowest
  lowest-suc a b v e h = rw (transitions-more a b rest e, h)

  lowest-none : (a : ℕ) → a ≡ 0 → lowest (transitions_in a rest) marks label ≡ 0
  unfolding lowest
  lowest-none a e = rw (transitions-none a rest e)

  pub lowest-go : j < n → stands (transition_in rest) marks label ≡ false
      → j + lowest (transitions_in (n - j) rest) marks label ≡ j + 1 + lowest (transitions_in (n - (j + 1)) (after_transition rest)) marks label
  lowest-go l h = rw (lowest-suc (n - j) (n - (j + 1)) false (omega arith) h) (omega arith)

  pub lowest-found : j < n → stands (transition_in rest) marks label ≡ true → j + lowest (transitions_in (n - j) rest) marks label ≡ j
  lowest-found l h = rw (lowest-suc (n - j) (n - (j + 1)) true (omega arith) h) (omega arith)

  pub lowest-end : n ≤ j → j + lowest (transitions_in (n - j) rest) marks label ≡ j
  lowest-end l = rw (lowest-none (n - j) (omega arith)) (omega arith)
