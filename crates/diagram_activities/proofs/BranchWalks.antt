-- A walk over an AND's BRANCH rows, from the last one back: what is left of it at each turn.
use Prim.Native.Nat.{ℕ, zero, suc, ◌+◌, ◌≤◌, ◌<◌}
use mathlib.Core.Path.{◌≡◌, refl}
use mathlib.Core.Bool.{cond}
use mathlib.Core.List.{List}
use native.Mathlib.Omega.{arith}
use native.Mathlib.Numerals.{add-one}
use lib.Dec.{ltb}
use borrow.Author.Tests.{lt-ltb, le-ltb}
use Rattle.diagram_table.specs.Cells.{branch_in}
use Rattle.diagram_moves.specs.Changes.{branches_back}

module _ (table : List ℕ) (turn : ℕ → List ℕ → List ℕ) where
  -- row `row` has had its turn, `before` is due where it stands before it, and then the whole will be what it has to be
  pub record Walking (whole : List ℕ) (row before : ℕ) (state : List ℕ) : Type 0 where
    pub turns : ℕ
    pub enough : row ≤ turns
    pub same : cond (ltb before row) (branches_back table turn turns before state) state ≡ whole

  -- what is due behind row `row`
  abbrev pub due : (row before : ℕ) (state : List ℕ) → List ℕ
  due row before state = cond (ltb before row) (branches_back table turn row before state) state

  pub walk_start : (state : List ℕ) (row before : ℕ) → Walking (due row before state) row before state
  walk_start state row before = record { turns = row; enough = omega arith; same = refl }

  pub walk-whole : (state after : List ℕ) (last before : ℕ) → after ≡ turn last state → before ≡ branch_in table last → due last before after ≡ branches_back table turn (last + 1) last state
  unfolding branches_back
  walk-whole state after last before e f = rw (add-one last, e, f)

  pub walk-on : (whole state after : List ℕ) (row before next : ℕ) → before < row → Walking whole row before state → after ≡ turn before state → next ≡ branch_in table before
      → Walking whole before next after
  walk-on whole state after row before next l w e f = go w.turns w.enough (rw (lt-ltb before row l) at w.same)
    where
      go : (n : ℕ) → row ≤ n → branches_back table turn n before state ≡ whole → Walking whole before next after
      go zero m h = absurd (omega arith)
      go (suc n) m h = record { turns = n; enough = omega arith; same = rw (e, f) (unfold branches_back in h) }

  pub walk-done : (whole state : List ℕ) (row before : ℕ) → row ≤ before → Walking whole row before state → state ≡ whole
  walk-done whole state row before l w = rw (le-ltb before row l) at w.same
