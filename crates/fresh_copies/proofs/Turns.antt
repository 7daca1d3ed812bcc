-- The turn of each loop, over plain variables.
use Prim.Native.Nat.{ℕ, ◌+◌, ◌*◌}
use mathlib.Core.Path.{◌≡◌, refl, sym, ◌∙◌, ap}
use mathlib.Core.Bool.{true}
use mathlib.Core.List.{List}
use native.Mathlib.Numerals.{add-one}
use Rattle.diagram_table.specs.Cells.{count_in, run_first, run_length}
use Rattle.fresh_copies.specs.Runs.{run_put, runs_put}

pub runs_none : (rows : ℕ) (table state : List ℕ) → state ≡ runs_put rows 0 table state
unfolding runs_put
runs_none rows table state = refl

pub runs-turn : (rows k first many count : ℕ) (table start state next : List ℕ) → state ≡ runs_put rows k table start → first ≡ run_first table true 0 0 k → many ≡ run_length table true k
    → count ≡ count_in table k → next ≡ run_put (3 * rows + first) many count state → next ≡ runs_put rows (k + 1) table start
unfolding runs_put
runs-turn rows k first many count table start state next es ef em ec en =
    en ∙ (rw (ef, em, ec, es) refl ∙ ap (λ (n : ℕ). runs_put rows n table start) (sym (add-one k)))
