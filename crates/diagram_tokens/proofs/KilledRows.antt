-- A kill, by what was computed.
use Prim.Native.Nat.{ℕ, ◌+◌, ◌*◌}
use mathlib.Core.Path.{◌≡◌, ◌∙◌}
use mathlib.Core.List.{List}
use Rattle.diagram_table.specs.Cells.{branch_in, close_in}
use Rattle.diagram_moves.specs.Changes.{words_cleared, branches_set, rows_killed}

pub killed-whole : (table state cleared after : List ℕ) (o close last : ℕ) → close ≡ close_in table o → last ≡ branch_in table close → cleared ≡ words_cleared (3 * (o + 1)) (3 * close) state
    → after ≡ branches_set table 3 last cleared → after ≡ rows_killed table o state
unfolding rows_killed
killed-whole table state cleared after o close last e f g h = h ∙ rw (g, f, e)
