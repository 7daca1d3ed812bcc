-- The places that entering a row marks, in the table and in the diagram that it holds.
use Rattle.std.proofs.Common.{ℕ, suc, ◌+◌, ◌*◌, ◌<◌, ◌≡◌, ◌≢◌, List, add-one}
use Rattle.effbd.specs.Diagrams.{end, Diagram, row_count, kind}
use Rattle.effbd.specs.States.{entered_row}
use Rattle.agreement.specs.AcceptedFiles.{Held}
use Rattle.agreement.proofs.Reach.{next-in, entered-in}
use Rattle.diagram_table.specs.Held.{Holds}
use Rattle.diagram_table.proofs.HeldCells.{entered-cell}
use Rattle.net_entries.specs.Entering.{entry}

module _ (d : Diagram) (rows items : ℕ) (table : List ℕ) (h : Holds d rows items table) where
  pub entry-cell : (q : ℕ) → suc q < row_count d → entry table (q + 1) ≡ 3 * entered_row d (suc q)
  unfolding entry
  entry-cell q l = rw (add-one, entered-cell d rows items table h (suc q) l)

  module _ (held : Held d) where
    pub next-entry : (r : ℕ) → kind d r ≢ end → entry table (r + 1) ≡ 3 * entered_row d (suc r)
    next-entry r n = entry-cell r (next-in d held.acc r n)

    pub next-entered : (r : ℕ) → kind d r ≢ end → entered_row d (suc r) < row_count d
    next-entered r n = entered-in d held.acc (suc r) (next-in d held.acc r n)
