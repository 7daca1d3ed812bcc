-- The places that the net of a diagram has.
use Rattle.std.specs.Prelude.{◌<◌}
use Rattle.effbd.specs.Diagrams.{Diagram, row_count}
use Rattle.effbd.specs.Counts.{count_total}
use Rattle.effbd.specs.Layout.{Count, P, Place, Q, R}

module _ (d : Diagram) where
  abbrev pub Real : Place → Type 0
  Real (P r) = r < row_count d
  Real (Q r) = r < row_count d
  Real (R r) = r < row_count d
  Real (Count k) = k < count_total d
