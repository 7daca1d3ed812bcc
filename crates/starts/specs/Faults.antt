-- What stands against a walk over a table: 40, then 41. Assumes nothing.
use Rattle.std.specs.Prelude.{ℕ, cond, List, ltb, eqb}
use Rattle.effbd.specs.Diagrams.{row}
use Rattle.effbd.specs.Logs.{log_fault}
use Rattle.diagram_table.specs.Cells.{kind_in}

-- 40, then 41, over the table
unfoldable pub not_function : (table : List ℕ) (rows row : ℕ) → ℕ
not_function table rows row = cond (ltb row rows) (cond (eqb (kind_in table row) 16) 0 41) 41

unfoldable pub starts_fault : (table : List ℕ) (rows : ℕ) (log : List ℕ) (row : ℕ) → ℕ
starts_fault table rows log row = cond (eqb (log_fault log) 0) (not_function table rows row) (log_fault log)
