-- What this crate promises: a file's refusal, or its diagram as a table. Assumes nothing.
use Rattle.std.specs.Prelude.{ℕ, ◌+◌, ◌≤◌, ◌<◌, ◌≡◌, true, Result, Ok, Err, IfOk, List, length}
use Rattle.effbd.specs.declared.refusals.Refusal.{Refusal}
use Rattle.effbd.specs.Answers.{accepted, said, refusal_number, refusal_value}
use Rattle.effbd.specs.Records.{word}
use Rattle.effbd.specs.Nesting.{read_diagram, Part}
use Rattle.diagram_table.specs.declared.Part.{Part as Lies}
use Rattle.diagram_table.specs.Held.{HoldsFile}
use Rattle.diagram.specs.declared.Diagram.{Diagram as Parse}
use Rattle.diagram_file.specs.declared.Unread.{Unread}
use Rattle.diagram_records.specs.Reading.{Tabled}
use Rattle.outlets.specs.Outlets.{has_box}
use Rattle.diagram_rules.specs.Rules.{Structured}

-- a file's records, their nesting and the rules behind it were judged, a refusal's number and value, 0 and 0 for none: where nothing is refused, the table has the
-- records' columns, and where a row opens a box the structure of its rows
pub record Judged (file table : List ℕ) (refusal value : ℕ) : Type 0 where
  pub number-is : refusal ≡ refusal_number (read_diagram file)
  pub value-is : value ≡ refusal_value (read_diagram file)
  pub tabled : refusal ≡ 0 → Tabled file table
  pub read : (z : refusal ≡ 0) → read_diagram file ≡ accepted (tabled z).diagram
  pub boxed : (z : refusal ≡ 0) → has_box table (word file 6) ≡ true → Structured (tabled z).diagram (word file 6) table table

-- the table was filled from a file, or the file is refused (the table's words are then not fixed)
pub record Filled (file table : List ℕ) (refusal value : ℕ) : Type 0 where
  pub number-is : refusal ≡ refusal_number (read_diagram file)
  pub value-is : value ≡ refusal_value (read_diagram file)
  pub holds : refusal ≡ 0 → HoldsFile file (word file 6) (word file 8) table

-- a file was read: it is refused, or its diagram's rows and items are the head's words, and its table holds them
pub record DiagramOf (file : List ℕ) (p : Result Parse Refusal) : Type 0 where
  pub number-is : refusal_number (said p) ≡ refusal_number (read_diagram file)
  pub value-is : refusal_value (said p) ≡ refusal_value (read_diagram file)
  pub rows : IfOk p (λ d. d.rows ≡ word file 6)
  pub items : IfOk p (λ d. d.items ≡ word file 8)
  pub holds : IfOk p (λ d. HoldsFile file d.rows d.items d.table)

-- the same, with rows and items of the head told of a refused file too
abbrev pub parsed : Result Parse Unread → Result Parse Refusal
parsed (Ok d) = Ok d
parsed (Err u) = Err u.why

abbrev pub rows_told : Result Parse Unread → ℕ
rows_told (Ok d) = d.rows
rows_told (Err u) = u.rows

abbrev pub items_told : Result Parse Unread → ℕ
items_told (Ok d) = d.items
items_told (Err u) = u.items

pub record Parsed (file : List ℕ) (p : Result Parse Unread) : Type 0 where
  pub diagram : DiagramOf file (parsed p)
  pub rows : rows_told p ≡ word file 6
  pub items : items_told p ≡ word file 8

-- a part that lies in the file is that of the definition
pub record PartIs (file : List ℕ) (part : Part) (r : Lies) : Type 0 where
  pub start : r.start ≡ part.start
  pub size : r.size ≡ part.size
  pub inside : r.start + r.size ≤ length file
  -- so that both fit 32 bits
  pub near : (r.start < 65536) × (r.size < 393216)
