use Rattle.std.proofs.Common.{◌≡◌, ◌-◌}
use Rattle.diagram_records.specs.Reading.{ItemsState, items_laid}
use Rattle.diagram_records.proofs.read_items.Given as goal

abbrev pub invariant-loop-item : goal.invariant-loop-item
invariant-loop-item l = ItemsState l.from l.lines l.item l.rest l.at l.table × (items_laid l.rows l.items l.item l.at (l.items - l.item) l.rest l.table ≡ items_laid l.rows l.items 0 l.from l.items l.lines l.initial.table)
