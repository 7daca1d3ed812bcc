use Rattle.std.proofs.Common.{length, sym, ◌∙◌}
use Rattle.row_records.specs.Rows.{reached}
use Rattle.row_records.proofs.RowsFit.{in-range, table-long, not-into, into}
use Rattle.row_records.proofs.read.Goals as goal

pub returns-then-not-rows_fit : goal.returns-then-not-rows_fit
returns-then-not-rows_fit c = let a = c.args in not-into a.items a.from a.lines.now a.count a.table.now (sym c.rows_fit.ensures ∙ c.if-not-rows_fit.true)

pub invariant_of-rows : goal.invariant_of-rows
invariant_of-rows c = let a = c.args in record { few = in-range a.from a.count a.items (length a.table.now) (sym c.rows_fit.ensures ∙ c.if-not-rows_fit.false) }

pub read-reading-requires : goal.read-reading-requires
read-reading-requires c = let a = c.args in table-long a.from a.count a.items (length a.table.now) (sym c.rows_fit.ensures ∙ c.if-not-rows_fit.false)

pub refine-requires : goal.refine-requires
refine-requires c = record { before = c.args.table.now; read = c.read-reading.ensures.rows_read }

pub returns : goal.returns
returns c = let a = c.args in let w = c.read-reading in
    into a.items a.from a.lines.now a.count a.table.now w.new.table (reached c.refine.result) (sym c.rows_fit.ensures ∙ c.if-not-rows_fit.false) w.ensures.table_after
    (c.refine.ensures.is a.table.now w.ensures.rows_read)
