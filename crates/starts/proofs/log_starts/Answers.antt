use Rattle.std.proofs.Common.{arith}
use Rattle.std.proofs.lemmas.Result.{err_from_is_err_and}
use Rattle.agreement.specs.ByteLaws.{bytes-are}
use Rattle.diagram_step.proofs.Plants.{plain-table, plain-room, plain-words}
use Rattle.starts.proofs.Told.{file-off}
use Rattle.starts.proofs.log_starts.Goals as goal

pub returns-in_err-diagram : goal.returns-in_err-diagram
returns-in_err-diagram c = let a = c.args in
    let p = err_from_is_err_and c.from_residual.result c.from_residual.ensures.1 in
    let t = file-off a.file.now a.log.now a.row a.at.now c.in_err-diagram.field-0.0 c.in_err-diagram.ensures in
    record { result_value = rw (p.1, p.2) t.0; at_after = t.1 }

pub starts_with_copies-requires : goal.starts_with_copies-requires
starts_with_copies-requires c = c.in_ok-diagram.ensures.holds

pub slice_bounds-state-end : goal.slice_bounds-state-end
slice_bounds-state-end c = let a = c.args in let d = c.in_ok-diagram.diagram in
    plain-room a.file.now d.rows d.items d.table c.in_ok-diagram.ensures.holds c.cell.ensures c.if-cell-ne0.false c.fresh-state.result c.fresh-state.ensures

pub starts_on-requires : goal.starts_on-requires
starts_on-requires c = let a = c.args in let d = c.in_ok-diagram.diagram in let h = c.in_ok-diagram.ensures.holds in record {
  bytes = bytes-are a.file.now (λ i. omega (arith, c.type_inv.file i));
  fresh = record {
    plant = plain-table a.file.now d.rows d.items d.table h c.cell.ensures c.if-cell-ne0.false;
    fresh = plain-words a.file.now d.rows d.items d.table h c.cell.ensures c.if-cell-ne0.false c.fresh-state.result c.fresh-state.ensures;
  };
}
