use Rattle.std.proofs.Common.{refl, sym, subst, arith, rules}
use Rattle.std.proofs.lemmas.Result.{err_from_is_err_and}
use Rattle.effbd.specs.Answers.{refused, number}
use Rattle.agreement.specs.ByteLaws.{bytes-are}
use Rattle.starts.proofs.Told.{told-stopped, told-stood}
use Rattle.starts.specs.Counting.{Counting}
use Rattle.starts.proofs.CountTurns.{window-none, count-stops, count-turning, count-on}
use Rattle.starts.proofs.count_starts.Goals as goal

pub overflow_cast-count : goal.overflow_cast-count
overflow_cast-count c = record { fits = omega (arith, c.move_count-count.ensures, c.requires.fresh.few) }

pub loop-index-init : goal.loop-index-init
loop-index-init c = let a = c.args in let p = a.plant.now in
    (omega arith, subst (Counting p.file.now a.log.now p.rows p.items p.table.now a.row 0 a.state.now a.gaps.now) (sym (window-none c.default-window.result c.default-window.ensures)) c.requires.fresh, record { small = λ i. omega (arith, c.type_inv.state i) }, refl, refl)

pub returns-in_err-make_move : goal.returns-in_err-make_move
returns-in_err-make_move c = let a = c.args in let p = a.plant.now in let l = c.loop-index in let s = c.setpoint_at-setpoint in let e = c.in_err-make_move.ensures in let r = c.in_err-make_move.field-0.0 in
    let q = err_from_is_err_and c.from_residual.result c.from_residual.ensures.1 in
    let t = told-stopped p.file.now a.log.now a.row a.at.now p.rows p.items p.table.now l.invariant.1.holds l.invariant.1.clean (refused (number r.reason) r.value) _ refl refl
    (count-stops p.file.now a.log.now p.rows p.items p.table.now a.row l.index l.state l.gaps l.window l.invariant.1 c.requires.bytes l.invariant.2
    (omega (arith, c.loop-index-test.true, c.move_count-count.ensures)) s.result.code s.result.argument s.ensures.0 s.ensures.1 (bytes-are a.log.now (λ i. omega (arith, c.type_inv.log i)))
    _ _ e.result_value e.state_after) in
    record { result_value = rw (q.1, q.2) t.0; at_after = t.1 }

pub count_move-requires : goal.count_move-requires
count_move-requires c = let a = c.args in let p = a.plant.now in let l = c.loop-index in let s = c.setpoint_at-setpoint in let e = c.in_ok-make_move.ensures in
    count-turning p.file.now a.log.now p.rows p.items p.table.now a.row l.index l.state l.gaps l.window l.invariant.1 c.requires.bytes l.invariant.2
    (omega (arith, c.loop-index-test.true, c.move_count-count.ensures)) s.result.code s.result.argument s.ensures.0 s.ensures.1 (bytes-are a.log.now (λ i. omega (arith, c.type_inv.log i)))
    _ _ e.result_value e.state_after _ refl

pub loop-index-preserved : goal.loop-index-preserved
loop-index-preserved c = let a = c.args in let p = a.plant.now in let l = c.loop-index in let s = c.setpoint_at-setpoint in let e = c.in_ok-make_move.ensures in (
  omega (arith, c.loop-index-test.true),
  count-on p.file.now a.log.now p.rows p.items p.table.now a.row l.index l.state l.gaps l.window l.invariant.1 c.requires.bytes l.invariant.2
      (omega (arith, c.loop-index-test.true, c.move_count-count.ensures)) s.result.code s.result.argument s.ensures.0 s.ensures.1 (bytes-are a.log.now (λ i. omega (arith, c.type_inv.log i)))
      _ _ e.result_value e.state_after _ refl _ _ (omega (arith, c.count_move.auto)) c.count_move.ensures,
  record { small = λ i. search rules },
  omega (arith, c.make_move.auto, l.invariant.3),
  omega (arith, c.count_move.auto, l.invariant.4),
)

pub returns : goal.returns
returns c = let a = c.args in let p = a.plant.now in let l = c.loop-index in
    let t = told-stood p.file.now a.log.now a.row a.at.now p.rows p.items p.table.now l.index l.state l.gaps l.window l.invariant.1 (omega (arith, c.loop-index-test.false, l.invariant.0, c.move_count-count.ensures)) in
    record { result_value = t.0; at_after = t.1 }
