use Rattle.std.specs.Prelude.{ℕ, ◌≡◌}
use Rattle.std.proofs.Common.{subst, arith}
use Rattle.outlets.specs.Outlets.{BoxesPut}
use Rattle.outlets.proofs.Passes.{boxes-turn}
use Rattle.outlets.proofs.put_boxes.Goals as goal

pub loop-row-preserved : goal.loop-row-preserved
loop-row-preserved c = let a = c.args in let s = c.loop-row in boxes-turn a.rows a.table.now s.row s.table (omega (arith, c.requires)) (omega arith) s.invariant c.requires.0 c.put_box.ensures

pub returns : goal.returns
returns c = let a = c.args in let s = c.loop-row in let z : s.row ≡ a.rows = omega arith in subst (λ (n : ℕ). BoxesPut a.rows a.table.now n s.table) z s.invariant
