use Rattle.std.proofs.Common.{arith}
use Rattle.scenarios.proofs.Falling.{falls-found, falls-never}
use Rattle.scenarios.proofs.read_scenarios.Goals as goal

pub returns-then-scenario_falls : goal.returns-then-scenario_falls
returns-then-scenario_falls c = let a = c.args in
    let s = c.loop-row in
    falls-found a.table.now a.rows s.row s.invariant c.scenario_falls.result (omega arith) c.scenario_falls.ensures c.if-scenario_falls.true

pub returns : goal.returns
returns c = let a = c.args in
    let s = c.loop-row in
    falls-never a.table.now a.rows s.row s.invariant (omega arith)
