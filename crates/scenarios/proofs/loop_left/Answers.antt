use Rattle.std.specs.Prelude.{◌-◌, refl}
use Rattle.std.proofs.Common.{◌∙◌, rules, tests}
use Rattle.std.proofs.lemmas.Iterator.{YieldsList-from_range}
use Rattle.std.proofs.lemmas.Iterator.Search.{any_from_yields_List}
use Rattle.scenarios.specs.Scenarios.{leaves_in}
use Rattle.scenarios.proofs.Falling.{left-is}
use Rattle.scenarios.proofs.loop_left.Goals as goal

pub returns : goal.returns
returns c =
    let a = c.args in
    any_from_yields_List (leaves_in a.table.now a.first) _ _ c.any.result c.any.ensures.ran (YieldsList-from_range a.first a.last (a.last - a.first) refl refl) (λ x b q k. search (rules, tests))
    ∙ left-is a.table.now a.first a.last
