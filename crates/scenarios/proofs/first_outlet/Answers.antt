use Rattle.std.specs.Prelude.{◌≡◌, true, false}
use Rattle.std.proofs.Common.{subst, sym, rules, tests}
use Rattle.std.proofs.lemmas.Iterator.{first_from_Range}
use Rattle.diagram_table.specs.Cells.{is_branch}
use Rattle.scenarios.specs.Scenarios.{OutletRead}
use Rattle.scenarios.proofs.Falling.{outlet-is}
use Rattle.scenarios.proofs.first_outlet.Goals as goal

pub returns : goal.returns
returns c =
    let a = c.args in
    let t = a.table.now in
    let h = first_from_Range _ _ _ c.find.result (λ q. is_branch t a.opened q ≡ true) (λ q. is_branch t a.opened q ≡ false) c.find.ensures.ran (λ x q k. search (rules, tests)) (λ x q k. search (rules, tests)) in
    subst (OutletRead t a.rows a.opened) (sym c.unwrap_or.ensures) (outlet-is t a.rows a.opened c.find.result h)
