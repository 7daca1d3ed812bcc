use Rattle.std.proofs.Common.{arith}
use Rattle.std.proofs.lemmas.Result.{err_from_is_err_and}
use Rattle.effbd.specs.Answers.{said}
use Rattle.agreement.specs.ByteLaws.{bytes-are}
use Rattle.ends.proofs.LaidNets.{no-net, net-laid}
use Rattle.ends.proofs.translate_into.Goals as goal

pub returns-in_err-diagram_of : goal.returns-in_err-diagram_of
returns-in_err-diagram_of c =
    let told = no-net c.args.file.now c.args.area.now c.in_err-diagram_of.field-0.0 c.in_err-diagram_of.ensures in
    let p = err_from_is_err_and c.from_residual.result c.from_residual.ensures.1 in
    record { result_value = rw (p.1, p.2) told.0; net_laid_as = told.1 }

pub returns : goal.returns
returns c = let d = c.in_ok-diagram_of.field-0 in
    let told = net-laid c.args.file.now d.rows d.items d.table c.in_ok-diagram_of.ensures.holds
    (bytes-are c.args.file.now (λ i. omega (arith, c.type_inv.file i)))
    c.args.area.now c.translate.new.area (said c.translate.result) c.requires c.translate.ensures.result_value c.translate.ensures.area_after in record { result_value = told.0; net_laid_as = told.1 }
