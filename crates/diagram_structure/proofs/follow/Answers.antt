use Rattle.std.specs.Prelude.{refl}
use Rattle.std.proofs.Common.{◌∙◌}
use Rattle.diagram_structure.proofs.Columns.{Following, follow-opens, follow-turns, follow-closes, follow-stays}
use Rattle.diagram_structure.proofs.follow.Goals.{in-Opens, in-Turns, in-Closes, in-Stays}
use Rattle.diagram_structure.proofs.follow.Goals as goal

-- what each arm leaves to be written
pub returns : goal.returns
returns c =
    let a = c.args in
    let t = a.table.now in
    let at = c.around_of-around in
    let left : Following a.rows a.row t c.match-part_of.table c.match-part_of.next = elim c.match-part_of.branch [
      | in-Opens w ↦ follow-opens t a.rows a.row _ at.result _ refl at.ensures c.part_of.ensures w.looping_in.result w.looping_in.ensures w.in-Opens.is w.table-is w.next-is
      | in-Turns w ↦ follow-turns t a.rows a.row _ at.result _ refl at.ensures c.part_of.ensures w.in-Turns.is w.table-is w.next-is
      | in-Closes w ↦ follow-closes t a.rows a.row _ at.result _ refl at.ensures c.part_of.ensures w.around_of-opened.result w.around_of-opened.ensures w.in-Closes.is (w.table-is ∙ w.put.ensures) w.next-is
      | in-Stays w ↦ follow-stays t a.rows a.row _ at.result _ refl at.ensures c.part_of.ensures w.in-Stays.is w.table-is w.next-is
    ] in
    c.put_structure.ensures ∙ left.written
