use Rattle.diagram_state.proofs.cells.four_idle.Goals as goal

pub returns : goal.returns
returns c = rw (c.known.ensures, c.known-2.ensures, c.known-3.ensures, c.known-4.ensures)
