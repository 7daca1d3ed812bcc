-- The falling number is the rows left and the constructs that may still open: `read_run` calls `read_construct` at a row of its run, at its
-- own depth, and `read_construct` calls `read_run` behind its row, one deeper.
use Rattle.std.proofs.Common.{◌-◌, ◌+◌}
use Rattle.nesting.proofs.Walks.{RunState, ConstructState}
use Rattle.nesting.proofs.Rows.+read_construct_read_run.Given as goal

-- of a construct: the rows from its open row on, and the room around it
abbrev pub decreases-read_construct : goal.decreases-read_construct
decreases-read_construct l = (l.self.now.count - l.opened) + (12 - l.around.depth)

-- of a run: its rows, its room, and one more
abbrev pub decreases-read_run : goal.decreases-read_run
decreases-read_run l = (l.self.now.count - l.from) + (12 - l.around.depth) + 1

abbrev pub invariant-read_construct-loop-branch : goal.invariant-read_construct-loop-branch
invariant-read_construct-loop-branch l = ConstructState l.self.table.now l.self.count l.opened l.around l.branches l.from

abbrev pub decreases-read_construct-loop-branch : goal.decreases-read_construct-loop-branch
decreases-read_construct-loop-branch l = l.self.count - l.from

abbrev pub invariant-read_run-loop-row : goal.invariant-read_run-loop-row
invariant-read_run-loop-row l = RunState l.self.table.now l.self.count l.from l.around l.row

abbrev pub decreases-read_run-loop-row : goal.decreases-read_run-loop-row
decreases-read_run-loop-row l = l.self.count - l.row
