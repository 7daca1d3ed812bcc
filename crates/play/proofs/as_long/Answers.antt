use Rattle.effbd.specs.Answers.{number}
use Rattle.effbd.specs.Nets.{read_net}
use Rattle.play.proofs.Starts.{long-by, long-never}
use Rattle.play.proofs.as_long.Goals as goal

pub returns-in-Ok : goal.returns-in-Ok
returns-in-Ok c = long-by (read_net c.args.net.now) c.args.words c.in-Ok.due c.in-Ok.ensures

pub returns-in-Err : goal.returns-in-Err
returns-in-Err c = let e = c.in-Err.field-0 in long-never (read_net c.args.net.now) c.args.words (number e.reason) e.value c.in-Err.ensures
