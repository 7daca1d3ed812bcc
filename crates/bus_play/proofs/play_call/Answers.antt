use Rattle.bus_play.proofs.LineLengths.{line-laid, line-played}
use Rattle.bus_play.proofs.play_call.Goals as goal

pub returns-clause-made : goal.returns-clause-made
returns-clause-made c = c.make_call-answer.ensures

pub returns-clause-laid : goal.returns-clause-laid
returns-clause-laid c = line-played c.make_call-answer.ensures c.by_call-fires.ensures (line-laid _ _ _ _ c.requires.at_start c.put_call.ensures c.put_call_answer.ensures c.put_ends.ensures)
