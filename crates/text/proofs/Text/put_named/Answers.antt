use Rattle.text.specs.LaidLaws.{and_then}
use Rattle.text.proofs.Text.put_named.Goals as goal

pub returns : goal.returns
returns c = and_then c.put_letters.ensures c.put_number.ensures
