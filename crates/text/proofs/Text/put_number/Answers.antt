use Rattle.effbd.specs.Annex.{number}
use Rattle.text.specs.LaidLaws.{and_then}
use Rattle.text.proofs.Text.put_number.Goals as goal

pub returns : goal.returns
unfolding number
returns c = and_then c.put.ensures c.put_digits.ensures
