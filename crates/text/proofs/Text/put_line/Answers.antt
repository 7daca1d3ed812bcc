use Rattle.text.specs.LaidLaws.{and_then, same}
use Rattle.text.proofs.LettersAndDigits.{line_of}
use Rattle.text.proofs.Text.put_line.Goals as goal

pub returns : goal.returns
returns c = let a = c.args in same (line_of a.letters.now a.first a.second) (and_then (and_then c.put_named.ensures c.put_number.ensures) c.put.ensures)
