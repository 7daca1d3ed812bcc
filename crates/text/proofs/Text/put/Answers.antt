use Rattle.std.proofs.Common.{refl}
use Rattle.text.specs.LaidLaws.{one}
use Rattle.text.proofs.Text.put.Goals as goal

pub returns : goal.returns
returns c = one _ _ _ c.put_byte.ensures c.behind-self.ensures refl
