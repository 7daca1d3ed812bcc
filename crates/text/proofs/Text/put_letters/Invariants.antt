use Rattle.std.proofs.Common.{◌≡◌, take}
use Rattle.text.specs.Laid.{lay, reach}
use Rattle.text.proofs.Text.put_letters.Given as goal

abbrev pub invariant-loop-letter : goal.invariant-loop-letter
invariant-loop-letter l = let written = take l.letter-index l.letters in (l.bytes ≡ lay l.initial.bytes l.initial.at written) × (l.at ≡ reach l.initial.at written)
