use Rattle.std.proofs.Common.{List, ℕ, refl, arith}
use Rattle.std.proofs.lemmas.List.{take_all}
use Rattle.text.specs.declared.Text.{Text}
use Rattle.text.specs.LaidLaws.{still, one, same}
use Rattle.text.proofs.LettersAndDigits.{letter}
use Rattle.text.proofs.Text.put_letters.Goals as goal

-- the text with other bytes and another position
abbrev at_letter : Text → List ℕ → ℕ → Text
at_letter text bytes at = record { bytes = record text.bytes { now = bytes }; at = at }

pub loop-letter-init : goal.loop-letter-init
loop-letter-init c = let w = still c.args.self.now in (w.area, w.reached)

pub loop-letter-preserved : goal.loop-letter-preserved
loop-letter-preserved c =
    let l = c.loop-letter in let a = c.args.self.now in
    let w = letter {a = a} {b = at_letter a l.bytes l.at} {c = at_letter a c.put_byte.new.area c.behind-at.result} c.args.letters.now l.letter-index _ (omega arith) refl (record { area = l.invariant.0; reached = l.invariant.1; lender = refl }) (one _ _ _ c.put_byte.ensures c.behind-at.ensures refl) in
    (w.area, w.reached)

pub returns : goal.returns
returns c = let l = c.loop-letter in same (take_all l.letter-index c.args.letters.now c.loop-letter-test.false) (record { area = l.invariant.0; reached = l.invariant.1; lender = refl })
