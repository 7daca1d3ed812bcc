-- What is printed of a translation's answer is the annex text.
use Rattle.std.specs.Prelude.{ℕ, ◌≤◌, ◌≡◌, true, List, length}
use Rattle.std.proofs.Common.{◌∙◌, ap, arith}
use Rattle.effbd.specs.Annex.{annex_in, over}
use Rattle.effbd.specs.Records.{are_bytes}
use Rattle.effbd.specs.Patterns.{translated}
use Rattle.text.specs.declared.Text.{Text}
use Rattle.text.specs.Laid.{lay, Laid}
use Rattle.text.specs.LaidLaws.{same, laid-size, lay-over}
use Rattle.annex_text.specs.Lines.{answer_text}
use Rattle.annex_text.specs.NetTexts.{answer-text}
use Rattle.annex_text.specs.Sizes.{annex-short}

-- `size` and `after` are the length of the annex text and the area with the text in it
pub record Printed (file net text after : List ℕ) (size : ℕ) : Type 0 where
  pub long : size ≡ length (annex_in (length net) file)
  pub area : after ≡ over text (annex_in (length net) file)

-- THEOREM: the printed answer of a translation is the annex text
pub annexed : {file net : List ℕ} {before after : Text} → are_bytes file ≡ true → before.at ≡ 0
    → Laid before after (answer_text (translated file net).answer (translated file net).area) → Printed file net before.bytes.now after.bytes.now after.at
annexed {file} {net} {before} {after} b z w = record {
  long = laid-size z (same e w) (omega (arith, short));
  area = w.area ∙ rw z (ap (λ (l : List ℕ). lay before.bytes.now 0 l) e ∙ lay-over before.bytes.now T (omega (arith, short)));
}
  where
    T : List ℕ
    T = annex_in (length net) file

    e : answer_text (translated file net).answer (translated file net).area ≡ T
    e = answer-text file net

    short : length T ≤ 24000000
    short = annex-short (length net) file b
