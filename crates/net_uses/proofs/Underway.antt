-- A loop underway: what it has written, and what it writes from there on, are the whole.
use Rattle.std.proofs.Common.{◌≡◌, ap, sym, ◌∙◌, [], ◌++◌, append_assoc, append-nil}
use Rattle.net_records.specs.declared.Writer.{Writer}
use Rattle.net_records.specs.Writing.{Records, Wrote}
use Rattle.net_records.proofs.Writing.{still, ◌and_then◌, same}

pub record Underway (whole left : Records) (before after : Writer) : Type 0 where
  pub written : Records
  pub wrote : Wrote before after written
  pub sum : written ++ left ≡ whole

pub begun : {whole left : Records} (w : Writer) → left ≡ whole → Underway whole left w w
begun w e = record { written = []; wrote = still w; sum = e }

-- one turn more
pub further : {whole left one rest : Records} {a b c : Writer} → left ≡ one ++ rest → Underway whole left a b → Wrote b c one → Underway whole rest a c
further {one = one} {rest} e u w = record {
  written = u.written ++ one;
  wrote = u.wrote and_then w;
  sum = append_assoc u.written one rest ∙ (ap (λ (x : Records). u.written ++ x) (sym e) ∙ u.sum);
}

pub finished : {whole left : Records} {a b : Writer} → left ≡ [] → Underway whole left a b → Wrote a b whole
finished e u = same (sym (append-nil u.written) ∙ (ap (λ (x : Records). u.written ++ x) (sym e) ∙ u.sum)) u.wrote
