-- The turns of the two loops: what is written, before what is left to write, is the whole.
use Rattle.std.proofs.Common.{ℕ, zero, suc, ◌+◌, ◌-◌, ◌≤◌, ◌<◌, ◌≡◌, refl, sym, ◌∙◌, ap, subst, Bool, true, false, cond, List, [], ◌++◌, arith, length, take, drop, length-take, length-drop, eqb, lt-ltb, le-ltb}
use Rattle.effbd.specs.Records.{word, kind_at}
use Rattle.effbd.specs.Annex.{number}
use Rattle.text.specs.declared.Text.{Text}
use Rattle.text.specs.Laid.{Laid}
use Rattle.text.specs.LaidLaws.{Ongoing, begun, onward, done}
use Rattle.annex_text.specs.Lines.{record_line, record_size, transitions_at, record_lines, mark_numbers}

-- the marks of the places
mark-next : (places i : ℕ) (rest : List ℕ) → i < places → mark_numbers (places - i) rest ≡ number (word rest 4) ++ mark_numbers (places - (i + 1)) (drop 6 rest)
unfolding mark_numbers
mark-next places i rest l = let e : places - i ≡ suc (places - (i + 1)) = omega arith in ap (λ (k : ℕ). mark_numbers k rest) e

pub marks-begun : (text : Text) (places : ℕ) (bytes : List ℕ) → Ongoing text text (mark_numbers (places - 0) bytes) (mark_numbers places bytes)
marks-begun text places bytes = let e : places ≡ places - 0 = omega arith in
    subst (λ (k : ℕ). Ongoing text text (mark_numbers k bytes) (mark_numbers places bytes)) e (begun text (mark_numbers places bytes))

pub marks-turn : {a b c : Text} (places i w : ℕ) (bytes rest rest' : List ℕ) → i < places → w ≡ word rest 4 → rest' ≡ drop 6 rest
    → Ongoing a b (mark_numbers (places - i) rest) (mark_numbers places bytes) → Laid b c (number w)
    → Ongoing a c (mark_numbers (places - (i + 1)) rest') (mark_numbers places bytes)
marks-turn places i w bytes rest rest' l e f o v = onward (number w) (mark_numbers (places - i) rest) (mark_numbers (places - (i + 1)) rest')
    (mark-next places i rest l ∙ (ap (λ (k : ℕ). number k ++ mark_numbers (places - (i + 1)) (drop 6 rest)) (sym e) ∙ ap (λ (r : List ℕ). number w ++ mark_numbers (places - (i + 1)) r) (sym f)))
    o v

pub marks-done : {a b : Text} (places i : ℕ) (bytes rest : List ℕ) → places ≤ i
    → Ongoing a b (mark_numbers (places - i) rest) (mark_numbers places bytes) → Laid a b (mark_numbers places bytes)
unfolding mark_numbers
marks-done places i bytes rest l o = done (let e : places - i ≡ 0 = omega arith in ap (λ (k : ℕ). mark_numbers k rest) e) o

-- the transitions and arcs
pub size-least : (rest : List ℕ) → 8 ≤ record_size rest
unfolding record_size
size-least rest = go (eqb (kind_at rest) 34)
  where
    go : (b : Bool) → 8 ≤ cond b 10 8
    go true = omega arith
    go false = omega arith

pub counts-most : (rest : List ℕ) → transitions_at rest ≤ 1
unfolding transitions_at
counts-most rest = go (eqb (kind_at rest) 34)
  where
    go : (b : Bool) → cond b 1 0 ≤ 1
    go true = omega arith
    go false = omega arith

-- `fuel` is enough for the bytes that are left
pub record InRecords (before after : Text) (records rest : List ℕ) (j : ℕ) : Type 0 where
  pub fuel : ℕ
  pub enough : length rest ≤ fuel
  pub few : j + length rest ≤ length records
  pub ongoing : Ongoing before after (record_lines fuel j rest) (record_lines (length records) 0 records)

pub records-begun : (text : Text) (records : List ℕ) → InRecords text text records records 0
records-begun text records = record { fuel = length records; enough = omega arith; few = omega arith; ongoing = begun text (record_lines (length records) 0 records) }

-- a record is taken off what is left
pub falls : (rest rest' : List ℕ) (s : ℕ) → 4 ≤ length rest → s ≡ record_size rest → rest' ≡ drop s rest → length rest' < length rest
falls rest rest' s l e f = let x = size-least rest in let y = ap length f ∙ length-drop s rest in omega arith

pub records-turn : {a b c : Text} (records rest rest' : List ℕ) (j t s : ℕ) → 4 ≤ length rest → t ≡ transitions_at rest → s ≡ record_size rest → rest' ≡ drop s rest
    → InRecords a b records rest j → Laid b c (record_line j rest) → InRecords a c records rest' (j + t)
unfolding record_lines
records-turn {a} {b} {c} records rest rest' j t s l e g h i w = turn i.fuel i.enough i.ongoing
  where
    less : length rest' < length rest
    less = falls rest rest' s l g h

    turn : (fuel : ℕ) → length rest ≤ fuel → Ongoing a b (record_lines fuel j rest) (record_lines (length records) 0 records) → InRecords a c records rest' (j + t)
    turn zero enough o = absurd (omega arith)
    turn (suc fuel) enough o = record {
      fuel = fuel;
      enough = let x = less in omega arith;
      few = let x = less in let y = counts-most rest in let z = i.few in omega arith;
      ongoing = onward (record_line j rest) (record_lines (suc fuel) j rest) (record_lines fuel (j + t) rest')
          (ap (λ (b : Bool). cond b [] (record_line j rest ++ record_lines fuel (j + transitions_at rest) (drop (record_size rest) rest))) (le-ltb (length rest) 4 l)
          ∙ (ap (λ (k : ℕ). record_line j rest ++ record_lines fuel (j + k) (drop (record_size rest) rest)) (sym e)
          ∙ ap (λ (r : List ℕ). record_line j rest ++ record_lines fuel (j + t) r) (sym (h ∙ ap (λ (k : ℕ). drop k rest) g))))
          o w;
    }

pub records-done : {a b : Text} (records rest : List ℕ) (j : ℕ) → length rest < 4
    → InRecords a b records rest j → Laid a b (record_lines (length records) 0 records)
unfolding record_lines
records-done records rest j l i = done (none i.fuel) i.ongoing
  where
    none : (fuel : ℕ) → record_lines fuel j rest ≡ []
    none zero = refl
    none (suc fuel) = ap (λ (b : Bool). cond b [] (record_line j rest ++ record_lines fuel (j + transitions_at rest) (drop (record_size rest) rest))) (lt-ltb (length rest) 4 l)

-- a part of bytes that are at most `most`, or the first few, is at most as long
pub rest-most : (bytes rest : List ℕ) (n most : ℕ) → rest ≡ drop n bytes → length bytes ≤ most → length rest ≤ most
rest-most bytes rest n most e l = let x = ap length e ∙ length-drop n bytes in omega arith

pub first-most : (bytes front : List ℕ) (n most : ℕ) → front ≡ take n bytes → n ≤ most → length front ≤ most
first-most bytes front n most e l = let x = ap length e ∙ length-take n bytes in omega arith
