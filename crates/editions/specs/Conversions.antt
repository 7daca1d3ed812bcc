-- What one way of the conversion makes of a run, and the laws of both ways.
use Rattle.std.specs.Prelude.{ℕ, suc, ◌*◌, ◌<◌, ◌≤◌, ◌≡◌, List, [], length, drop, get_or}
use Rattle.std.proofs.Common.{refl, arith, length-drop}
use Rattle.effbd.specs.Answers.{Outcome, and_then}
use Rattle.effbd.specs.Records.{word}
use Rattle.effbd.specs.BusEnds.{code_at, argument_at}
use Rattle.effbd.specs.Editions.{convert_from, telegram_count, fitting, Upped, upped_as, old_fault, new_fault, new_of, old_of}
use Rattle.edition_laws.specs.Runs.{old-sized, new-sized, old-fine-are, new-fine-are, old-whole, new-whole}

-- a run of telegrams of one size, the first with this number: what it becomes, or what is off
abbrev pub converted : (size : ℕ) (off : ℕ → List ℕ → ℕ) (made : ℕ → List ℕ → List ℕ) (first : ℕ) → List ℕ → Outcome (List ℕ)
converted size off made first run = convert_from size off made first 0 (telegram_count size run) run

-- what is answered, and what the lent area holds afterwards
abbrev pub laid : (area : List ℕ) → Outcome (List ℕ) → Upped
laid area o = upped_as area (and_then o (fitting area))

-- what is left of a run, one telegram less
abbrev pub Counts : ℕ → Type 0
Counts size = (run : List ℕ) → 0 < length run → telegram_count size run ≡ suc (telegram_count size (drop size run))

-- the laws of a way: sizes, and that a telegram which nothing is off at has a number of 32 bits
pub record Sizes (size out : ℕ) : Type 0 where
  pub some : 0 < size
  pub room : out ≤ 2 * size
  pub none : telegram_count size [] ≡ 0
  pub counts : Counts size

pub old-sizes : Sizes 8 14
old-sizes = record { some = omega arith; room = omega arith; none = refl; counts = λ run h. let d = length-drop 8 run in omega arith }

pub new-sizes : Sizes 14 8
new-sizes = record { some = omega arith; room = omega arith; none = refl; counts = λ run h. let d = length-drop 14 run in omega arith }

pub record Telegrams (size out : ℕ) (off : ℕ → List ℕ → ℕ) (made : ℕ → List ℕ → List ℕ) : Type 0 where
  pub whole : (n : ℕ) (t : List ℕ) → off n t ≡ 0 → length t ≡ size
  pub becomes : (n : ℕ) (t : List ℕ) → length (made n t) ≡ out
  pub fits : (n : ℕ) (t : List ℕ) → ((i : ℕ) → get_or t i 0 < 256) → off n t ≡ 0 → n < 4294967296

pub old-telegrams : (station : ℕ) → Telegrams 8 14 old_fault (new_of station)
unfolding new_of
old-telegrams station = record {
  whole = old-whole;
  becomes = λ n t. new-sized n station (word t 4) (word t 6);
  fits = λ n t b e. let k = (old-fine-are n t e).1 in omega arith;
}

pub new-telegrams : (station : ℕ) → Telegrams 14 8 (new_fault station) old_of
unfolding old_of
new-telegrams station = record {
  whole = new-whole station;
  becomes = λ n t. old-sized (code_at t) (argument_at t);
  fits = λ n t b e. let k = (new-fine-are station n t e).number_is in omega (arith, b 4, b 5, b 6, b 7);
}
