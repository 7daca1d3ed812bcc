-- Document 01, "Diagram records" and "Net": words in bytes, records, the order of refusals at a record. Assumes nothing.
use Rattle.std.specs.Prelude.{ℕ, zero, suc, ◌+◌, ◌-◌, ◌*◌, ◌/◌, ◌%◌, ◌≡◌, Bool, true, not, cond, ◌&&◌, List, [], ◌∷◌, length, get_or, drop, ltb, eqb}
use Rattle.effbd.specs.Answers.{Outcome, accepted, refused, unless}

-- "Every field is 16 bits, little-endian": the field at byte i (past the end a byte counts as 0), and the two bytes of a field
abbrev pub word : List ℕ → ℕ → ℕ
word bytes i = get_or bytes i 0 + 256 * get_or bytes (suc i) 0

abbrev pub word_bytes : ℕ → List ℕ
word_bytes n = n % 256 ∷ n / 256 ∷ []

-- a list that is bytes, as every file is
unfoldable pub are_bytes : List ℕ → Bool
are_bytes [] = true
are_bytes (b ∷ bytes) = ltb b 256 && are_bytes bytes

-- "A record is its length in bytes (all of it), its kind, its fields"
abbrev pub length_at : List ℕ → ℕ
length_at bytes = word bytes 0

abbrev pub kind_at : List ℕ → ℕ
kind_at bytes = word bytes 2

-- "constant table from kind to base length and field count, diagram and net kinds together"
-- (a FUNCTION has 6 bytes, 3 fields more for each of its uses)
pub record Entry : Type 0 where
  pub kind : ℕ
  pub base : ℕ
  pub fields : ℕ

abbrev pub entry : ℕ → ℕ → ℕ → Entry
entry kind base fields = record { kind = kind; base = base; fields = fields }

unfoldable pub kind_table : List Entry
kind_table =
    entry 1 10 3 ∷ entry 2 6 1 ∷ entry 3 6 1
    ∷ entry 16 8 2 ∷ entry 17 4 0 ∷ entry 18 4 0 ∷ entry 19 4 0 ∷ entry 20 4 0 ∷ entry 21 4 0
    ∷ entry 22 6 1 ∷ entry 23 4 0 ∷ entry 24 4 0 ∷ entry 25 4 0 ∷ entry 26 4 0 ∷ entry 27 4 0 ∷ entry 28 4 0 ∷ entry 29 4 0 ∷ entry 30 4 0 ∷ entry 31 6 1
    ∷ entry 32 8 2 ∷ entry 33 6 1 ∷ entry 34 10 3 ∷ entry 35 8 2 ∷ entry 36 8 2 ∷ entry 37 8 2 ∷ []

unfoldable pub entry_in : List Entry → ℕ → Entry
entry_in [] k = entry k 0 0
entry_in (e ∷ es) k = cond (eqb e.kind k) e (entry_in es k)

-- "the length that its kind gives", and the number of its fields; 0 of a number that is no kind
unfoldable pub length_of : ℕ → ℕ
length_of k = (entry_in kind_table k).base

unfoldable pub fields_of : ℕ → ℕ
fields_of k = (entry_in kind_table k).fields

-- the table as the code has it, in bytes: of kind k its base length at 2k, its field count at 2k + 1
pub record KindBytes (table : List ℕ) : Type 0 where
  pub base : (k : ℕ) → get_or table (2 * k) 0 ≡ length_of k
  pub fields : (k : ℕ) → get_or table (2 * k + 1) 0 ≡ fields_of k

-- "At a record: 1 (4 bytes), 2, 3, 1, fields": `due`, its kind is due here; `right`, its length is right for its kind;
-- `fine`, its fields are (else `number`, 4 or 5). 0 where nothing is off.
unfoldable pub fault_at : List ℕ → (due right fine : Bool) → ℕ → ℕ
fault_at bytes due right fine number =
    cond (ltb (length bytes) 4) 1 (cond (not due) 2 (cond (not right) 3 (cond (ltb (length bytes) (length_at bytes)) 1 (cond (not fine) number 0))))

-- what was read, and "the rest of the file after that record is read next"
pub record Got (A : Type 0) : Type 0 where
  pub value : A
  pub rest : List ℕ

abbrev pub adding : {A : Type 0} → A → Outcome (Got (List A)) → Outcome (Got (List A))
adding a (accepted got) = accepted (record { value = a ∷ got.value; rest = got.rest })
adding a (refused number value) = refused number value

-- n records of one sort in a file of `total` bytes; a refusal returns the "record's offset", which is what has been read
unfoldable pub read_many : {A : Type 0} → (List ℕ → ℕ) → (List ℕ → A) → ℕ → ℕ → List ℕ → Outcome (Got (List A))
read_many fault value total zero rest = accepted (record { value = []; rest = rest })
read_many fault value total (suc n) rest =
    unless (fault rest) (total - length rest) (adding (value rest) (read_many fault value total n (drop (length_at rest) rest)))
