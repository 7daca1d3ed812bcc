-- A list of calls as bytes, one record a call: its length, its kind, its fields, as every record of document 01. Kind 1 offers a move: code, row or
-- ticks, then the bytes of the area lent for the telegram; kind 2 hands the bytes that follow to the follower. Assumes nothing.
use Rattle.std.specs.Prelude.{ℕ, zero, suc, Option, Some, None, Bool, cond, ◌&&◌, ◌||◌, List, [], ◌∷◌, ◌++◌, length, take, drop, leb, eqb}
use Rattle.effbd.specs.Records.{word, length_at, kind_at}
use Rattle.effbd.specs.History.{Call, offer, hand, Seen}

-- a whole record of a call stands at the start of `rest`; else the list ends there
unfoldable pub is_call : List ℕ → Bool
is_call rest = (leb 4 (length rest) && leb (length_at rest) (length rest))
    && ((eqb (kind_at rest) 1 && leb 8 (length_at rest)) || (eqb (kind_at rest) 2 && leb 4 (length_at rest)))

-- how many bytes a call of a kind has at least, where it is a call's
abbrev pub least_of : ℕ → Option ℕ
least_of kind = cond (eqb kind 1) (Some 8) (cond (eqb kind 2) (Some 4) None)

-- the bytes of that record
abbrev pub record_at : List ℕ → List ℕ
record_at rest = take (length_at rest) rest

-- the call that the bytes of a record say; other bytes are read the same way
unfoldable pub call_of : List ℕ → Call
call_of bytes = cond (eqb (kind_at bytes) 1) (offer (word bytes 4) (word bytes 6) (drop 8 bytes)) (hand (drop 4 bytes))

-- the calls of a list, at most `most` of them
unfoldable pub calls_in : (most : ℕ) → List ℕ → List Call
calls_in zero rest = []
calls_in (suc most) rest = cond (is_call rest) (call_of (record_at rest) ∷ calls_in most (drop (length_at rest) rest)) []

abbrev pub calls_of : List ℕ → List Call
calls_of bytes = calls_in (length bytes) bytes

-- the bytes of a record afterwards: in the area of an offer what is seen of it
abbrev pub after_call : List ℕ → Seen → List ℕ
after_call bytes seen = cond (eqb (kind_at bytes) 1) (take 8 bytes ++ seen.area) bytes

unfoldable pub list_after : (most : ℕ) → List Seen → List ℕ → List ℕ
list_after zero seen rest = rest
list_after (suc most) [] rest = rest
list_after (suc most) (x ∷ seen) rest = cond (is_call rest) (after_call (record_at rest) x ++ list_after most seen (drop (length_at rest) rest)) rest
