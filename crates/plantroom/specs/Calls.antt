-- A list of calls on example A, as demand 3 has them: a telegram that comes early, one that comes twice, one that comes late, one that is lost,
-- one of another station, bytes that are none, a move that is turned away; and both ends after it. Assumes nothing.
use Rattle.std.specs.Prelude.{ℕ, Bool, true, false, ◌&&◌, List, [], ◌∷◌, eqb}
use Rattle.effbd.specs.Diagrams.{function, end, plain, Diagram}
use Rattle.effbd.specs.BusEnds.{telegram}
use Rattle.effbd.specs.History.{Call, offer, hand, Ends, Seen, fresh_ends, seen_all, ends_of, net_file_of}
use Rattle.plantroom.specs.Table.{file_a, same_words}

-- A: one item, a FUNCTION with α 2 and β 5 that takes one of it, END
unfoldable pub diagram_a : Diagram
diagram_a = record {
  rows = record { kind = function; first = 2; second = 5; uses = record { item = 0; take = 1; give = 0 } ∷ [] } ∷ plain end ∷ [];
  items = record { initial = 3; trigger = false } ∷ [];
}

-- 15 bytes are lent for each telegram
abbrev pub area : List ℕ
area = 0 ∷ 0 ∷ 0 ∷ 0 ∷ 0 ∷ 0 ∷ 0 ∷ 0 ∷ 0 ∷ 0 ∷ 0 ∷ 0 ∷ 0 ∷ 0 ∷ 0 ∷ []

unfoldable pub calls : List Call
calls =
    -- step 0: the FUNCTION starts; then it is told 24; then 2 ticks pass
    offer 1 0 area ∷ offer 1 0 area ∷ offer 2 2 area
    -- the second telegram early, the first, the first again
    ∷ hand (telegram 2 9 2 2) ∷ hand (telegram 1 9 1 0) ∷ hand (telegram 1 9 1 0)
    -- the FUNCTION ends; this telegram, the third, is lost
    ∷ offer 1 0 area
    -- another station's, no telegram, the second late
    ∷ hand (telegram 2 8 2 2) ∷ hand [] ∷ hand (telegram 2 9 2 2) ∷ []

unfoldable pub accepting : List Seen → List ℕ
accepting [] = []
accepting (x ∷ xs) = number_of x.accepts ∷ accepting xs
  where
    number_of : Bool → ℕ
    number_of true = 1
    number_of false = 0

-- what was accepted and taken, call by call
abbrev pub as_seen : Bool
as_seen = same_words (accepting (seen_all (file_a 3) (net_file_of diagram_a) 9 (fresh_ends diagram_a) calls)) (1 ∷ 0 ∷ 1 ∷ 0 ∷ 1 ∷ 0 ∷ 1 ∷ 0 ∷ 0 ∷ 1 ∷ [])

-- the leader has END ready and count 3; the follower, which lacks the third move, has the FUNCTION running with clock 2, and count 2
abbrev pub ends_are : Ends → Bool
ends_are e = same_words e.leader (0 ∷ 0 ∷ 0 ∷ 1 ∷ 0 ∷ 0 ∷ 2 ∷ []) && (eqb e.count 3
    && (same_words e.follower (0 ∷ 1 ∷ 0 ∷ 0 ∷ 0 ∷ 0 ∷ 2 ∷ 0 ∷ 2 ∷ []) && eqb e.taken 2))

unfoldable pub calls_hold : Bool
calls_hold = as_seen && ends_are (ends_of (file_a 3) diagram_a 9 calls)
