-- Document 01, "Plant-room examples": A to I as one table, and the test that is computed over it. Assumes nothing.
use Rattle.std.specs.Prelude.{ℕ, Bool, true, false, ◌&&◌, List, [], ◌∷◌, ◌++◌, length, eqb}
use Rattle.effbd.specs.Answers.{Outcome, accepted, refused, afterwards}
use Rattle.effbd.specs.Records.{word_bytes}
use Rattle.effbd.specs.Diagrams.{Diagram}
use Rattle.effbd.specs.Nesting.{read_diagram}
use Rattle.effbd.specs.States.{fresh_words}
use Rattle.effbd.specs.Moves.{step_diagram}
use Rattle.effbd.specs.Nets.{net_bytes}
use Rattle.effbd.specs.Firing.{fresh_net_words, step_net}
use Rattle.effbd.specs.Patterns.{net_of}
use Rattle.effbd.specs.Annex.{annex_text}
use Rattle.effbd.specs.BusEnds.{telegram, taken}

-- a file from its 16-bit words; records of a diagram file
unfoldable pub file_of : List ℕ → List ℕ
file_of [] = []
file_of (w ∷ ws) = word_bytes w ++ file_of ws

abbrev pub head : (rows items : ℕ) → List ℕ
head rows items = 10 ∷ 1 ∷ 1 ∷ rows ∷ items ∷ []

abbrev pub item : ℕ → List ℕ
item count = 6 ∷ 2 ∷ count ∷ []

abbrev pub row : ℕ → List ℕ
row kind = 4 ∷ kind ∷ []

abbrev pub function : (α β : ℕ) → List ℕ
function α β = 8 ∷ 16 ∷ α ∷ β ∷ []

-- a move that is offered to both steppers, with what each says of it (0 where it is accepted)
pub record Offer : Type 0 where
  pub code : ℕ
  pub argument : ℕ
  pub diagram : Outcome ℕ
  pub net : Outcome ℕ

abbrev pub yes : Outcome ℕ
yes = accepted 0

abbrev pub step : ℕ → Outcome ℕ → Outcome ℕ → Offer
step r diagram net = record { code = 1; argument = r; diagram = diagram; net = net }

abbrev pub wait : ℕ → Outcome ℕ → Offer
wait ticks both = record { code = 2; argument = ticks; diagram = both; net = both }

-- one example: a diagram file and its length, its net's length, moves from the fresh states, and the words of both states after them
pub record Example : Type 0 where
  pub file : List ℕ
  pub file_length : ℕ
  pub net_length : ℕ
  pub offers : List Offer
  pub diagram_after : List ℕ
  pub net_after : List ℕ

unfoldable pub same_words : List ℕ → List ℕ → Bool
same_words [] [] = true
same_words [] (y ∷ ys) = false
same_words (x ∷ xs) [] = false
same_words (x ∷ xs) (y ∷ ys) = eqb x y && same_words xs ys

-- an accepted move is expected to be accepted, a refused one to have this number and value
abbrev pub as_expected : Outcome ℕ → Outcome (List ℕ) → Bool
as_expected (accepted v) (accepted words) = true
as_expected (accepted v) (refused n w) = false
as_expected (refused m v) (accepted words) = false
as_expected (refused m v) (refused n w) = eqb m n && eqb v w

unfoldable pub plays : (file net : List ℕ) → Example → List Offer → (diagram marks : List ℕ) → Bool
plays file net e [] diagram marks = same_words diagram e.diagram_after && same_words marks e.net_after
plays file net e (o ∷ os) diagram marks =
    let said = step_diagram file o.code o.argument diagram in
    let answered = step_net net o.code o.argument marks in
    as_expected o.diagram said && (as_expected o.net answered && plays file net e os (afterwards diagram said) (afterwards marks answered))

abbrev pub plays_on : Example → Outcome Diagram → Bool
plays_on e (refused n v) = false
plays_on e (accepted d) = eqb (length e.file) e.file_length && (eqb (length (net_bytes (net_of d))) e.net_length
    && plays e.file (net_bytes (net_of d)) e e.offers (fresh_words d) (fresh_net_words (net_of d)))

unfoldable pub holds : Example → Bool
holds e = plays_on e (read_diagram e.file)

unfoldable pub all_hold : List Example → Bool
all_hold [] = true
all_hold (e ∷ es) = holds e && all_hold es

-- the diagrams
abbrev pub file_a : (count : ℕ) → List ℕ
file_a count = file_of (head 2 1 ++ item count ++ (14 ∷ 16 ∷ 2 ∷ 5 ∷ 0 ∷ 1 ∷ 0 ∷ []) ++ row 27)

abbrev pub file_b : List ℕ
file_b = file_of (head 1 0 ++ row 27)

abbrev pub file_f : List ℕ
file_f = file_of (head 3 0 ++ (6 ∷ 22 ∷ 2 ∷ []) ++ row 23 ++ row 27)

abbrev pub file_g : List ℕ
file_g = file_of (head 5 0 ++ row 17 ++ row 18 ++ row 18 ++ row 19 ++ row 27)

abbrev pub file_h : List ℕ
file_h = file_of (head 9 0 ++ row 24 ++ row 17 ++ row 18 ++ row 26 ++ row 18 ++ function 1 9 ++ row 19 ++ row 25 ++ row 27)

unfoldable pub examples : List Example
examples =
    -- A: "File 34 bytes, net file 110"
    record { file = file_a 3; file_length = 34; net_length = 110; offers = []; diagram_after = 1 ∷ 0 ∷ 0 ∷ 0 ∷ 0 ∷ 0 ∷ 3 ∷ []; net_after = 1 ∷ 0 ∷ 0 ∷ 0 ∷ 0 ∷ 0 ∷ 3 ∷ 0 ∷ 0 ∷ [] }
    -- B: "net 26 bytes, wait 65,535 accepted, step 0 is 22"
    ∷ record { file = file_b; file_length = 14; net_length = 26; offers = wait 65535 yes ∷ step 0 (refused 22 0) (refused 22 0) ∷ []; diagram_after = 1 ∷ 0 ∷ 0 ∷ []; net_after = 1 ∷ 0 ∷ 0 ∷ [] }
    -- C: "A, step 0, step 0 is 24 (2 lacking), wait 2, step 0: END ready"
    ∷ record {
      file = file_a 3;
      file_length = 34;
      net_length = 110;
      offers = step 0 yes yes ∷ step 0 (refused 24 2) (refused 24 2) ∷ wait 2 yes ∷ step 0 yes yes ∷ [];
      diagram_after = 0 ∷ 0 ∷ 0 ∷ 1 ∷ 0 ∷ 0 ∷ 2 ∷ [];
      net_after = 0 ∷ 0 ∷ 0 ∷ 1 ∷ 0 ∷ 0 ∷ 2 ∷ 0 ∷ 0 ∷ [];
    }
    -- D: "A, step 0, wait 6 is 26, wait 5 accepted"
    ∷ record {
      file = file_a 3;
      file_length = 34;
      net_length = 110;
      offers = step 0 yes yes ∷ wait 6 (refused 26 0) ∷ wait 5 yes ∷ [];
      diagram_after = 2 ∷ 0 ∷ 5 ∷ 0 ∷ 0 ∷ 0 ∷ 2 ∷ [];
      net_after = 0 ∷ 1 ∷ 0 ∷ 0 ∷ 0 ∷ 0 ∷ 2 ∷ 0 ∷ 5 ∷ [];
    }
    -- E: "A with its item's count 0: step 0 is 23, net 22, wait 1 accepted"
    ∷ record {
      file = file_a 0;
      file_length = 34;
      net_length = 110;
      offers = step 0 (refused 23 0) (refused 22 0) ∷ wait 1 yes ∷ [];
      diagram_after = 1 ∷ 0 ∷ 0 ∷ 0 ∷ 0 ∷ 0 ∷ 0 ∷ [];
      net_after = 1 ∷ 0 ∷ 0 ∷ 0 ∷ 0 ∷ 0 ∷ 0 ∷ 0 ∷ 0 ∷ [];
    }
    -- F: "IT open 2, IT close, END: steps 0 1 0 1 0, then step 0 is 22"
    ∷ record {
      file = file_f;
      file_length = 24;
      net_length = 172;
      offers = step 0 yes yes ∷ step 1 yes yes ∷ step 0 yes yes ∷ step 1 yes yes ∷ step 0 yes yes ∷ step 0 (refused 22 0) (refused 22 0) ∷ [];
      diagram_after = 0 ∷ 0 ∷ 0 ∷ 0 ∷ 0 ∷ 0 ∷ 1 ∷ 0 ∷ 0 ∷ [];
      net_after = 0 ∷ 0 ∷ 2 ∷ 0 ∷ 0 ∷ 0 ∷ 1 ∷ 0 ∷ 0 ∷ 0 ∷ 0 ∷ 0 ∷ [];
    }
    -- G: "AND, two empty branches, close, END: step 0, wait 1 is 26, step 3"
    ∷ record {
      file = file_g;
      file_length = 30;
      net_length = 166;
      offers = step 0 yes yes ∷ wait 1 (refused 26 0) ∷ step 3 yes yes ∷ [];
      diagram_after = 0 ∷ 0 ∷ 0 ∷ 0 ∷ 0 ∷ 0 ∷ 0 ∷ 0 ∷ 0 ∷ 0 ∷ 0 ∷ 0 ∷ 1 ∷ 0 ∷ 0 ∷ [];
      net_after = 0 ∷ 0 ∷ 0 ∷ 0 ∷ 0 ∷ 0 ∷ 0 ∷ 0 ∷ 0 ∷ 0 ∷ 0 ∷ 0 ∷ 1 ∷ 0 ∷ 0 ∷ 0 ∷ 0 ∷ [];
    }
    -- H: "steps 0 1 5 3 leave just place 24 marked, all clocks 0"
    ∷ record {
      file = file_h;
      file_length = 50;
      net_length = 376;
      offers = step 0 yes yes ∷ step 1 yes yes ∷ step 5 yes yes ∷ step 3 yes yes ∷ [];
      diagram_after = 0 ∷ 0 ∷ 0 ∷ 0 ∷ 0 ∷ 0 ∷ 0 ∷ 0 ∷ 0 ∷ 0 ∷ 0 ∷ 0 ∷ 0 ∷ 0 ∷ 0 ∷ 0 ∷ 0 ∷ 0 ∷ 0 ∷ 0 ∷ 0 ∷ 0 ∷ 0 ∷ 0 ∷ 1 ∷ 0 ∷ 0 ∷ [];
      net_after = 0 ∷ 0 ∷ 0 ∷ 0 ∷ 0 ∷ 0 ∷ 0 ∷ 0 ∷ 0 ∷ 0 ∷ 0 ∷ 0 ∷ 0 ∷ 0 ∷ 0 ∷ 0 ∷ 0 ∷ 0 ∷ 0 ∷ 0 ∷ 0 ∷ 0 ∷ 0 ∷ 0 ∷ 1 ∷ 0 ∷ 0 ∷ 0 ∷ 0 ∷ 0 ∷ 0 ∷ 0 ∷ 0 ∷ 0 ∷ [];
    }
    ∷ []

-- A's annex, letter by letter
unfoldable pub annex_of_a : List ℕ
annex_of_a =
    -- net 7 2
    110 ∷ 101 ∷ 116 ∷ 32 ∷ 55 ∷ 32 ∷ 50 ∷ 10
    -- marks 1 0 0 0 0 0 3
    ∷ 109 ∷ 97 ∷ 114 ∷ 107 ∷ 115 ∷ 32 ∷ 49 ∷ 32 ∷ 48 ∷ 32 ∷ 48 ∷ 32 ∷ 48 ∷ 32 ∷ 48 ∷ 32 ∷ 48 ∷ 32 ∷ 51 ∷ 10
    -- t 0 label 0 from 0 to 0
    ∷ 116 ∷ 32 ∷ 48 ∷ 32 ∷ 108 ∷ 97 ∷ 98 ∷ 101 ∷ 108 ∷ 32 ∷ 48 ∷ 32 ∷ 102 ∷ 114 ∷ 111 ∷ 109 ∷ 32 ∷ 48 ∷ 32 ∷ 116 ∷ 111 ∷ 32 ∷ 48 ∷ 10
    -- take 0 1, take 6 1, give 1 1
    ∷ 116 ∷ 97 ∷ 107 ∷ 101 ∷ 32 ∷ 48 ∷ 32 ∷ 49 ∷ 10 ∷ 116 ∷ 97 ∷ 107 ∷ 101 ∷ 32 ∷ 54 ∷ 32 ∷ 49 ∷ 10 ∷ 103 ∷ 105 ∷ 118 ∷ 101 ∷ 32 ∷ 49 ∷ 32 ∷ 49 ∷ 10
    -- t 1 label 0 from 2 to 5
    ∷ 116 ∷ 32 ∷ 49 ∷ 32 ∷ 108 ∷ 97 ∷ 98 ∷ 101 ∷ 108 ∷ 32 ∷ 48 ∷ 32 ∷ 102 ∷ 114 ∷ 111 ∷ 109 ∷ 32 ∷ 50 ∷ 32 ∷ 116 ∷ 111 ∷ 32 ∷ 53 ∷ 10
    -- take 1 1, give 3 1
    ∷ 116 ∷ 97 ∷ 107 ∷ 101 ∷ 32 ∷ 49 ∷ 32 ∷ 49 ∷ 10 ∷ 103 ∷ 105 ∷ 118 ∷ 101 ∷ 32 ∷ 51 ∷ 32 ∷ 49 ∷ 10 ∷ []

-- I: "B's fresh net, own station, wait 1, follower's count 4 each time: number 4 is 32, 5 taken, 6 is 33"; the value returned is the count
abbrev pub net_b : Outcome Diagram → List ℕ
net_b (accepted d) = net_bytes (net_of d)
net_b (refused n v) = []

abbrev pub same_answer : Outcome ℕ → Outcome ℕ → Bool
same_answer (accepted v) (accepted w) = eqb v w
same_answer (accepted v) (refused n w) = false
same_answer (refused m v) (accepted w) = false
same_answer (refused m v) (refused n w) = eqb m n && eqb v w

unfoldable pub follower_says : (number : ℕ) → Outcome ℕ → (after : List ℕ) → Bool
follower_says number due after =
    let k = taken (net_b (read_diagram file_b)) (1 ∷ 0 ∷ 0 ∷ []) 4 7 (telegram number 7 2 1) in
    same_answer due k.answer && same_words k.state after

unfoldable pub follower_holds : Bool
follower_holds = follower_says 4 (refused 32 4) (1 ∷ 0 ∷ 0 ∷ []) && (follower_says 5 (accepted 5) (1 ∷ 0 ∷ 0 ∷ []) && follower_says 6 (refused 33 4) (1 ∷ 0 ∷ 0 ∷ []))

-- the test over the whole table
unfoldable pub table_holds : Bool
table_holds = all_hold examples && (same_words (annex_text (file_a 3)) annex_of_a && follower_holds)
