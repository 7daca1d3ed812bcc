-- The records of each row's transitions, in the order of the file, from a diagram's table and its file's bytes.
-- Any words are a table: past its end a word is 0. Assumes nothing.
use Rattle.std.specs.Prelude.{ℕ, zero, suc, ◌+◌, ◌*◌, cond, ◌&&◌, List, [], ◌++◌, leb, ltb, eqb}
use Rattle.effbd.specs.Diagrams.{function, and_open, branch, and_close, or_open, or_close, it_open, it_close, lp_open, lp_close, loop_exit, box_open, box_close, box_exit, number_of}
use Rattle.effbd.specs.Nets.{take_arc, give_arc}
use Rattle.diagram_table.specs.Cells.{kind_in, owner_in, close_in, is_branch}
use Rattle.net_records.specs.Writing.{Records}
use Rattle.net_records.specs.Records.{transition, arc}
use Rattle.net_entries.specs.Entering.{entry, entering}
use Rattle.net_uses.specs.FunctionTransitions.{function_records}
use Rattle.net_loops.specs.LoopTransitions.{it_open_records, loop_exit_records, box_exit_records}

-- one token from a place to a place: BRANCH of an OR, LP open, IT close, LP close
unfoldable pub token : (row from to : ℕ) → Records
token row from to = transition row 0 0 ++ arc take_arc from 1 ++ arc give_arc to 1

-- the arcs of the BRANCH rows of a construct: an AND close takes from them, an AND open gives to the entries behind them
unfoldable pub branch_place : (table : List ℕ) (kind q : ℕ) → ℕ
branch_place table kind q = cond (eqb kind take_arc) (3 * q) (entry table (q + 1))

unfoldable pub branch_arc : (table : List ℕ) (opened kind q : ℕ) → Records
branch_arc table opened kind q = cond (is_branch table opened q) (arc kind (branch_place table kind q) 1) []

-- the row behind row q, or behind the construct that it opens where that closes before `closed`
unfoldable pub behind_in : (table : List ℕ) (q closed : ℕ) → ℕ
behind_in table q closed = let inner = close_in table q in cond (ltb q inner && ltb inner closed) (inner + 1) (q + 1)

-- what the rows from q up to `closed` write, without those in the constructs between; n turns, which are enough where `closed` is at most q + n
unfoldable pub walk : (table : List ℕ) (closed : ℕ) (f : ℕ → Records) (n q : ℕ) → Records
walk table closed f zero q = []
walk table closed f (suc n) q = cond (ltb q closed) (f q ++ walk table closed f n (behind_in table q closed)) []

unfoldable pub branch_arcs : (table : List ℕ) (opened kind : ℕ) → Records
branch_arcs table opened kind = let closed = close_in table opened in walk table closed (branch_arc table opened kind) closed opened

unfoldable pub and_open_records : (table : List ℕ) (row : ℕ) → Records
and_open_records table row = transition row 0 0 ++ arc take_arc (3 * row) 1 ++ branch_arcs table row give_arc

unfoldable pub and_close_records : (table : List ℕ) (row : ℕ) → Records
and_close_records table row = transition row 0 0 ++ branch_arcs table (owner_in table row) take_arc ++ entering table (row + 1)

-- a BRANCH has a transition only where its construct, which row `opened` of kind k opens, is an OR
unfoldable pub or_token : (row opened k to : ℕ) → Records
or_token row opened k to = cond (eqb k (number_of or_open)) (token row (3 * opened) to) []

unfoldable pub branch_token : (table : List ℕ) (row : ℕ) → Records
branch_token table row = let opened = owner_in table row in or_token row opened (kind_in table opened) (entry table (row + 1))

-- OR close; a box's open and close are alike
unfoldable pub or_close_records : (table : List ℕ) (row : ℕ) → Records
or_close_records table row = transition row 0 0 ++ arc take_arc (3 * row) 1 ++ entering table (row + 1)

unfoldable pub onward : (table : List ℕ) (row : ℕ) → Records
onward table row = token row (3 * row) (entry table (row + 1))

unfoldable pub back : (table : List ℕ) (row : ℕ) → Records
back table row = token row (3 * row) (3 * owner_in table row)

-- the records of a row, were its kind k
unfoldable pub row_as : (table file : List ℕ) (rows row k : ℕ) → Records
row_as table file rows row k =
    cond (eqb k (number_of function)) (function_records table file rows row)
    (cond (eqb k (number_of and_open)) (and_open_records table row)
    (cond (eqb k (number_of branch)) (branch_token table row)
    (cond (eqb k (number_of and_close)) (and_close_records table row)
    (cond (eqb k (number_of or_close)) (or_close_records table row)
    (cond (eqb k (number_of it_open)) (it_open_records table row)
    (cond (eqb k (number_of it_close)) (back table row)
    (cond (eqb k (number_of lp_open)) (onward table row)
    (cond (eqb k (number_of lp_close)) (back table row)
    (cond (eqb k (number_of loop_exit)) (loop_exit_records table row)
    (cond (eqb k (number_of box_open)) (or_close_records table row)
    (cond (eqb k (number_of box_close)) (or_close_records table row)
    (cond (eqb k (number_of box_exit)) (box_exit_records table row) []))))))))))))

unfoldable pub row_records : (table file : List ℕ) (rows row : ℕ) → Records
row_records table file rows row = row_as table file rows row (kind_in table row)

-- how many bytes a row's records have at most (theorem `row_small`): by the rows that it reaches, and a FUNCTION by the items and counts besides
unfoldable pub most_row_bytes : (rows items counts : ℕ) → ℕ
most_row_bytes rows items counts = let working = 52 + 16 * items + 8 * counts in
    8 * rows + cond (leb working 100) 100 working
