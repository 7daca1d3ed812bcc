-- The records of a whole net, from a diagram's table and its file's bytes; how many bytes they have at most. Assumes nothing.
use Rattle.std.specs.Prelude.{ℕ, ◌+◌, ◌*◌, List, ◌++◌}
use Rattle.diagram_table.specs.Cells.{entered_in, counts_in}
use Rattle.net_records.specs.Writing.{Records, runs}
use Rattle.net_records.specs.Records.{pair}
use Rattle.net_rows.specs.Rows.{row_records, most_row_bytes}
use Rattle.net_numbers.specs.Numbers.{first_number_in}
use Rattle.net_head.specs.Head.{net_head}
use Rattle.net_counts.specs.Marks.{count_marks}
use Rattle.net_marks.specs.Marks.{row_marks}

unfoldable pub net_records : (table file : List ℕ) (rows items : ℕ) → Records
net_records table file rows items = pair net_head (3 * rows + counts_in table items) (first_number_in table rows)
    ++ runs (row_marks table (entered_in table 0)) rows ++ count_marks table items ++ runs (row_records table file rows) rows

-- no net of so many rows, items and counts is longer (theorem `net-small`)
unfoldable pub longest_net : (rows items counts : ℕ) → ℕ
longest_net rows items counts = 8 + 6 * (3 * rows + counts) + rows * most_row_bytes rows items counts

-- room for every net: with so many rows, items and counts as can be (theorem `net-short`)
abbrev pub net_room : ℕ
net_room = 584072
