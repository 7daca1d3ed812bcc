-- Where a walk through a log has come to, on the table that holds an accepted file. Assumes nothing.
use Rattle.std.specs.Prelude.{ℕ, ◌≡◌, List, take, drop}
use Rattle.effbd.specs.Logs.{setpoints, state_after, played_from, played}
use Rattle.diagram_table.specs.Held.{HoldsPlant}

module _ (file log : List ℕ) (rows items : ℕ) (table : List ℕ) (h : HoldsPlant file rows items table) where
  -- the first i moves stood and led to these words; the rest of the log decides
  pub record Walk (i : ℕ) (words : List ℕ) : Type 0 where
    pub is : words ≡ state_after h.held.diagram (take i (setpoints log))
    pub on : played h.held.diagram log ≡ played_from h.held.diagram i (drop i (setpoints log)) words
