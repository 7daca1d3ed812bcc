-- Several stores into a table: each cell has what was stored there last, the others are kept.
use Prim.Native.Nat.{ℕ, ◌<◌}
use mathlib.Core.Path.{◌≡◌, refl, ◌∙◌}
use mathlib.Core.Logic.{◌≢◌}
use mathlib.Core.List.{List, [], ◌∷◌, ◌++◌}
use lib.ListN.{length, get_or, set, length-set}
use lib.Seq.{get_or-set_same, get_or-set_other}
use Rattle.diagram_table.specs.CellStores.{Cell, put_all}

pub put-long : (cs : List Cell) (t : List ℕ) → length (put_all cs t) ≡ length t
unfolding put_all
put-long [] t = refl
put-long (c ∷ cs) t = put-long cs (set t c.at c.value) ∙ length-set t c.at c.value

-- nothing is stored at j
abbrev pub Away : ℕ → List Cell → Type 0
Away j [] = Unit {0}
Away j (c ∷ cs) = (j ≢ c.at) × Away j cs

pub put-away : (cs : List Cell) (t : List ℕ) (j : ℕ) → Away j cs → get_or (put_all cs t) j 0 ≡ get_or t j 0
unfolding put_all
put-away [] t j h = refl
put-away (c ∷ cs) t j h = put-away cs (set t c.at c.value) j h.1 ∙ get_or-set_other t c.at j c.value 0 h.0

pub put-at : (before : List Cell) (c : Cell) (after : List Cell) (t : List ℕ) → c.at < length t → Away c.at after
    → get_or (put_all (before ++ (c ∷ after)) t) c.at 0 ≡ c.value
unfolding put_all
put-at [] c after t l h = put-away after (set t c.at c.value) c.at h ∙ get_or-set_same t c.at c.value 0 l
put-at (b ∷ before) c after t l h = put-at before c after (set t b.at b.value) (rw (length-set t b.at b.value) l) h
