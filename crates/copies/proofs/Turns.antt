-- The turn of each loop, over plain variables.
use Prim.Native.Nat.{ℕ, suc, ◌+◌, ◌-◌, ◌≤◌, ◌<◌}
use mathlib.Core.Path.{◌≡◌, refl, sym, ◌∙◌, ap}
use mathlib.Core.List.{List, ◌++◌}
use native.Mathlib.Omega.{arith}
use native.Mathlib.Numerals.{add-one}
use lib.ListN.{length, drop, set, length-append, get_or-append}
use Rattle.std.proofs.lemmas.List.{drop_at}
use Rattle.effbd.specs.Records.{word}
use Rattle.diagram_table.specs.Cells.{first_copy_cell, copies_cell, receivers_in, uses_of}
use Rattle.diagram_table.proofs.UsesWalked.{uses-next, uses-over}
use Rattle.words.specs.Sums.{added}
use Rattle.copies.specs.Counting.{use_counted, uses_counted, row_counted, rows_counted, copies_numbered}

pub uses-turn : (at k much : ℕ) (rest more table next : List ℕ) → 6 ≤ length rest → k ≡ word rest 0 → much ≡ word rest 2 → next ≡ use_counted at k much table → more ≡ drop 6 rest
    → uses_counted (at + 1) (uses_of more) next ≡ uses_counted at (uses_of rest) table
unfolding uses_counted
uses-turn at k much rest more table next h ek em en er = rw (en, er, ek, em, uses-next rest h)

-- a use by its own six bytes, at the start of those that are left
prefix-word : (one rest : List ℕ) (i : ℕ) → i + 1 < length one → word one i ≡ word (one ++ rest) i
prefix-word one rest i h = sym (rw (get_or-append one rest 0 i (omega arith), get_or-append one rest 0 (suc i) (omega arith)))

pub chunk-turn : (at k much : ℕ) (one rest whole table next : List ℕ) → whole ≡ one ++ rest → length one ≡ 6 → k ≡ word one 0 → much ≡ word one 2 → next ≡ use_counted at k much table
    → uses_counted (at + 1) (uses_of rest) next ≡ uses_counted at (uses_of whole) table
chunk-turn at k much one rest whole table next e h ek em en = rw e (uses-turn at k much (one ++ rest) rest table next (omega (arith, length-append one rest))
    (ek ∙ prefix-word one rest 0 (omega arith)) (em ∙ prefix-word one rest 2 (omega arith)) en (sym (drop_at one rest 6 h)))

pub uses-end : (at : ℕ) (rest table : List ℕ) → length rest < 6 → table ≡ uses_counted at (uses_of rest) table
unfolding uses_counted
uses-end at rest table h = rw (uses-over rest h)

pub rows_none : (file table : List ℕ) → table ≡ rows_counted file 0 table
unfolding rows_counted
rows_none file table = refl

pub rows-turn : (file : List ℕ) (n : ℕ) (start table next : List ℕ) → table ≡ rows_counted file n start → next ≡ row_counted file n table → next ≡ rows_counted file (n + 1) start
unfolding rows_counted
rows-turn file n start table next et en = en ∙ (rw et refl ∙ ap (λ (m : ℕ). rows_counted file m start) (sym (add-one n)))

pub numbers-turn : (items k many receivers first more : ℕ) (table next : List ℕ) → k < items → receivers ≡ receivers_in table k → first ≡ added items many
    → next ≡ set table (first_copy_cell k) first → more ≡ added many receivers → copies_numbered items (items - (k + 1)) (k + 1) more next ≡ copies_numbered items (items - k) k many table
unfolding copies_numbered
numbers-turn items k many receivers first more table next l er ef en em =
    let z : items - k ≡ suc (items - (k + 1)) = omega arith in
    rw (en, em, ef, er, z)

pub numbers-end : (items k many : ℕ) (table next : List ℕ) → items ≤ k → next ≡ set table copies_cell many → next ≡ copies_numbered items (items - k) k many table
unfolding copies_numbered
numbers-end items k many table next l en = let z : items - k ≡ 0 = omega arith in rw (en, z)
