-- The next row that is not idle: what the search for it has passed, what it finds, and that a wait has no business with the rows between.
use Rattle.std.specs.Prelude.{ℕ, zero, suc, ◌+◌, ◌≤◌, ◌<◌, ◌≡◌, ◌≢◌, Bool, true, false, ◌&&◌, List, get_or, leb, eqb}
use Rattle.std.proofs.Math.Path.{sym}
use Rattle.std.proofs.Common.{◌∙◌, ap, arith}
use Rattle.std.proofs.Math.Bool.{not}
use borrow.Author.Tests.{leb-true, leb-false, le-leb, eqb-true, eqb-false, ne_eqb}
use Rattle.effbd.specs.Ranges.{all_below, least}
use Rattle.effbd.specs.States.{activity_at}
use Rattle.ranges.specs.Tests.{decide, and_left, not-true, not-false}
use Rattle.ranges.specs.RangeLaws.{all-intro, all-elim, all-find, least-is, least-found, least-none, least-low}
use Rattle.diagram_table.specs.Cells.{kind_in}
use Rattle.diagram_moves.specs.Decisions.{function_holds, row_holds, row_free, next_busy}
use Rattle.diagram_moves.specs.Changes.{fold, tick_turn}
use Rattle.diagram_moves.proofs.RowStores.{fold_end}
use Rattle.diagram_moves.specs.BusyRows.{Idle, four_sum}

pub idle-none : (words : List ℕ) (from : ℕ) → Idle words from from
idle-none words from = record { low = omega arith; idle = λ q a b. absurd (omega arith) }

pub idle-one : (words : List ℕ) (from to : ℕ) → Idle words from to → get_or words (activity_at to) 0 ≡ 0 → Idle words from (to + 1)
idle-one words from to h e = record {
  low = let l = h.low in omega arith;
  idle = λ q a b. decide (eqb q to) (λ y. rw (eqb-true q to y) e) (λ y. let z : q ≢ to = eqb-false q to y in h.idle q a (omega arith));
}

pub idle-four : (words : List ℕ) (from to : ℕ) → Idle words from to → four_sum words to ≡ 0 → Idle words from (to + 4)
idle-four words from to h e =
    let at : (k j : ℕ) → activity_at to + j ≡ activity_at (to + k) → get_or words (activity_at to + j) 0 ≡ 0 → get_or words (activity_at (to + k)) 0 ≡ 0 = λ k j i z. rw (← i) z in
    let one = idle-one words from to h (omega (arith, e)) in
    let two = idle-one words from (to + 1) one (at 1 3 (omega arith) (omega (arith, e))) in
    let three = idle-one words from (to + 1 + 1) two (rw (let z : to + 1 + 1 ≡ to + 2 = omega arith in z) (at 2 6 (omega arith) (omega (arith, e)))) in
    let four = idle-one words from (to + 1 + 1 + 1) three (rw (let z : to + 1 + 1 + 1 ≡ to + 3 = omega arith in z) (at 3 9 (omega arith) (omega (arith, e)))) in
    rw (let z : to + 4 ≡ to + 1 + 1 + 1 + 1 = omega arith in z) four

module _ (words : List ℕ) (from rows : ℕ) where
  busy : ℕ → Bool
  busy q = leb from q && not (eqb (get_or words (activity_at q) 0) 0)

  not-busy : (q : ℕ) → (from ≤ q → get_or words (activity_at q) 0 ≡ 0) → busy q ≡ false
  unfolding busy
  not-busy q h = decide (leb from q) (λ y. rw (y, h (leb-true from q y))) (λ y. rw y)

  pub busy-found : (row : ℕ) → Idle words from row → row < rows → get_or words (activity_at row) 0 ≢ 0 → row ≡ next_busy words from rows
  unfolding next_busy busy
  busy-found row h b n = sym (least-is rows busy row b (rw (le-leb from row h.low, ne_eqb (get_or words (activity_at row) 0) 0 n)) (λ j c. not-busy j (λ a. h.idle j a c)))

  pub busy-none : (row : ℕ) → Idle words from row → rows ≤ row → rows ≡ next_busy words from rows
  unfolding next_busy busy
  busy-none row h b = sym (least-none rows busy (λ j c. not-busy j (λ a. h.idle j a (omega arith))))

  busy-high : next_busy words from rows ≤ rows
  unfolding next_busy
  busy-high = least-low rows _

  busy-not : (q : ℕ) → busy q ≡ false → from ≤ q → get_or words (activity_at q) 0 ≡ 0
  unfolding busy
  busy-not q e a = eqb-true (get_or words (activity_at q) 0) 0 (not-false _ (ap (λ (x : Bool). x && not (eqb (get_or words (activity_at q) 0) 0)) (sym (le-leb from q a)) ∙ e))

  -- the rows up to it are idle
  busy-idle : from ≤ rows → Idle words from (next_busy words from rows)
  unfolding next_busy busy
  busy-idle l = record {
    low = decide (all_below rows (λ q. not (busy q)))
        (λ y. rw (least-none rows busy (λ j c. not-true (busy j) (all-elim rows (λ q. not (busy q)) y j c))) l)
        (λ y. let w = all-find rows (λ q. not (busy q)) y in
        leb-true from (least rows busy) (and_left (leb from (least rows busy)) _ (least-found rows busy w.0 w.1 (not-false (busy w.0) w.2)).0));
    idle = λ q a b. let m = least-low rows busy in
        busy-not q (decide (busy q) (λ y. let z = (least-found rows busy q (omega arith) y).1 in absurd (omega arith)) (λ y. y)) a;
  }

-- what the search found
pub busy-next : (words : List ℕ) (from rows next : ℕ) → from ≤ rows → next ≡ next_busy words from rows → (next ≤ rows) × Idle words from next
busy-next words from rows next l e = rw e (busy-high words from rows, busy-idle words from rows l)

-- an idle row holds no wait, and has no clock that grows
idle-free : (table : List ℕ) (rows items : ℕ) (file words : List ℕ) (n r : ℕ) → get_or words (activity_at r) 0 ≡ 0 → row_free table rows items file words n r ≡ true
unfolding row_free row_holds function_holds
idle-free table rows items file words n r e = rw e (decide (eqb (kind_in table r) 16) (λ y. rw y) (λ y. rw y (decide (eqb (kind_in table r) 27) (λ z. rw z) (λ z. rw z))))

pub free-past : (table : List ℕ) (rows items : ℕ) (file words : List ℕ) (n from to : ℕ) → all_below from (row_free table rows items file words n) ≡ true → Idle words from to
    → all_below to (row_free table rows items file words n) ≡ true
free-past table rows items file words n from to e h = all-intro to (row_free table rows items file words n)
    (λ q b. decide (leb from q) (λ y. idle-free table rows items file words n q (h.idle q (leb-true from q y) b))
    (λ y. all-elim from (row_free table rows items file words n) e q (leb-false from q y)))

idle-tick : (n r : ℕ) (words : List ℕ) → get_or words (activity_at r) 0 ≡ 0 → tick_turn n r words ≡ words
unfolding tick_turn
idle-tick n r words e = rw e

pub tick-past : (n from to : ℕ) (l m : List ℕ) → m ≡ fold from (tick_turn n) l → Idle m from to → m ≡ fold to (tick_turn n) l
tick-past n from zero l m e h = fold_end (tick_turn n) from zero l m e h.low (omega arith)
tick-past n from (suc k) l m e h = decide (leb from k)
    (λ y. let b = leb-true from k y in sym (idle-tick n k m (h.idle k b (omega arith)))
    ∙ ap (tick_turn n k) (tick-past n from k l m e (record { low = b; idle = λ q a c. h.idle q a (omega arith) })))
    (λ y. let b = leb-false from k y in fold_end (tick_turn n) from (suc k) l m e h.low (omega arith))
