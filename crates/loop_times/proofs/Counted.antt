-- LPs counted: where there are none, no loop spends no time. The last LP close below a row.
use Rattle.std.specs.Prelude.{ℕ, zero, suc, ◌-◌, ◌<◌, ◌≡◌, refl, ◌≢◌, Bool, false, ◌==◌, List, length, get_or, take, count_by, eqb, Ok}
use Rattle.std.proofs.Common.{sym, ◌∙◌, ap, arith, eqb-true}
use Rattle.std.proofs.lemmas.List.{get_or_past}
use borrow.Author.Tests.{eqb-false}
use Rattle.effbd.specs.Ranges.{how_many}
use Rattle.effbd.specs.Diagrams.{Diagram, Kind, function, and_open, branch, and_close, or_open, or_close, it_open, it_close, lp_open, lp_close, loop_exit, end, box_open, box_close, box_exit, number_of, kind}
use Rattle.effbd.specs.Nesting.{spends_no_time, loop_fault}
use Rattle.ranges.specs.Tests.{decide}
use Rattle.agreement.specs.RowFaults.{rows-faultless}
use Rattle.nesting.specs.Runs.{Kinds}
use Rattle.nesting.proofs.Counts.{kinds-counted}
use Rattle.loop_times.specs.Loops.{is_loop, BehindClose, LoopsRead}

none-counted : (n : ℕ) (f : ℕ → Bool) → how_many n f ≡ 0 → (q : ℕ) → q < n → f q ≡ false
none-counted zero f e q l = absurd (omega arith)
none-counted (suc n) f e q l = decide (f n)
    (λ z. absurd (let y = rw z at e in omega arith))
    (λ z. decide (eqb q n) (λ w. ap f (eqb-true q n w) ∙ z) (λ w. let ne = eqb-false q n w in none-counted n f (let y = rw z at e in omega arith) q (omega arith)))

pub no-loops : (table : List ℕ) (rows : ℕ) → count_by (λ k. k == 24) (take rows table) ≡ 0 → LoopsRead table rows (Ok tt)
unfolding spends_no_time
no-loops table rows e = record {
  within = omega arith;
  none = λ z. refl;
  judged = λ d k g on. rows-faultless d (loop_fault d) (λ q l. rw (not-one d k q (let c = k.count in omega arith))) on;
}
  where
    not-one : (d : Diagram) → Kinds d rows table → (q : ℕ) → q < rows → spends_no_time d q ≡ false
    not-one d k q l = rw (← k.cell q l, none-counted rows (is_loop table) (kinds-counted table 24 (λ z. absurd (omega arith)) rows ∙ e) q l)

-- ---- no diagram has more rows than the table has words: past the end a kind is 0
number-some : (k : Kind) → number_of k ≢ 0
number-some function e = absurd (omega arith)
number-some and_open e = absurd (omega arith)
number-some branch e = absurd (omega arith)
number-some and_close e = absurd (omega arith)
number-some or_open e = absurd (omega arith)
number-some or_close e = absurd (omega arith)
number-some it_open e = absurd (omega arith)
number-some it_close e = absurd (omega arith)
number-some lp_open e = absurd (omega arith)
number-some lp_close e = absurd (omega arith)
number-some loop_exit e = absurd (omega arith)
number-some end e = absurd (omega arith)
number-some box_open e = absurd (omega arith)
number-some box_close e = absurd (omega arith)
number-some box_exit e = absurd (omega arith)

pub short-table : (table : List ℕ) (rows : ℕ) → length table < rows → LoopsRead table rows (Ok tt)
short-table table rows l = record {
  within = omega arith;
  none = λ z. refl;
  judged = λ d k g on. absurd (number-some (kind d (rows - 1))
      (sym (k.cell (rows - 1) (omega arith)) ∙ get_or_past table (rows - 1) 0 (omega arith)));
}

-- ---- the last LP close below a row
module _ (table : List ℕ) (row : ℕ) where
  pub close-start : BehindClose table row row
  close-start = record { low = omega arith; none = λ q l h. absurd (omega arith) }

  pub close-on : (b : ℕ) → 0 < b → get_or table (b - 1) 0 ≢ 25 → BehindClose table row b → BehindClose table row (b - 1)
  close-on b l n s = record {
    low = let h = s.low in omega arith;
    none = λ q a h. decide (eqb q (b - 1)) (λ w. let y = eqb-true q (b - 1) w in rw y n) (λ w. let ne = eqb-false q (b - 1) w in s.none q (omega arith) h);
  }
