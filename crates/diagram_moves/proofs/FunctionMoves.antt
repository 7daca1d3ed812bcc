-- The start and the end of a FUNCTION over the table, the file's uses and the state's words are the diagram's.
use Rattle.std.specs.Prelude.{ℕ, suc, ◌+◌, ◌-◌, ◌≤◌, ◌<◌, ◌≡◌, refl, List, [], ◌∷◌, get_or, leb, ltb, eqb}
use Rattle.std.proofs.Common.{zero-le, ◌∙◌, subst, add-zero, arith}
use Rattle.std.proofs.Math.Path.{sym, ap}
use Rattle.std.proofs.Math.Bool.{true, false, not}
use Rattle.std.proofs.Math.Numerals.{add-one}
use Rattle.std.proofs.Math.Nat.{sub-zero}
use borrow.Author.Tests.{ltb-true, ltb-false, le-ltb, lt-leb, le-leb, leb-true, eqb-true, eqb-false}
use Rattle.effbd.specs.Ranges.{only}
use Rattle.effbd.specs.Answers.{accepted}
use Rattle.effbd.specs.Diagrams.{Diagram, Kind, Use, function, row, row_count, item_total, kind, uses_fine, row_fine, row_fine_as}
use Rattle.effbd.specs.Counts.{count_total, item_of, tally, give_of, takes, gives}
use Rattle.effbd.specs.States.{State, enter, make_idle, set_counts, set_running, state_of}
use Rattle.effbd.specs.Moves.{most_word, is_there, enough, sum_fits, sums_fit, lowest_item, start_function, end_function, step_as, words_outcome}
use Rattle.words.proofs.PlainSums.{whole_sum}
use Rattle.diagram_table.specs.Held.{Holds, HoldsCopies, HoldsRanks, HoldsUses}
use Rattle.ranges.specs.Tests.{decide, and_right, not-not}
use Rattle.ranges.specs.RangeLaws.{all-elim}
use Rattle.agreement.specs.AcceptedFiles.{AllOf, Held}
use Rattle.agreement.specs.Sources.{gives_to}
use Rattle.diagram_table.specs.Cells.{uses_in}
use Rattle.diagram_moves.specs.Decisions.{exceeds, changed, blocked_item, start_verdict, end_verdict, function_verdict}
use Rattle.diagram_moves.specs.Changes.{row_set, counts_changed, token_passed, function_change, outcome_of}
use Rattle.diagram_moves.specs.Stores.{Reads, like, reads-words, set-row}
use Rattle.diagram_moves.specs.UseRuns.{blocked-is, counts-read, lowest-all, lowest-same, use-runs}
use Rattle.diagram_moves.proofs.TokenMoves.{pass-reads}

pub flip : (x w : ℕ) → leb w x ≡ not (ltb x w)
flip x w = decide (ltb x w) (λ e. let z = ltb-true x w e in rw e (lt-leb w x z)) (λ e. let z = ltb-false x w e in rw e (le-leb w x z))

above : (x w : ℕ) → w ≤ most_word → ltb (most_word - w) x ≡ not (leb (x + w) most_word)
above x w b = decide (ltb (most_word - w) x) (λ e. let z = ltb-true (most_word - w) x e in e ∙ ap not (sym (lt-leb (x + w) most_word (omega arith))))
    (λ e. let z = ltb-false (most_word - w) x e in e ∙ ap not (sym (le-leb (x + w) most_word (omega arith))))

give-fits : (us : List Use) (k : ℕ) → AllOf (λ (u : Use). (u.take ≤ most_word) × (u.give ≤ most_word)) us → give_of us k ≤ most_word
give-fits [] k h = zero-le
give-fits (u ∷ us) k h = decide (eqb u.item k) (λ e. rw e h.0.1) (λ e. rw e (give-fits us k h.1))

-- words of 16 bits; counts of 16 bits
pub record Small (l : List ℕ) : Type 0 where
  pub small : (i : ℕ) → get_or l i 0 ≤ most_word

pub record SmallCounts (s : State) : Type 0 where
  pub small : (c : ℕ) → s.count c ≤ most_word

pub small-counts : (d : Diagram) (l : List ℕ) → Small l → SmallCounts (state_of d l)
unfolding state_of
small-counts d l h = record { small = λ c. decide (ltb c (count_total d)) (λ y. rw y (h.small _)) (λ y. rw y zero-le) }

module _ (d : Diagram) (held : Held d) (table : List ℕ) (h : Holds d (row_count d) (item_total d) table) (own : HoldsCopies d table) (ranks : HoldsRanks d table)
    (file : List ℕ) (u : HoldsUses file d table) (l : List ℕ) (s : State) (e : Reads d l s) (r : ℕ) (r-in : r < row_count d) (f : kind d r ≡ function) where
  N : ℕ
  N = row_count d

  M : ℕ
  M = item_total d

  fine : uses_fine (item_total d) 0 (row d r).uses ≡ true
  unfolding row_fine
  fine = and_right (leb (row d r).first (row d r).second) _ (subst (λ (k : Kind). row_fine_as k (item_total d) (row d r) ≡ true) f (held.each r).fine)

  uses-are : uses_in table file r ≡ (row d r).uses
  uses-are = u.uses r r-in

  blocked-take : blocked_item table false N M l r 0 (uses_in table file r) ≡ lowest_item d (is_there d r s)
  unfolding exceeds N M
  blocked-take = rw uses-are (blocked-is d r table false l s e (λ c b. le-ltb (s.count c) 0 zero-le) fine (use-runs d table h.records own ranks r r-in f false fine)
      ∙ lowest-same d _ (is_there d r s) (λ c b. sym (flip (s.count c) (takes d r c))))

  pub enough-is : leb (item_total d) (blocked_item table false (row_count d) (item_total d) l r 0 (uses_in table file r)) ≡ enough d r s
  unfolding N M
  enough-is = ap (leb M) blocked-take ∙ (flip (lowest_item d (is_there d r s)) M ∙ (ap not (lowest-all d (is_there d r s)) ∙ not-not (enough d r s)))

  taken : Reads d (counts_changed table false N r 0 (uses_in table file r) l) (set_counts (λ k. s.count k - takes d r k) s)
  unfolding changed N
  taken = rw uses-are (like d (counts-read d r table false (item_total d) l s fine (use-runs d table h.records own ranks r r-in f false fine) e)
      (record {
        activity = λ q c. refl;
        turns = λ q c. refl;
        clock = λ q c. refl;
        count = λ k c. decide (eqb (takes d r k) 0) (λ y. rw (y, eqb-true (takes d r k) 0 y) (sym (sub-zero (s.count k)))) (λ y. rw y);
      }))

  start_is : outcome_of (start_verdict table N M file l r) (row_set r 2 (counts_changed table false N r 0 (uses_in table file r) l)) ≡ words_outcome d (start_function d r s)
  unfolding start_verdict words_outcome M N
  start_is = rw (blocked-take, lowest-all d (is_there d r s)) (decide (enough d r s)
      (λ y. rw y (ap accepted (reads-words d _ (set_running r (set_counts (λ k. s.count k - takes d r k) s)) (set-row d (λ q. 2) _ _ r r-in taken))))
      (λ y. rw y))

  module _ (small : SmallCounts s) where
    gives-word : (c : ℕ) → c < count_total d → gives d r c ≤ most_word
    gives-word c b = decide (eqb (gives d r c) 0)
        (λ y. rw (eqb-true (gives d r c) 0 y) zero-le)
        (λ y. rw (gives_to d r c b (eqb-false (gives d r c) 0 y)).much (give-fits (row d r).uses (item_of (tally d c)) (held.each r).uses))

    blocked-give : blocked_item table true N M l r 0 (uses_in table file r) ≡ lowest_item d (sum_fits d r s)
    unfolding exceeds N M
    blocked-give = rw uses-are (blocked-is d r table true l s e (λ c b. le-ltb most_word (s.count c) (small.small c)) fine (use-runs d table h.records own ranks r r-in f true fine)
        ∙ lowest-same d _ (sum_fits d r s) (λ c b. ap not (above (s.count c) (gives d r c) (gives-word c b)) ∙ not-not (sum_fits d r s c)))

    given : sums_fit d r s ≡ true → Reads d (counts_changed table true N r 0 (uses_in table file r) l) (set_counts (λ k. s.count k + gives d r k) s)
    unfolding changed N
    given fit = rw uses-are (like d (counts-read d r table true (item_total d) l s fine (use-runs d table h.records own ranks r r-in f true fine) e)
        (record {
          activity = λ q c. refl;
          turns = λ q c. refl;
          clock = λ q c. refl;
          count = λ k c. decide (eqb (gives d r k) 0)
              (λ y. rw (y, eqb-true (gives d r k) 0 y) (sym (add-zero (s.count k))))
              (λ y. rw y (whole_sum (s.count k) (gives d r k) (leb-true (s.count k + gives d r k) most_word (all-elim (count_total d) (sum_fits d r s) fit k c))));
        }))

    end_is : suc r < row_count d → outcome_of (end_verdict table N M file l r) (token_passed table r (suc r) (counts_changed table true N r 0 (uses_in table file r) l)) ≡ words_outcome d (end_function d r s)
    unfolding end_verdict words_outcome M N
    end_is c = rw (e.clock r r-in, h.records.firsts r r-in, blocked-give, lowest-all d (sum_fits d r s)) (decide (ltb (s.clock r) (row d r).first)
        (λ y. rw y)
        (λ y. rw y (decide (sums_fit d r s)
        (λ z. rw z (ap accepted (reads-words d _ (enter d (suc r) (make_idle (only r) (set_counts (λ k. s.count k + gives d r k) s)))
        (pass-reads d held.acc table h (counts_changed table true N r 0 (uses_in table file r) l) (set_counts (λ k. s.count k + gives d r k) s) r (suc r) r-in c (given z)))))
        (λ z. rw z))))

    pub function-is : suc r < row_count d → outcome_of (function_verdict table (row_count d) (item_total d) file l r) (function_change table (row_count d) file r l) ≡ words_outcome d (step_as d function r s)
    unfolding function_verdict function_change N M words_outcome
    function-is c = rw (e.activity r r-in, add-one r) (decide (eqb (s.activity r) 1)
        (λ y. rw y start_is)
        (λ y. rw y (decide (eqb (s.activity r) 2) (λ z. rw z (end_is c)) (λ z. rw z))))
