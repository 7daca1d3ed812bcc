-- What an answer of the call says: the file is accepted, its log stands, and the most starts of the row in any hour, with the earliest start that
-- such an hour begins with, are the numbers told.
use Rattle.std.specs.Prelude.{ℕ, ◌≡◌, refl, true, cond, ◌&&◌}
use Rattle.std.proofs.Common.{arith}
use Rattle.std.proofs.Math.Path.{subst}
use mathlib.Core.List.{List}
use Rattle.std.proofs.Math.Dec.{eqb}
use borrow.Author.Tests.{eqb-true}
use Rattle.effbd.specs.Answers.{Outcome, accepted, refused, is_accepted, afterwards}
use Rattle.effbd.specs.Diagrams.{Diagram, function, is_kind}
use Rattle.effbd.specs.Nesting.{read_diagram}
use Rattle.effbd.specs.Logs.{Setpoint, log_fault, made, after, played}
use Rattle.effbd.specs.Starts.{Start, activity, is_step, is_start, starts, times_of, busiest, starts_of, starts_told_as, log_starts}
use Rattle.ranges.specs.Tests.{and_left, and_right}
use Rattle.agreement.specs.ByteLaws.{never, next-inv, bind_inv}
use Rattle.log_laws.specs.Spans.{Most, log-busiest}

-- THEOREM: a start is an accepted move
pub start-accepted : (d : Diagram) (r : ℕ) (m : Setpoint) (words : List ℕ) → is_start r m words (after d m words) ≡ true → is_accepted (made d m words) ≡ true
start-accepted d r m words e = go (made d m words) e
  where
    go : (o : Outcome (List ℕ)) → is_start r m words (afterwards words o) ≡ true → is_accepted o ≡ true
    go (accepted next) h = refl
    go (refused n v) h = absurd (let b = both h in let x = b.0 in let y = b.1 in omega arith)
      where
        both : is_start r m words words ≡ true → (activity words r ≡ 1) × (activity words r ≡ 2)
        both k = unfold is_start in (let z = and_right (is_step r m) (eqb (activity words r) 1 && eqb (activity words r) 2) k in
            (eqb-true (activity words r) 1 (and_left (eqb (activity words r) 1) (eqb (activity words r) 2) z), eqb-true (activity words r) 2 (and_right (eqb (activity words r) 1) (eqb (activity words r) 2) z)))

pub record StartsAre (file log : List ℕ) (row n t : ℕ) : Type 0 where
  pub diagram : Diagram
  pub read : read_diagram file ≡ accepted diagram
  pub last : List ℕ
  pub stood : played diagram log ≡ accepted last
  pub most : Most (times_of (starts diagram row log)) (record { most = n; at = t })

-- THEOREM: what the call tells, where it accepts
pub answer-is : (file log : List ℕ) (row before n : ℕ) → (log_starts file log row before).answer ≡ accepted n → StartsAre file log row n (log_starts file log row before).at
unfolding log_starts
answer-is file log row before n e = told (starts_of file log row) refl e
  where
    -- the starts were found
    found : (s : List Start) → starts_of file log row ≡ accepted s → StartsAre file log row (busiest (times_of s)).most (busiest (times_of s)).at
    found s h = unfold starts_of in (
        let w = bind_inv (read_diagram file) _ s h in let d = w.0 in
        let x = next-inv (log_fault log) 0 _ s w.2 in let y = next-inv (cond (is_kind d function row) 0 41) 0 _ s x.1 in
        let z = bind_inv (played d log) (λ last. accepted (starts d row log)) s y.1 in
        let same : starts d row log ≡ s = cc in
        record {
          diagram = d;
          read = w.1;
          last = z.0;
          stood = z.1;
          most = subst (λ (k : List Start). Most (times_of (starts d row log)) (busiest (times_of k))) same (log-busiest d row log);
        })

    told : (o : Outcome (List Start)) → starts_of file log row ≡ o → (starts_told_as before o).answer ≡ accepted n → StartsAre file log row n (starts_told_as before o).at
    told (refused m v) h k = never k
    told (accepted s) h k = subst (λ (m : ℕ). StartsAre file log row m (busiest (times_of s)).at) (let z : (busiest (times_of s)).most ≡ n = cc in z) (found s h)
