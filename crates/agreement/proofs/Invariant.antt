-- The invariant, and how clearing rows and making rows active keeps it.
use Rattle.std.specs.Prelude.{ℕ, ◌≤◌, ◌<◌, ◌≡◌, refl, ◌≢◌, Bool, true, false, cond, eqb}
use Rattle.std.proofs.Common.{zero-le, arith, eqb-true}
use Rattle.std.proofs.lemmas.Bool.{eqb-false}
use Rattle.effbd.specs.Diagrams.{Diagram, and_close, and_open, branch, function, is_kind, it_open, kind, row}
use Rattle.effbd.specs.Counts.{count_total, tally}
use Rattle.effbd.specs.Nesting.{owner}
use Rattle.effbd.specs.Ranges.{nobody}
use Rattle.effbd.specs.States.{State, activate, clear_rows, make_idle}
use Rattle.ranges.specs.Tests.{clash, decide}
use Rattle.agreement.specs.Basics.{eq-same, same-eq}
use Rattle.agreement.specs.Counts.{most_of}
use Rattle.agreement.proofs.Matching.{Valid}
use Rattle.agreement.specs.Structure.{Fine, Par, par-irr, par-sym}

module _ (d : Diagram) where
  pub record Inv (s : State) : Type 0 where
    pub valid : Valid d s
    pub apart : (r q : ℕ) → s.activity r ≢ 0 → s.activity q ≢ 0 → r ≢ q → Par d r q

  -- the cases of an activity after rows S are cleared and rows E made active
  cell : (E S b : Bool) (a : ℕ) (C : ℕ → Type 0) → (E ≡ true → C (cond b 3 1)) → (E ≡ false → S ≡ true → C 0) → (E ≡ false → S ≡ false → C a)
      → C (cond E (cond b 3 1) (cond S 0 a))
  cell true S b a C f g h = f refl
  cell false true b a C f g h = g refl refl
  cell false false b a C f g h = h refl refl

  valid-entered : (S E : ℕ → Bool) (s : State) → ((q : ℕ) → E q ≡ true → Fine d q) → Valid d s → Valid d (activate d E (clear_rows S s))
  valid-entered S E s lands v = record {
    small = λ q. cell (E q) (S q) (is_kind d branch q) (s.activity q) (λ x. x ≤ 3) (λ e. bit (is_kind d branch q)) (λ e f. zero-le) (λ e f. v.small q);
    runs = λ q. cell (E q) (S q) (is_kind d branch q) (s.activity q) (λ x. x ≡ 2 → kind d q ≡ function) (λ e. nt (is_kind d branch q)) (λ e f z. absurd (omega arith)) (λ e f. v.runs q);
    done = λ q. cell (E q) (S q) (is_kind d branch q) (s.activity q) (λ x. x ≡ 3 → kind d q ≡ branch)
        (λ e. decide (is_kind d branch q) (λ b z. same-eq (kind d q) branch b) (λ b. rw b (λ z. absurd (omega arith)))) (λ e f z. absurd (omega arith)) (λ e f. v.done q);
    readies = λ q. cell (E q) (S q) (is_kind d branch q) (s.activity q) (λ x. x ≡ 1 → kind d q ≢ branch)
        (λ e. decide (is_kind d branch q) (λ b. rw b (λ z. absurd (omega arith))) (λ b z k. clash (eq-same (kind d q) branch k) b)) (λ e f z. absurd (omega arith)) (λ e f. v.readies q);
    opened = λ q. cell (E q) (S q) (is_kind d branch q) (s.activity q) (λ x. x ≡ 1 → kind d q ≢ and_close) (λ e z. (lands q e).0) (λ e f z. absurd (omega arith)) (λ e f. v.opened q);
    still = λ q. still_at (E q) (S q) q;
    turned = λ q. turned_at (S q) q;
    timely = λ q. timely_at (E q) (S q) q;
    spun = λ q h. spun_at (S q) q h;
    forked = λ q. cell (E q) (S q) (is_kind d branch q) (s.activity q) (λ x. x ≡ 3 → kind d (owner d q) ≡ and_open)
        (λ e. decide (is_kind d branch q) (λ b z. (lands q e).1 (same-eq (kind d q) branch b)) (λ b. rw b (λ z. absurd (omega arith)))) (λ e f z. absurd (omega arith)) (λ e f. v.forked q);
    counted = v.counted;
    bounded = v.bounded;
  }
    where
      bit : (b : Bool) → cond b 3 1 ≤ 3
      bit true = omega arith
      bit false = omega arith

      nt : {C : Type 0} (b : Bool) → ◌≡◌ {A = ℕ} (cond b 3 1) 2 → C
      nt true e = absurd (omega arith)
      nt false e = absurd (omega arith)

      turned_at : (S : Bool) (q : ℕ) → cond S 0 (s.turns q) ≤ (row d q).first
      turned_at true q = zero-le
      turned_at false q = v.turned q

      spun_at : (S : Bool) (q : ℕ) → kind d q ≢ it_open → cond S 0 (s.turns q) ≡ 0
      spun_at true q h = refl
      spun_at false q h = v.spun q h

      timely_at : (E S : Bool) (q : ℕ) → cond E 0 (cond S 0 (s.clock q)) ≤ (row d q).second
      timely_at true S q = zero-le
      timely_at false true q = zero-le
      timely_at false false q = v.timely q

      still_at : (E S : Bool) (q : ℕ) → cond E (cond (is_kind d branch q) 3 1) (cond S 0 (s.activity q)) ≢ 2 → cond E 0 (cond S 0 (s.clock q)) ≡ 0
      still_at true S q h = refl
      still_at false true q h = refl
      still_at false false q h = v.still q h

  -- a row that is active then was made so, or was active and not cleared
  active : {C : Type 0} (E S b : Bool) (a : ℕ) → cond E (cond b 3 1) (cond S 0 a) ≢ 0 → (E ≡ true → C) → (S ≡ false → a ≢ 0 → C) → C
  active true S b a h f g = f refl
  active false true b a h f g = absurd (h refl)
  active false false b a h f g = g refl h

  -- what makes the clearing of rows W and the activation of rows E fit the activities of a state and keep the invariant
  pub record Sound (W E : ℕ → Bool) (activity : ℕ → ℕ) : Type 0 where
    pub clear : (t x : ℕ) → E t ≡ true → W x ≡ false → activity x ≢ 0 → Par d t x
    pub lands : (t : ℕ) → E t ≡ true → Fine d t
    pub pair : (t u : ℕ) → E t ≡ true → E u ≡ true → t ≢ u → Par d t u

  pub sound-inv : (W E : ℕ → Bool) (s : State) → Inv s → Sound W E s.activity → Inv (activate d E (clear_rows W s))
  sound-inv W E s i h = record {
    valid = valid-entered W E s h.lands i.valid;
    apart = λ r q a b ne.
        active (E r) (W r) (is_kind d branch r) (s.activity r) a
        (λ er. active (E q) (W q) (is_kind d branch q) (s.activity q) b (λ eq. h.pair r q er eq ne) (λ sq aq. h.clear r q er sq aq))
        (λ sr ar. active (E q) (W q) (is_kind d branch q) (s.activity q) b (λ eq. par-sym d q r (h.clear q r eq sr ar)) (λ sq aq. i.apart r q ar aq ne));
  }

  -- a row that is made active and not cleared was idle
  pub sound-idle : (W E : ℕ → Bool) (a : ℕ → ℕ) → Sound W E a → (q : ℕ) → W q ≡ false → E q ≡ true → a q ≡ 0
  sound-idle W E a h q e f = decide (eqb (a q) 0) (λ z. eqb-true (a q) 0 z)
      (λ z. absurd (par-irr d q (h.clear q q f e (eqb-false (a q) 0 z))))

  -- turns and counts do not weigh on it
  abbrev pub with : (ℕ → ℕ) → (ℕ → ℕ) → State → State
  with t c s = record { activity = s.activity; turns = t; clock = s.clock; count = c }

  pub inv-with : (t c : ℕ → ℕ) (s : State) → Inv s → ((q : ℕ) → t q ≤ (row d q).first) → ((q : ℕ) → kind d q ≢ it_open → t q ≡ 0) → ((k : ℕ) → k < count_total d → c k ≤ most_of d (tally d k)) → Inv (with t c s)
  inv-with t c s i ht hz hc = record {
    valid = record { small = v.small; runs = v.runs; done = v.done; readies = v.readies; opened = v.opened; still = v.still; turned = ht; timely = v.timely; spun = hz; forked = v.forked; counted = hc; bounded = v.bounded };
    apart = i.apart;
  }
    where
      v : Valid d s
      v = i.valid

  -- nor does a row that becomes idle
  pub inv-idle : (S : ℕ → Bool) (s : State) → Inv s → Inv (make_idle S s)
  inv-idle S s i = inv-with s.turns s.count (activate d nobody (clear_rows S s))
      (sound-inv S nobody s i (record { clear = λ t x e. clash e refl; lands = λ t e. clash e refl; pair = λ t u e. clash e refl }))
      i.valid.turned i.valid.spun i.valid.counted
