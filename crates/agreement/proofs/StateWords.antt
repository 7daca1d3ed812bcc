-- The bisimulation over states as lists, and the net by numbers.
use Prim.Native.Nat.{ℕ, ◌+◌, ◌*◌, ◌<◌, zero-le}
use Rattle.std.specs.Prelude.{◌≡◌, ◌≢◌, true, cond, List, map, length, get_or, ltb}
use Rattle.std.proofs.Math.Path.{refl, sym, ap, subst, fun_ext}
use Rattle.std.proofs.Common.{◌∙◌, arith, ltb-true, lt-ltb}
use Rattle.effbd.specs.Answers.{Outcome, accepted, refused}
use Rattle.effbd.specs.Diagrams.{Diagram, row_count}
use Rattle.effbd.specs.Counts.{count_total}
use Rattle.effbd.specs.Firing.{NetState, net_move}
use Rattle.effbd.specs.Image.{image_mark, image}
use Rattle.effbd.specs.Layout.{Count, P, Place, Q, R, by_place, place_of, places}
use Rattle.effbd.specs.Moves.{Move, move, move_words, no_move, step_row, wait_ticks, words_outcome}
use Rattle.effbd.specs.Patterns.{Name, names}
use Rattle.effbd.specs.Ranges.{tabulate}
use Rattle.effbd.specs.States.{State, fresh, state_of, state_words}
use Rattle.ranges.specs.Tests.{decide}
use Rattle.ranges.specs.RangeLaws.{get_d-tab, tab-ext, length-tab}
use Rattle.agreement.proofs.Invariant.{Inv}
use Rattle.agreement.proofs.Matching.{Agree, Valid}
use Rattle.agreement.proofs.Moves.{Words, fresh-image, fresh-inv, moves-agree, row_asked}
use Rattle.agreement.specs.Named.{NamedState, behaviour, flat_net, named_fresh, named_image, named_move}
use Rattle.agreement.specs.Nested.{well_nested}
use Rattle.agreement.proofs.Numbering.{none, ans, map-tab, name-at, place-I, place-P, place-Q, place-R, place-real, step-flat, wait-flat}
use Rattle.agreement.specs.Tokens.{Real}
use Rattle.agreement.specs.Refusals.{net_number, net_value}

module _ (d : Diagram) where
  clip : State → State
  clip s = record {
    activity = λ q. cond (ltb q (row_count d)) (s.activity q) 0;
    turns = λ q. cond (ltb q (row_count d)) (s.turns q) 0;
    clock = λ q. cond (ltb q (row_count d)) (s.clock q) 0;
    count = λ k. cond (ltb k (count_total d)) (s.count k) 0;
  }

  read-flat : (s : State) → state_of d (state_words d s) ≡ clip s
  unfolding state_of state_words clip
  read-flat s = λ j. record { activity = fun_ext act' j; turns = fun_ext turns' j; clock = fun_ext clock' j; count = fun_ext count' j }
    where
      f : ℕ → ℕ
      f p = by_place s.activity s.turns s.clock s.count (place_of d p)

      got : (p : ℕ) (x : Place) → p < 3 * row_count d + count_total d → place_of d p ≡ x → get_or (tabulate (3 * row_count d + count_total d) f) p 0 ≡ by_place s.activity s.turns s.clock s.count x
      got p x l e = get_d-tab (3 * row_count d + count_total d) f p 0 l ∙ ap (by_place s.activity s.turns s.clock s.count) e

      act' : (q : ℕ) → cond (ltb q (row_count d)) (get_or (tabulate (3 * row_count d + count_total d) f) (3 * q) 0) 0 ≡ cond (ltb q (row_count d)) (s.activity q) 0
      act' q = decide (ltb q (row_count d)) (λ e. let l = ltb-true q (row_count d) e in rw e (got (3 * q) (P q) (omega arith) (place-P d q l))) (λ e. rw e)

      turns' : (q : ℕ) → cond (ltb q (row_count d)) (get_or (tabulate (3 * row_count d + count_total d) f) (3 * q + 1) 0) 0 ≡ cond (ltb q (row_count d)) (s.turns q) 0
      turns' q = decide (ltb q (row_count d)) (λ e. let l = ltb-true q (row_count d) e in rw e (got (3 * q + 1) (Q q) (omega arith) (place-Q d q l))) (λ e. rw e)

      clock' : (q : ℕ) → cond (ltb q (row_count d)) (get_or (tabulate (3 * row_count d + count_total d) f) (3 * q + 2) 0) 0 ≡ cond (ltb q (row_count d)) (s.clock q) 0
      clock' q = decide (ltb q (row_count d)) (λ e. let l = ltb-true q (row_count d) e in rw e (got (3 * q + 2) (R q) (omega arith) (place-R d q l))) (λ e. rw e)

      count' : (k : ℕ) → cond (ltb k (count_total d)) (get_or (tabulate (3 * row_count d + count_total d) f) (3 * row_count d + k) 0) 0 ≡ cond (ltb k (count_total d)) (s.count k) 0
      count' k = decide (ltb k (count_total d)) (λ e. let l = ltb-true k (count_total d) e in rw e (got (3 * row_count d + k) (Count k) (omega arith) (place-I d k))) (λ e. rw e)

  -- what is out of range does not weigh on the invariant
  clip-inv : (s : State) → Inv d s → Inv d (clip s)
  unfolding clip
  clip-inv s i = record {
    valid = record {
      small = λ q. decide (ltb q (row_count d)) (λ e. rw e (v.small q)) (λ e. rw e zero-le);
      runs = λ q. decide (ltb q (row_count d)) (λ e. rw e (v.runs q)) (λ e. rw e (λ h. absurd (omega arith)));
      done = λ q. decide (ltb q (row_count d)) (λ e. rw e (v.done q)) (λ e. rw e (λ h. absurd (omega arith)));
      readies = λ q. decide (ltb q (row_count d)) (λ e. rw e (v.readies q)) (λ e. rw e (λ h. absurd (omega arith)));
      opened = λ q. decide (ltb q (row_count d)) (λ e. rw e (v.opened q)) (λ e. rw e (λ h. absurd (omega arith)));
      still = λ q. decide (ltb q (row_count d)) (λ e. rw e (v.still q)) (λ e. rw e (λ h. refl));
      turned = λ q. decide (ltb q (row_count d)) (λ e. rw e (v.turned q)) (λ e. rw e zero-le);
      timely = λ q. decide (ltb q (row_count d)) (λ e. rw e (v.timely q)) (λ e. rw e zero-le);
      spun = λ q z. decide (ltb q (row_count d)) (λ e. rw e (v.spun q z)) (λ e. rw e);
      forked = λ q. decide (ltb q (row_count d)) (λ e. rw e (v.forked q)) (λ e. rw e (λ h. absurd (omega arith)));
      counted = λ k l. rw (lt-ltb k (count_total d) l) (v.counted k l);
      bounded = v.bounded;
    };
    apart = λ r q a b. i.apart r q (was r a) (was q b);
  }
    where
      v : Valid d s
      v = i.valid

      was : (q : ℕ) → cond (ltb q (row_count d)) (s.activity q) 0 ≢ 0 → s.activity q ≢ 0
      was q = decide (ltb q (row_count d)) (λ e. rw e (λ h. h)) (λ e. rw e (λ h. absurd (h refl)))

  image-clip : (s : State) → flat_net d (named_image d (clip s)) ≡ flat_net d (named_image d s)
  unfolding flat_net clip
  image-clip s = λ j. record { marks = marks j; clocks = clocks j }
    where
      mark : (p : Place) → Real d p → image_mark d (clip s) p ≡ image_mark d s p
      mark (P q) l = rw (lt-ltb q (row_count d) l)
      mark (Q q) l = rw (lt-ltb q (row_count d) l)
      mark (R q) l = rw (lt-ltb q (row_count d) l)
      mark (Count k) l = rw (lt-ltb k (count_total d) l)

      marks : tabulate (3 * row_count d + count_total d) (λ p. image_mark d (clip s) (place_of d p)) ≡ tabulate (3 * row_count d + count_total d) (λ p. image_mark d s (place_of d p))
      marks = tab-ext (3 * row_count d + count_total d) _ _ (λ p l. mark (place_of d p) (place-real d p l))

      ns : List (Name d)
      ns = names d (row_count d)

      f : State → Name d → ℕ
      f u x = (named_image d u).clock x.label x.index

      clocks : map (f (clip s)) ns ≡ map (f s) ns
      clocks = map-tab d (f (clip s)) ns (none d) ∙ (tab-ext (length ns) _ _ (λ x l. rw (lt-ltb (get_or ns x (none d)).label (row_count d) (name-at d (row_count d) x l).0)) ∙ sym (map-tab d (f s) ns (none d)))

  listed : (s : State) → image d (state_words d s) ≡ flat_net d (named_image d s)
  unfolding image flat_net
  listed s = ap (λ x. flat_net d (named_image d x)) (read-flat s) ∙ image-clip s

  module _ (acc : well_nested d ≡ true) (w : Words d) where
    move-flat : (m : Move) (n : NamedState) → net_move (behaviour d) m (flat_net d n) ≡ ans d (named_move d m n)
    unfolding net_move
    move-flat (step_row r) n = step-flat d r n
    move-flat (wait_ticks k) n = wait-flat d k n
    move-flat no_move n = refl

    unfoldable pub Kept : List ℕ → Type 0
    Kept l = Inv d (state_of d l)

    -- the two answers: both accept, the net at the image of the diagram's new state, or both refuse, the net as it follows from the diagram
    abbrev pub WordsAgree : State → ℕ → Outcome (List ℕ) → Outcome NetState → Type 0
    WordsAgree o r (accepted x) (accepted y) = (y ≡ image d x) × Kept x × (length x ≡ places d)
    WordsAgree o r (accepted x) (refused a b) = ⊥
    WordsAgree o r (refused a b) (accepted y) = ⊥
    WordsAgree o r (refused a b) (refused a' b') = (a' ≡ net_number a) × (b' ≡ net_value d o r a b)

    in_words : (o : State) (r : ℕ) (a : Outcome State) (b : Outcome NamedState) → Agree d (Inv d) o r a b → WordsAgree o r (words_outcome d a) (ans d b)
    unfolding words_outcome Kept
    in_words o r (accepted x) (accepted y) h =
        (ap (flat_net d) (sym h.0) ∙ sym (listed x), subst (Inv d) (sym (read-flat x)) (clip-inv x h.1), (unfold state_words in length-tab (places d) _))
    in_words o r (accepted x) (refused a b) h = absurd h
    in_words o r (refused a b) (accepted y) h = absurd h
    in_words o r (refused a b) (refused u v) h = h

    -- THEOREM: at a state that keeps the invariant the diagram accepts a move exactly when the net accepts it at the image, and so on
    pub words-agree : (m : Move) (l : List ℕ) → Kept l → WordsAgree (state_of d l) (row_asked m) (move_words d m l) (net_move (behaviour d) m (image d l))
    unfolding move_words Kept
    words-agree m l i = subst (λ (x : NetState). WordsAgree (state_of d l) (row_asked m) (words_outcome d (move d m (state_of d l))) (net_move (behaviour d) m x)) (sym image-is)
        (subst (λ (x : Outcome NetState). WordsAgree (state_of d l) (row_asked m) (words_outcome d (move d m (state_of d l))) x) (sym (move-flat m (named_image d (state_of d l))))
        (in_words (state_of d l) (row_asked m) (move d m (state_of d l)) (named_move d m (named_image d (state_of d l))) (moves-agree d acc w m (state_of d l) i)))
      where
        image-is : image d l ≡ flat_net d (named_image d (state_of d l))
        image-is = unfold image flat_net in refl

    pub start-kept : Kept (state_words d (fresh d))
    unfolding Kept
    start-kept = subst (Inv d) (sym (read-flat (fresh d))) (clip-inv (fresh d) (fresh-inv d acc w))

    pub start-image : flat_net d (named_fresh d) ≡ image d (state_words d (fresh d))
    start-image = ap (flat_net d) (sym (fresh-image d acc w)) ∙ sym (listed (fresh d))
