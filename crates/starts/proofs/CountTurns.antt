-- The walk that counts a row's starts: its beginning, one move more, a move refused, its end.
use Prim.Native.Nat.{ℕ, suc, ◌+◌, ◌-◌, ◌*◌, ◌≤◌, ◌<◌}
use mathlib.Core.Path.{◌≡◌, refl, sym, ◌∙◌, ap, ap₂, subst}
use mathlib.Core.Logic.{◌≢◌}
use mathlib.Core.Bool.{Bool, true, false, not, cond, ◌&&◌}
use mathlib.Core.List.{List, [], ◌∷◌, ◌++◌, append_assoc}
use native.Mathlib.Numerals.{add-one}
use native.Mathlib.Omega.{arith}
use lib.ListN.{length, drop, length-append, length-replicate}
use lib.Seq.{drop-cons}
use lib.Dec.{eqb}
use borrow.Author.Tests.{eqb-true, eqb-false, eq-eqb, not-true}
use Rattle.effbd.specs.Answers.{Outcome, accepted, refused, afterwards, returning_zero}
use Rattle.effbd.specs.Records.{are_bytes}
use Rattle.effbd.specs.Diagrams.{Diagram}
use Rattle.effbd.specs.States.{fresh_words}
use Rattle.effbd.specs.Logs.{Setpoint, setpoint_at, setpoints, move_count, most_moves, ticks, with_index, after, played}
use Rattle.effbd.specs.Starts.{activity, is_step, is_start, starts_from, times_of, Busiest}
use Rattle.ranges.specs.Tests.{decide, and_left, and_right}
use Rattle.agreement.specs.ByteLaws.{word_fits}
use Rattle.diagram_table.specs.Cells.{kind_in}
use Rattle.diagram_table.specs.Held.{HoldsPlant}
use Rattle.diagram_moves.specs.Changes.{table_move}
use Rattle.diagram_moves.proofs.FunctionMoves.{Small}
use Rattle.log_laws.specs.LogMoves.{no_setpoint, setpoints-many, setpoint-is}
use Rattle.log_laws.specs.SpanWalk.{reach, better, Walked}
use Rattle.log_laws.proofs.SpanWalk.{walk_start, walk_turn}
use Rattle.logs.specs.Walk.{Walk}
use Rattle.logs.proofs.Walking.{told-made, walk_begins, walk-on, walk-stops, move-made}
use Rattle.starts.specs.Gaps.{starts_in}
use Rattle.starts.specs.Windows.{in_window, best_of, Counted}
use Rattle.starts.specs.declared.spans.Window.{Window}
use Rattle.starts.specs.Faults.{starts_fault}
use Rattle.starts.specs.Counting.{gap_bytes, no_gaps, no_window, waited, runs, Turning, Turned, Spaced, Counting}
use Rattle.starts.proofs.GapLaws.{starts-many, reach_few}
use Rattle.starts.proofs.AcceptedMoves.{code_one, wait-leaves, found-ready}

-- a window of zeros is the first one
pub window-none : (w : Window) → (w.time ≡ 0) × ((w.latest ≡ 0) × ((w.since ≡ 0) × ((w.starts ≡ 0) × ((w.from ≡ 0) × ((w.to ≡ 0) × ((w.most ≡ 0) × (w.at ≡ 0))))))) → w ≡ no_window
window-none w z = zeros w.time w.latest w.since w.starts w.from w.to w.most w.at z.0 z.1.0 z.1.1.0 z.1.1.1.0 z.1.1.1.1.0 z.1.1.1.1.1.0 z.1.1.1.1.1.1.0 z.1.1.1.1.1.1.1
  where
    zeros : (a b c d e f g h : ℕ) → a ≡ 0 → b ≡ 0 → c ≡ 0 → d ≡ 0 → e ≡ 0 → f ≡ 0 → g ≡ 0 → h ≡ 0
        → ◌≡◌ {A = Window} (record { time = a; latest = b; since = c; starts = d; from = e; to = f; most = g; at = h }) no_window
    zeros a b c d e f g h p q r s t u v x = rw (p, q, r, s, t, u, v, x)

module _ (file log : List ℕ) (rows items : ℕ) (table : List ℕ) (row : ℕ) where
  -- THEOREM: the walk begins at the fresh state, with an empty window
  pub count-begins : (h : HoldsPlant file rows items table) (words gaps : List ℕ) → starts_fault table rows log row ≡ 0 → move_count log ≤ most_moves → kind_in table row ≡ 16
      → words ≡ fresh_words h.held.diagram → gaps ≡ no_gaps → Counting file log rows items table row 0 words gaps no_window
  unfolding starts_in
  count-begins h words gaps clean few function e none = record {
    clean = clean;
    few = few;
    function = function;
    room = ap length none ∙ length-replicate {A = ℕ} gap_bytes 0;
    holds = h;
    walk = walk_begins file log rows items table h words e;
    past = [];
    rest = ap (λ (l : List ℕ). times_of (starts_from h.held.diagram row 0 0 (setpoints log) l)) (sym e);
    walked = walk_start;
    held = λ n. absurd (n refl);
    later = omega arith;
    low = omega arith;
    many = omega arith;
    latest = 0;
    spaced = λ n. absurd (n refl);
    none = λ z. refl;
  }

  module _ (i : ℕ) (words gaps : List ℕ) (w : Window) (m : Counting file log rows items table row i words gaps w) (bytes : are_bytes file ≡ true) (small : Small words) (low : i < move_count log)
      (code argument : ℕ) (code_is : code ≡ (setpoint_at log i).code) (argument_is : argument ≡ (setpoint_at log i).argument) (log_bytes : are_bytes log ≡ true) (answer : Outcome ℕ) (next : List ℕ)
      (told : answer ≡ returning_zero (with_index i (table_move table rows items file words code argument)))
      (left : next ≡ afterwards words (table_move table rows items file words code argument)) where
    abbrev h : HoldsPlant file rows items table
    h = m.holds

    abbrev d : Diagram
    d = h.held.diagram

    fits : argument < 65536
    fits = let z = word_fits log log_bytes (4 * i + 2) in let e = argument_is in omega arith

    abbrev this : Setpoint
    this = setpoint_at log i

    same : table_move table rows items file words code argument ≡ table_move table rows items file words this.code this.argument
    same = ap₂ (table_move table rows items file words) code_is argument_is

    told-this : answer ≡ returning_zero (with_index i (table_move table rows items file words this.code this.argument))
    told-this = told ∙ ap (λ (o : Outcome (List ℕ)). returning_zero (with_index i o)) same

    left-this : next ≡ afterwards words (table_move table rows items file words this.code this.argument)
    left-this = left ∙ ap (afterwards words) same

    -- THEOREM: a move that is refused decides the log
    pub count-stops : (n v : ℕ) → answer ≡ refused n v → played d log ≡ refused n v
    count-stops n v e = walk-stops file log rows items table h bytes i low words small m.walk answer next told-this left-this n v e

    module _ (v : ℕ) (e : answer ≡ accepted v) where
      stood : table_move table rows items file words code argument ≡ accepted next
      stood = told-made i v words (table_move table rows items file words code argument) (sym e ∙ told) ∙ ap accepted (sym left)

      low-to : 3 * w.to ≤ 2 * i
      low-to = decide (eqb w.starts 0)
          (λ y. let z = m.none (eqb-true w.starts 0 y) in omega arith)
          (λ y. let z = m.spaced (eqb-false w.starts 0 y) in let b = z.bytes in let a = z.after in omega arith)

      pub count-turning : Turning row code argument next gaps w
      count-turning = record {
        fits = let z = m.low in let y = m.few in let f = fits in omega arith;
        joins = λ y. record {
          later = m.later;
          room = let z = low-to in let f = m.few in let r = m.room in omega arith;
          few = let z = low-to in let f = m.few in omega arith;
          many = let z = m.many in let f = m.few in omega arith;
          held = m.held;
        };
      }

      next-is : next ≡ after d this words
      next-is = left-this ∙ ap (afterwards words) (move-made file log rows items table h bytes i low words small m.walk)

      walk-next : Walk file log rows items table h (suc i) next
      walk-next = walk-on file log rows items table h bytes i low words small m.walk answer next told-this left-this v e

      from-here : drop i (setpoints log) ≡ this ∷ drop (suc i) (setpoints log)
      unfolding setpoints
      from-here = drop-cons (setpoints log) i no_setpoint (let z = setpoints-many (move_count log) log in omega arith)
          ∙ ap (λ (x : Setpoint). x ∷ drop (suc i) (setpoints log)) (setpoint-is (move_count log) log i low)

      -- the times of the starts from here on, by whether this move is one
      abbrev later_from : ℕ → List ℕ
      later_from t = times_of (starts_from d row (suc i) t (drop (suc i) (setpoints log)) next)

      times-on : (b : Bool) → is_start row this words next ≡ b → times_of (starts_from d row i w.time (drop i (setpoints log)) words)
          ≡ cond b (w.time ∷ later_from (w.time + ticks this)) (later_from (w.time + ticks this))
      unfolding starts_from
      times-on b y = ap (λ (l : List Setpoint). times_of (starts_from d row i w.time l words)) from-here
          ∙ (ap (λ (l : List ℕ). times_of (cond (is_start row this words l) (record { index = i; time = w.time } ∷ starts_from d row (suc i) (w.time + ticks this) (drop (suc i) (setpoints log)) l)
          (starts_from d row (suc i) (w.time + ticks this) (drop (suc i) (setpoints log)) l))) (sym next-is)
          ∙ (ap (λ (x : Bool). times_of (cond x (record { index = i; time = w.time } ∷ starts_from d row (suc i) (w.time + ticks this) (drop (suc i) (setpoints log)) next)
          (starts_from d row (suc i) (w.time + ticks this) (drop (suc i) (setpoints log)) next))) y ∙ go b))
        where
          go : (x : Bool) → times_of (cond x (record { index = i; time = w.time } ∷ starts_from d row (suc i) (w.time + ticks this) (drop (suc i) (setpoints log)) next)
              (starts_from d row (suc i) (w.time + ticks this) (drop (suc i) (setpoints log)) next))
              ≡ cond x (w.time ∷ times_of (starts_from d row (suc i) (w.time + ticks this) (drop (suc i) (setpoints log)) next)) (times_of (starts_from d row (suc i) (w.time + ticks this) (drop (suc i) (setpoints log)) next))
          go true = refl
          go false = refl

      ticks-is : ticks this ≡ cond (eqb code 2) argument 0
      ticks-is = sym (ap₂ (λ (c a : ℕ). cond (eqb c 2) a 0) code_is argument_is)

      -- a step of the row after which it runs is a start
      module _ (y : runs row code argument next ≡ true) where
        step-code : eqb code 2 ≡ false
        step-code = not-true (eqb code 2) (and_left (not (eqb code 2)) (eqb argument row && eqb (activity next row) 2) y)

        one : code ≡ 1
        one = code_one table rows items file words next code argument stood step-code

        of_row : argument ≡ row
        of_row = eqb-true argument row (and_left (eqb argument row) (eqb (activity next row) 2) (and_right (not (eqb code 2)) (eqb argument row && eqb (activity next row) 2) y))

        running : activity next row ≡ 2
        running = eqb-true (activity next row) 2 (and_right (eqb argument row) (eqb (activity next row) 2) (and_right (not (eqb code 2)) (eqb argument row && eqb (activity next row) 2) y))

        was-ready : activity words row ≡ 1
        was-ready = found-ready table rows items file words next row m.function (sym (ap₂ (table_move table rows items file words) one of_row) ∙ stood) running

        is-start : is_start row this words next ≡ true
        unfolding is_start
        is-start = rw (← code_is, ← argument_is, one, of_row, was-ready, running, eq-eqb row row refl)

        pub count-start : (after : List ℕ) (r : Window) → length after ≡ length gaps → Counted gaps after w r → Counting file log rows items table row (i + 1) next after r
        count-start after r long c = rw (add-one i) (record {
          clean = m.clean;
          few = m.few;
          function = m.function;
          room = long ∙ m.room;
          holds = h;
          walk = walk-next;
          past = m.past ++ (w.time ∷ []);
          rest = m.rest ∙ (ap (λ (l : List ℕ). m.past ++ l) (times-on true is-start) ∙ (sym (append_assoc m.past (w.time ∷ []) (later_from (w.time + ticks this)))
              ∙ ap (λ (t : ℕ). (m.past ++ (w.time ∷ [])) ++ later_from t) (no-time ∙ sym c.entered.still)));
          walked = turned;
          held = λ n. c.entered.held;
          later = let a = c.entered.still in let b = c.entered.now in omega arith;
          low = let a = c.entered.still in let b = m.low in omega arith;
          many = let z = fewer in omega arith;
          latest = i;
          spaced = λ n. record {
            after = omega arith;
            waits = λ z. absurd (let a = c.entered.still in let b = c.entered.now in omega arith);
            ended = λ z. absurd (z running);
            bytes = room-left;
          };
          none = λ z. absurd (let q = c.entered.held.count in omega arith);
        })
          where
            no-time : w.time + ticks this ≡ w.time
            no-time = ap (λ (x : ℕ). w.time + x) (ticks-is ∙ ap (λ (b : Bool). cond b argument 0) step-code) ∙ (let z : w.time + 0 ≡ w.time = omega arith in z)

            turned : Walked (m.past ++ (w.time ∷ [])) r.latest (record { between = in_window after r; best = best_of r })
            turned = subst (λ (t : ℕ). Walked (m.past ++ (w.time ∷ [])) t (record { between = in_window after r; best = best_of r })) (sym c.entered.now)
                (subst (λ (q : List ℕ). Walked (m.past ++ (w.time ∷ [])) w.time (record { between = q; best = best_of r })) (sym c.entered.times)
                (subst (λ (b : Busiest). Walked (m.past ++ (w.time ∷ [])) w.time (record { between = reach w.time (in_window gaps w) ++ (w.time ∷ []); best = b }))
                (sym (c.best ∙ ap (λ (q : List ℕ). better q (best_of w)) c.entered.times))
                (walk_turn m.past w.latest w.time (record { between = in_window gaps w; best = best_of w }) m.later m.walked)))

            fewer : r.starts ≤ suc i
            fewer = let a = starts-many after r.starts r.from r.since in let b = ap length c.entered.times in
                let g = length-append (reach w.time (in_window gaps w)) (w.time ∷ []) in let q = reach_few w.time (in_window gaps w) in
                let s = starts-many gaps w.starts w.from w.since in let k = m.many in omega arith

            room-left : 3 * r.to ≤ 2 * (i + 1)
            room-left = decide (eqb w.starts 0)
                (λ z. let a = eqb-true w.starts 0 z in let b = c.entered.first a in let q = m.none a in omega arith)
                (λ z. let s = m.spaced (eqb-false w.starts 0 z) in
                let q = s.ended (λ x. absurd (let p = was-ready in omega arith)) in let b = s.bytes in
                decide (eqb (w.time - w.latest) 0)
                (λ x. let g : r.to ≤ w.to + 1 = rw x at c.entered.grown in let p = q.0 in omega arith)
                (λ x. let g : r.to ≤ w.to + 2 = rw x at c.entered.grown in let n = eqb-false (w.time - w.latest) 0 x in let p = q.1 (omega arith) in omega arith))

      -- any other move lets its time pass
      module _ (y : runs row code argument next ≡ false) where
        no_start : is_start row this words next ≡ false
        unfolding is_start
        no_start = decide (is_step row this)
            (λ z. let c : code ≡ 1 = code_is ∙ eqb-true this.code 1 (and_left (eqb this.code 1) (eqb this.argument row) z) in
            let a : argument ≡ row = argument_is ∙ eqb-true this.argument row (and_right (eqb this.code 1) (eqb this.argument row) z) in
            let k : (eqb row row && eqb (activity next row) 2) ≡ false = ap₂ (λ (x p : ℕ). not (eqb x 2) && (eqb p row && eqb (activity next row) 2)) (sym c) (sym a) ∙ y in
            rw z (go (eqb (activity words row) 1) (rw (eq-eqb row row refl) at k)))
            (λ z. rw z)
          where
            go : (b : Bool) → eqb (activity next row) 2 ≡ false → (b && eqb (activity next row) 2) ≡ false
            go true k = k
            go false k = refl

        pub count-passed : Counting file log rows items table row (i + 1) next gaps (waited (cond (eqb code 2) argument 0) w)
        count-passed = rw (add-one i) (record {
          clean = m.clean;
          few = m.few;
          function = m.function;
          room = m.room;
          holds = h;
          walk = walk-next;
          past = m.past;
          rest = m.rest ∙ ap (λ (l : List ℕ). m.past ++ l) (times-on false no_start ∙ ap (λ (n : ℕ). later_from (w.time + n)) ticks-is);
          walked = m.walked;
          held = m.held;
          later = let z = m.later in omega arith;
          low = let z = m.low in let q = most-ticks (eqb code 2) in omega arith;
          many = let z = m.many in omega arith;
          latest = m.latest;
          spaced = λ n. let s = m.spaced n in record {
            after = let a = s.after in omega arith;
            waits = λ z. let a = s.after in omega arith;
            ended = λ z. (let a = s.after in omega arith, λ l. still s z l);
            bytes = s.bytes;
          };
          none = m.none;
        })
          where
            most-ticks : (b : Bool) → cond b argument 0 ≤ 65535
            most-ticks true = let f = fits in omega arith
            most-ticks false = omega arith

            still : Spaced i m.latest (activity words row) w.time w.latest w.to → activity next row ≢ 2 → w.latest < w.time + cond (eqb code 2) argument 0 → m.latest + 3 ≤ suc i
            still s z l = decide (eqb code 2)
                (λ x. let c : code ≡ 2 = eqb-true code 2 x in
                let a : activity next row ≡ activity words row = wait-leaves table rows items file words next argument row (sym (ap (λ (k : ℕ). table_move table rows items file words k argument) c) ∙ stood) in
                let p = (s.ended (λ q. z (a ∙ q))).0 in omega arith)
                (λ x. let k : w.latest < w.time + 0 = rw x at l in let p = s.waits (omega arith) in omega arith)

      -- THEOREM: one move more
      pub count-on : (after : List ℕ) (r : Window) → length after ≡ length gaps → Turned row code argument next gaps after w r → Counting file log rows items table row (i + 1) next after r
      count-on after r long t = decide (runs row code argument next)
          (λ y. count-start y after r long (t.counted y))
          (λ y. let p = t.passed y in subst (λ (x : Window). Counting file log rows items table row (i + 1) next after x) (sym p.0)
          (subst (λ (g : List ℕ). Counting file log rows items table row (i + 1) next g (waited (cond (eqb code 2) argument 0) w)) (sym p.1) (count-passed y)))
