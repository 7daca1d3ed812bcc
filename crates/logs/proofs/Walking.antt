-- A walk through a log: its beginning, one move more, a move refused, its end. What a caller is told of a move is said of the table (crate
-- diagram_moves); here it becomes document 02's, since every state of a log passes the check of a state.
use Prim.Native.Nat.{ℕ, suc, ◌<◌}
use mathlib.Core.Path.{◌≡◌, refl, sym, ◌∙◌, ap, ap₂}
use mathlib.Core.Bool.{true}
use mathlib.Core.List.{List, ◌∷◌}
use native.Mathlib.Omega.{arith}
use lib.ListN.{length, get_or, take, drop, drop_of_length-le}
use lib.Seq.{drop-cons}
use Rattle.effbd.specs.Answers.{Outcome, accepted, refused, afterwards, returning_zero}
use Rattle.effbd.specs.Records.{are_bytes}
use Rattle.effbd.specs.Diagrams.{Diagram}
use Rattle.effbd.specs.States.{state_of, fresh_words, state_passes}
use Rattle.effbd.specs.Logs.{Setpoint, setpoint_at, setpoints, move_count, with_index, made, after, state_from, state_after, played_from, played}
use Rattle.diagram_table.specs.Held.{HoldsPlant}
use Rattle.diagram_moves.specs.Changes.{table_move}
use Rattle.diagram_moves.proofs.FunctionMoves.{Small}
use Rattle.diagram_moves.proofs.FileMoves.{log-move-is}
use Rattle.agreement.specs.ByteLaws.{never}
use Rattle.log_laws.specs.LogMoves.{no_setpoint, setpoints-many, setpoint-is, played-turn, played-stop, after_next, LogState, log-states}
use Rattle.logs.specs.Walk.{Walk}

-- what a move of a log is told of its outcome
pub told-made : (i v : ℕ) (words : List ℕ) (o : Outcome (List ℕ)) → accepted v ≡ returning_zero (with_index i o) → o ≡ accepted (afterwards words o)
told-made i v words (accepted a) e = refl
told-made i v words (refused n w) e = never (sym e)

record Off (i n v : ℕ) (o : Outcome (List ℕ)) : Type 0 where
  number : ℕ
  value : ℕ
  is : o ≡ refused number value
  says : ◌≡◌ {A = Outcome (List ℕ)} (refused n v) (refused 42 i)

told-off : (i n v : ℕ) (o : Outcome (List ℕ)) → refused n v ≡ returning_zero (with_index i o) → Off i n v o
told-off i n v (accepted a) e = never e
told-off i n v (refused number value) e = record { number = number; value = value; is = refl; says = cc }

module _ (file log : List ℕ) (rows items : ℕ) (table : List ℕ) (h : HoldsPlant file rows items table) where
  abbrev d : Diagram
  d = h.held.diagram

  abbrev ms : List Setpoint
  ms = setpoints log

  pub walk_begins : (words : List ℕ) → words ≡ fresh_words d → Walk file log rows items table h 0 words
  unfolding state_from
  walk_begins words e = record { is = e; on = ap (played_from d 0 ms) (sym e) }

  many : length ms ≡ move_count log
  unfolding setpoints
  many = setpoints-many (move_count log) log

  this : (i : ℕ) → i < move_count log → get_or ms i no_setpoint ≡ setpoint_at log i
  unfolding setpoints
  this i l = setpoint-is (move_count log) log i l

  rest : (i : ℕ) → i < move_count log → drop i ms ≡ setpoint_at log i ∷ drop (suc i) ms
  rest i l = drop-cons ms i no_setpoint (let z = many in omega arith) ∙ ap (λ (m : Setpoint). m ∷ drop (suc i) ms) (this i l)

  -- the table's move is the log's
  module _ (bytes : are_bytes file ≡ true) (i : ℕ) (low : i < move_count log) (words : List ℕ) (small : Small words) (w : Walk file log rows items table h i words) where
    abbrev outcome : Outcome (List ℕ)
    outcome = table_move table rows items file words (setpoint_at log i).code (setpoint_at log i).argument

    pub move-made : outcome ≡ made d (setpoint_at log i) words
    move-made = log-move-is file words rows items table h bytes small (setpoint_at log i).code (setpoint_at log i).argument
        (ap length w.is ∙ state.long) (ap (λ (l : List ℕ). state_passes d (state_of d l)) w.is ∙ state.passes)
      where
        state : LogState d (state_after d (take i ms))
        state = log-states file d bytes h.held.read (take i ms)

    module _ (answer : Outcome ℕ) (next : List ℕ) (told : answer ≡ returning_zero (with_index i outcome)) (left : next ≡ afterwards words outcome) where
      -- THEOREM: a move that stands takes the walk on
      pub walk-on : (v : ℕ) → answer ≡ accepted v → Walk file log rows items table h (suc i) next
      walk-on v e = record {
        is = left ∙ (ap (afterwards words) move-made ∙ (ap₂ (λ (m : Setpoint) (l : List ℕ). after d m l) (sym (this i low)) w.is ∙ sym (after_next d ms i (let z = many in omega arith))));
        on = w.on ∙ (ap (λ (l : List Setpoint). played_from d i l words) (rest i low) ∙ played-turn d i (setpoint_at log i) (drop (suc i) ms) words next
            (sym move-made ∙ (told-made i v words outcome (sym e ∙ told) ∙ ap accepted (sym left))));
      }

      -- THEOREM: a move that is refused decides the log
      pub walk-stops : (n v : ℕ) → answer ≡ refused n v → played d log ≡ refused n v
      walk-stops n v e = let o = told-off i n v outcome (sym e ∙ told) in
          w.on ∙ (ap (λ (l : List Setpoint). played_from d i l words) (rest i low)
          ∙ (played-stop d i (setpoint_at log i) (drop (suc i) ms) words o.number o.value (sym move-made ∙ o.is) ∙ sym o.says))

  -- THEOREM: behind its last move the log has stood
  pub walk_ends : (words : List ℕ) → Walk file log rows items table h (move_count log) words → played d log ≡ accepted words
  unfolding played_from
  walk_ends words w = w.on ∙ ap (λ (l : List Setpoint). played_from d (move_count log) l words) (drop_of_length-le ms {i = move_count log} (let z = many in omega arith))
