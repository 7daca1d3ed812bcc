-- The telegrams of a leader's accepted offers, one after another, go down and up unharmed: all of them, and any stretch of them.
use Rattle.std.specs.Prelude.{ℕ, zero, suc, ◌+◌, ◌≤◌, ◌<◌, ◌≡◌, refl, Bool, true, false, cond, length, take, drop, leb, ltb}
use Rattle.std.proofs.Common.{sym, ◌∙◌, ap, ap₂, length-append, length-take, length-drop, take_at, ltb-true}
use mathlib.Core.List.{List, [], ◌∷◌, ◌++◌}
use native.Mathlib.Omega.{arith}
use Rattle.effbd.specs.Answers.{Outcome, accepted, refused}
use Rattle.effbd.specs.Diagrams.{Diagram}
use Rattle.effbd.specs.BusEnds.{telegram, number_at, station_at, most_count, offered, offered_as, turned_away, telegram_length}
use Rattle.effbd.specs.Moves.{step_diagram}
use Rattle.effbd.specs.History.{Call, offer, hand, Ends, fresh_ends, after_offer, run, run_all, ends_of, net_file_of}
use Rattle.effbd.specs.Logs.{Setpoint}
use Rattle.effbd.specs.Editions.{upward}
use Rattle.edition_laws.specs.Runs.{new_run, old_run, new-sized}
use Rattle.edition_laws.proofs.RoundTrips.{up_run, down_run, run-station}
use Rattle.edition_laws.specs.Offers.{telegrams_of, in_row, Sent, Unharmed}

row-is-run : (station number : ℕ) (ms : List Setpoint) → in_row (telegrams_of station number ms) ≡ new_run station number ms
row-is-run station number [] = refl
row-is-run station number (m ∷ ms) = ap (λ (l : List ℕ). telegram number station m.code m.argument ++ l) (row-is-run station (suc number) ms)

one_more : (station number : ℕ) (ms : List Setpoint) (m : Setpoint)
    → telegrams_of station number (ms ++ (m ∷ [])) ≡ telegrams_of station number ms ++ (telegram (number + length ms) station m.code m.argument ∷ [])
one_more station number [] m = ap (λ n. telegram n station m.code m.argument ∷ []) (let z : number ≡ number + 0 = omega arith in z)
one_more station number (x ∷ ms) m = ap (λ (l : List (List ℕ)). telegram number station x.code x.argument ∷ l)
    (one_more station (suc number) ms m
    ∙ ap (λ n. telegrams_of station (suc number) ms ++ (telegram n station m.code m.argument ∷ [])) (let z : suc number + length ms ≡ number + suc (length ms) = omega arith in z))

many-of : (station number : ℕ) (ms : List Setpoint) → length (telegrams_of station number ms) ≡ length ms
many-of station number [] = refl
many-of station number (m ∷ ms) = ap suc (many-of station (suc number) ms)

drop_of : (station i number : ℕ) (ms : List Setpoint) → drop i (telegrams_of station number ms) ≡ telegrams_of station (number + i) (drop i ms)
drop_of station zero number ms = ap (λ n. telegrams_of station n ms) (let z : number ≡ number + 0 = omega arith in z)
drop_of station (suc i) number [] = refl
drop_of station (suc i) number (m ∷ ms) = drop_of station i (suc number) ms ∙ ap (λ n. telegrams_of station n (drop i ms)) (let z : suc number + i ≡ number + suc i = omega arith in z)

take-of : (station j number : ℕ) (ms : List Setpoint) → take j (telegrams_of station number ms) ≡ telegrams_of station number (take j ms)
take-of station zero number ms = refl
take-of station (suc j) number [] = refl
take-of station (suc j) number (m ∷ ms) = ap (λ (l : List (List ℕ)). telegram number station m.code m.argument ∷ l) (take-of station j (suc number) ms)

module _ (file net : List ℕ) (station : ℕ) where
  after-offer : (e : Ends) (code argument : ℕ) (area : List ℕ) → Sent station e → (o : Outcome (List ℕ))
      → Sent station (after_offer file net station e (offered_as e.leader e.count station code argument area o))
  after-offer e code argument area v (refused n w) = record { moves = v.moves; are = v.are; count = v.count; counted = v.counted }
  after-offer e code argument area v (accepted next) = by (ltb e.count most_count) (leb telegram_length (length area)) (ltb-true e.count most_count)
    where
      kept : (n w : ℕ) → Sent station (after_offer file net station e (turned_away e.leader area n w))
      kept n w = record { moves = v.moves; are = v.are; count = v.count; counted = v.counted }

      m : Setpoint
      m = record { code = code; argument = argument }

      sent : take telegram_length (telegram (suc e.count) station code argument ++ drop telegram_length area) ≡ telegram (1 + length v.moves) station code argument
      sent = take_at (telegram (suc e.count) station code argument) (drop telegram_length area) telegram_length (new-sized (suc e.count) station code argument)
          ∙ ap (λ n. telegram n station code argument) (let c = v.count in let z : suc e.count ≡ 1 + length v.moves = omega arith in z)

      by : (x y : Bool) → (x ≡ true → e.count < most_count)
          → Sent station (after_offer file net station e (cond x (cond y
          (record { answer = accepted (suc e.count); state = next; area = telegram (suc e.count) station code argument ++ drop telegram_length area })
          (turned_away e.leader area 10 telegram_length)) (turned_away e.leader area 27 e.count)))
      by false y h = kept 27 e.count
      by true false h = kept 10 telegram_length
      by true true h = let l = h refl in record {
        moves = v.moves ++ (m ∷ []);
        are = ap₂ (λ (x : List (List ℕ)) (t : List ℕ). x ++ (t ∷ [])) v.are sent ∙ sym (one_more station 1 v.moves m);
        count = length-append v.moves (m ∷ []) ∙ (let c = v.count in let z : length v.moves + 1 ≡ suc e.count = omega arith in z);
        counted = omega arith;
      }

  -- one call
  after_call : (e : Ends) (x : Call) → Sent station e → Sent station (run file net station e x)
  unfolding run offered
  after_call e (offer code argument area) v = after-offer e code argument area v (step_diagram file code argument e.leader)
  after_call e (hand bytes) v = record { moves = v.moves; are = v.are; count = v.count; counted = v.counted }

  -- all calls
  pub after-calls : (e : Ends) (xs : List Call) → Sent station e → Sent station (run_all file net station e xs)
  unfolding run_all
  after-calls e [] v = v
  after-calls e (x ∷ xs) v = after-calls (run file net station e x) xs (after_call e x v)

unharmed : (station number : ℕ) (ms : List Setpoint) → number + length ms ≤ 4294967296 → Unharmed station number (new_run station number ms)
unharmed station number ms h = record { old = old_run ms; down = down_run station number ms; up = up-again ms h; told = told-by ms }
  where
    up-again : (ms : List Setpoint) → number + length ms ≤ 4294967296
        → upward (old_run ms) (station_at (new_run station number ms)) (number_at (new_run station number ms)) ≡ accepted (new_run station number ms)
    up-again [] h = up_run 0 0 [] (omega arith)
    up-again (m ∷ ms) h = let w = run-station station number m ms in
        ap₂ (λ (x y : ℕ). upward (old_run (m ∷ ms)) x y) w.0 w.1 ∙ up_run station number (m ∷ ms) h

    told-by : (ms : List Setpoint) → 0 < length (new_run station number ms) → (station_at (new_run station number ms) ≡ station) × (number_at (new_run station number ms) ≡ number)
    told-by [] l = absurd (omega arith)
    told-by (m ∷ ms) l = run-station station number m ms

-- THEOREM: after any list of calls, any stretch of the telegrams of the accepted offers is unharmed
pub offers-unharmed : (file : List ℕ) (d : Diagram) (station : ℕ) (calls : List Call) (i j : ℕ) → i ≤ length (ends_of file d station calls).wrote
    → Unharmed station (suc i) (in_row (take j (drop i (ends_of file d station calls).wrote)))
offers-unharmed file d station calls i j l = rw is-run (unharmed station (suc i) stretch small)
  where
    sent : Sent station (ends_of file d station calls)
    sent = after-calls file (net_file_of d) station (fresh_ends d) calls (unfold fresh_ends in record { moves = []; are = refl; count = refl; counted = omega arith })

    stretch : List Setpoint
    stretch = take j (drop i sent.moves)

    is-run : in_row (take j (drop i (ends_of file d station calls).wrote)) ≡ new_run station (suc i) stretch
    is-run = ap (λ (x : List (List ℕ)). in_row (take j (drop i x))) sent.are
        ∙ (ap (λ (x : List (List ℕ)). in_row (take j x)) (drop_of station i 1 sent.moves ∙ ap (λ n. telegrams_of station n (drop i sent.moves)) (let z : 1 + i ≡ suc i = omega arith in z))
        ∙ (ap in_row (take-of station j (suc i) (drop i sent.moves)) ∙ row-is-run station (suc i) stretch))

    small : suc i + length stretch ≤ 4294967296
    small = let a = sent.count in let b = sent.counted in let c = ap length sent.are ∙ many-of station 1 sent.moves in
        let x = length-take j (drop i sent.moves) in let y = length-drop i sent.moves in omega arith
