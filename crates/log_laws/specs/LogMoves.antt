-- The states of a log: what an accepted log leads to is a state reached by a list of moves, so it passes the state check and agrees with the net.
use Prim.Native.Nat.{ℕ, zero, suc, ◌+◌, ◌*◌, ◌<◌}
use Rattle.std.specs.Prelude.{◌≡◌, true, get_or, take, drop}
use Rattle.std.proofs.Math.Path.{refl, sym, ap}
use Rattle.std.proofs.Common.{◌∙◌, ap₂, subst, take-suc, get_or-drop}
use mathlib.Core.List.{List, [], ◌∷◌, ◌++◌, map}
use native.Mathlib.Omega.{arith}
use Rattle.std.proofs.Math.ListN.{length}
use Rattle.effbd.specs.Answers.{Outcome, accepted, refused, afterwards, and_then}
use Rattle.effbd.specs.Records.{are_bytes}
use Rattle.effbd.specs.Diagrams.{Diagram}
use Rattle.effbd.specs.Nesting.{read_diagram}
use Rattle.effbd.specs.Layout.{places}
use Rattle.effbd.specs.States.{fresh_words, state_of, state_passes}
use Rattle.effbd.specs.Moves.{Move, move_of, move_words}
use Rattle.effbd.specs.Logs.{Setpoint, setpoint_at, setpoints_at, made, after, state_from, state_after, with_index, played_from}
use Rattle.agreement.specs.Named.{moves_from}
use Rattle.agreement.specs.ByteLaws.{never, bind_inv}
use Rattle.agreement.specs.Theorems.{reached, AgreeAt}
use Rattle.agreement.proofs.Theorems.{agreement, reached-passes}

-- what stands past a log's end
abbrev pub no_setpoint : Setpoint
no_setpoint = record { code = 0; argument = 0 }

abbrev pub move_in : Setpoint → Move
move_in m = move_of m.code m.argument

pub setpoints-many : (n : ℕ) (bytes : List ℕ) → length (setpoints_at n bytes) ≡ n
unfolding setpoints_at
setpoints-many zero bytes = refl
setpoints-many (suc n) bytes = ap suc (setpoints-many n (drop 4 bytes))

-- number i of a log's setpoints, as its bytes say
pub setpoint-is : (n : ℕ) (bytes : List ℕ) (i : ℕ) → i < n → get_or (setpoints_at n bytes) i no_setpoint ≡ setpoint_at bytes i
unfolding setpoints_at
setpoint-is zero bytes i l = absurd (omega arith)
setpoint-is (suc n) bytes zero l = refl
setpoint-is (suc n) bytes (suc i) l = setpoint-is n (drop 4 bytes) i (omega arith) ∙ later
  where
    byte : (j k : ℕ) → 4 + j ≡ k → get_or (drop 4 bytes) j 0 ≡ get_or bytes k 0
    byte j k e = get_or-drop 4 bytes j 0 ∙ ap (λ n. get_or bytes n 0) e

    later : setpoint_at (drop 4 bytes) i ≡ setpoint_at bytes (suc i)
    later = ap₂ (λ (c a : ℕ). record { code = c; argument = a })
        (ap₂ (λ (x y : ℕ). x + 256 * y) (byte (4 * i) (4 * suc i) (omega arith)) (byte (suc (4 * i)) (suc (4 * suc i)) (omega arith)))
        (ap₂ (λ (x y : ℕ). x + 256 * y) (byte (4 * i + 2) (4 * suc i + 2) (omega arith)) (byte (suc (4 * i + 2)) (suc (4 * suc i + 2)) (omega arith)))

module _ (d : Diagram) where
  pub from_is : (ms : List Setpoint) (words : List ℕ) → state_from d ms words ≡ moves_from (move_words d) (map move_in ms) words
  unfolding state_from made
  from_is [] words = refl
  from_is (m ∷ ms) words = from_is ms (after d m words)

  -- a log of moves leads to a state reached by a list of moves
  pub after-reached : (ms : List Setpoint) → state_after d ms ≡ reached d (map move_in ms)
  after-reached ms = from_is ms (fresh_words d)

  pub from-append : (xs ys : List Setpoint) (words : List ℕ) → state_from d (xs ++ ys) words ≡ state_from d ys (state_from d xs words)
  unfolding state_from
  from-append [] ys words = refl
  from-append (x ∷ xs) ys words = from-append xs ys (after d x words)

  -- what an accepted log ends in
  first_made : (i : ℕ) (o : Outcome (List ℕ)) (words next : List ℕ) → with_index i o ≡ accepted next → afterwards words o ≡ next
  first_made i (accepted s) words next e = cc
  first_made i (refused n v) words next e = never e

  pub played-is : (i : ℕ) (ms : List Setpoint) (words last : List ℕ) → played_from d i ms words ≡ accepted last → last ≡ state_from d ms words
  unfolding played_from state_from
  played-is i [] words last e = cc
  played-is i (m ∷ ms) words last e =
      let w = bind_inv (with_index i (made d m words)) (played_from d (suc i) ms) last e in
      played-is (suc i) ms w.0 last w.2 ∙ ap (state_from d ms) (sym (first_made i (made d m words) words w.0 w.1))

  -- a log played in two parts
  index-then : {A B : Type 0} (i : ℕ) (o : Outcome A) (f g : A → Outcome B) → ((a : A) → f a ≡ g a) → and_then (with_index i o) f ≡ and_then (with_index i o) g
  index-then i (accepted a) f g h = h a
  index-then i (refused n v) f g h = refl

  then-then : {A B C : Type 0} (o : Outcome A) (f : A → Outcome B) (g : B → Outcome C) → and_then (and_then o f) g ≡ and_then o (λ a. and_then (f a) g)
  then-then (accepted a) f g = refl
  then-then (refused n v) f g = refl

  pub played-append : (i : ℕ) (xs ys : List Setpoint) (words : List ℕ)
      → played_from d i (xs ++ ys) words ≡ and_then (played_from d i xs words) (played_from d (i + length xs) ys)
  unfolding played_from
  played-append i [] ys words = ap (λ n. played_from d n ys words) (let z : i ≡ i + 0 = omega arith in z)
  played-append i (x ∷ xs) ys words =
      index-then i (made d x words) _ _ (λ next. played-append (suc i) xs ys next
      ∙ ap (λ n. and_then (played_from d (suc i) xs next) (played_from d n ys)) (let z : suc i + length xs ≡ i + suc (length xs) = omega arith in z))
      ∙ sym (then-then (with_index i (made d x words)) (played_from d (suc i) xs) (played_from d (i + suc (length xs)) ys))

  -- one turn of a loop over the log: on with the new words, or turned away with the index
  pub played-turn : (i : ℕ) (m : Setpoint) (ms : List Setpoint) (words next : List ℕ) → made d m words ≡ accepted next → played_from d i (m ∷ ms) words ≡ played_from d (suc i) ms next
  unfolding played_from
  played-turn i m ms words next e = ap (λ (o : Outcome (List ℕ)). and_then (with_index i o) (played_from d (suc i) ms)) e

  pub played-stop : (i : ℕ) (m : Setpoint) (ms : List Setpoint) (words : List ℕ) (n v : ℕ) → made d m words ≡ refused n v → played_from d i (m ∷ ms) words ≡ refused 42 i
  unfolding played_from
  played-stop i m ms words n v e = ap (λ (o : Outcome (List ℕ)). and_then (with_index i o) (played_from d (suc i) ms)) e

  -- the state after one move more
  pub after_next : (ms : List Setpoint) (k : ℕ) → k < length ms → state_after d (take (suc k) ms) ≡ after d (get_or ms k no_setpoint) (state_after d (take k ms))
  unfolding state_from
  after_next ms k l = ap (λ (x : List Setpoint). state_from d x (fresh_words d)) (take-suc ms k no_setpoint l) ∙ from-append (take k ms) (get_or ms k no_setpoint ∷ []) (fresh_words d)

-- THEOREM: every state in an accepted log, after whatever number of its moves, is one reached by a list of moves: so it passes 20
pub record LogState (d : Diagram) (words : List ℕ) : Type 0 where
  pub moves : List Move
  pub is-reached : words ≡ reached d moves
  pub long : length words ≡ places d
  pub passes : state_passes d (state_of d words) ≡ true

pub log-states : (file : List ℕ) (d : Diagram) → are_bytes file ≡ true → read_diagram file ≡ accepted d → (ms : List Setpoint) → LogState d (state_after d ms)
log-states file d b e ms = let q = after-reached d ms in let p = reached-passes file d b e (map move_in ms) in record {
  moves = map move_in ms;
  is-reached = q;
  long = ap length q ∙ p.0;
  passes = ap (λ (w : List ℕ). state_passes d (state_of d w)) q ∙ p.1;
}

-- THEOREM: and both steppers agree there
pub log-agrees : (file : List ℕ) (d : Diagram) → are_bytes file ≡ true → read_diagram file ≡ accepted d → (ms : List Setpoint) → AgreeAt file d (state_after d ms)
log-agrees file d b e ms = subst (AgreeAt file d) (sym (after-reached d ms)) (agreement file d b e (map move_in ms))
