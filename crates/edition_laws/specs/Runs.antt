-- A run that is converted without refusal is a run of setpoints, telegram by telegram, and so is what it is converted to.
use Prim.Native.Nat.{ℕ, zero, suc, ◌+◌, ◌*◌, ◌/◌, ◌%◌, ◌≤◌, ◌<◌}
use Rattle.std.proofs.Math.Path.{◌≡◌, refl, sym, ap, ap₂, subst}
use Rattle.std.proofs.Common.{◌∙◌, length-append, take-append-drop, drop_of_length-le, eqb-true, leb-true, le-leb, eq-eqb}
use Rattle.std.specs.Prelude.{Bool, true, false, cond, get_or, leb, eqb}
use mathlib.Core.List.{List, [], ◌∷◌, ◌++◌, append-nil, append_assoc}
use native.Mathlib.Omega.{arith}
use Rattle.std.proofs.Math.Nat.{mul-suc}
use Rattle.std.proofs.Math.ListN.{length, take, drop, length-drop}
use Rattle.std.proofs.Math.Seq.{take_at, drop_at}
use Rattle.effbd.specs.Answers.{Outcome, accepted, refused}
use Rattle.effbd.specs.Records.{are_bytes, word, word_bytes}
use Rattle.effbd.specs.BusEnds.{telegram, is_telegram, number_at, station_at, code_at, argument_at, most_count}
use Rattle.effbd.specs.Logs.{Setpoint}
use Rattle.effbd.specs.Editions.{old_telegram, is_old_telegram, old_fault, new_fault, joined, convert_from, new_of, old_of}
use Rattle.ranges.specs.Tests.{and_left, and_right}
use Rattle.agreement.specs.ByteLaws.{byte_at, bytes_drop, bytes-are, word_fits, two_at, of_two, never, next-inv}
use Rattle.agreement.specs.Telegrams.{telegram-back}

-- a run: what is written for each setpoint, numbered upward, one after another
abbrev pub written : (ℕ → Setpoint → List ℕ) → ℕ → List Setpoint → List ℕ
written enc number [] = []
written enc number (m ∷ ms) = enc number m ++ written enc (suc number) ms

-- "what `telegram` writes one after another"
abbrev pub new_run : (station first : ℕ) → List Setpoint → List ℕ
new_run station first ms = written (λ number m. telegram number station m.code m.argument) first ms

abbrev pub old_run : List Setpoint → List ℕ
old_run ms = written (λ number m. old_telegram m.code m.argument) 0 ms

pub written-length : (size : ℕ) (enc : ℕ → Setpoint → List ℕ) → ((n : ℕ) (m : Setpoint) → length (enc n m) ≡ size) → (number : ℕ) (ms : List Setpoint) → length (written enc number ms) ≡ size * length ms
written-length size enc h number [] = let z : 0 ≡ size * 0 = omega arith in z
written-length size enc h number (m ∷ ms) = length-append (enc number m) (written enc (suc number) ms)
    ∙ (ap₂ (λ (a b : ℕ). a + b) (h number m) (written-length size enc h (suc number) ms) ∙ (let z = mul-suc size (length ms) in let y : size + size * length ms ≡ size * suc (length ms) = omega arith in y))

-- old telegrams have no number
pub old-any : (number other : ℕ) (ms : List Setpoint)
    → written (λ n m. old_telegram m.code m.argument) number ms ≡ written (λ n m. old_telegram m.code m.argument) other ms
old-any number other [] = refl
old-any number other (m ∷ ms) = ap (λ (l : List ℕ). old_telegram m.code m.argument ++ l) (old-any (suc number) (suc other) ms)

pub joined-inv : (bytes : List ℕ) (o : Outcome (List ℕ)) (result : List ℕ) → joined bytes o ≡ accepted result → (later : List ℕ) × (o ≡ accepted later) × (result ≡ bytes ++ later)
joined-inv bytes (accepted later) result e = (later, refl, cc)
joined-inv bytes (refused n v) result e = never e

pub bytes_take : (j : ℕ) (x : List ℕ) → are_bytes x ≡ true → are_bytes (take j x) ≡ true
bytes_take j x h = bytes-are (take j x) (low j x (byte_at x h))
  where
    low : (j : ℕ) (x : List ℕ) → ((i : ℕ) → get_or x i 0 < 256) → (i : ℕ) → get_or (take j x) i 0 < 256
    low zero x h i = omega arith
    low (suc j) [] h i = omega arith
    low (suc j) (y ∷ x) h zero = h 0
    low (suc j) (y ∷ x) h (suc i) = low j x (λ q. h (suc q)) i

-- a telegram with this number that nothing is off at
pub record Fine (fault : ℕ → List ℕ → ℕ) (number : ℕ) : Type 0 where
  pub bytes : List ℕ
  pub are : are_bytes bytes ≡ true
  pub none : fault number bytes ≡ 0

-- both ways: `enc` is read back by `dec`, and converted to `out`
module _ (size : ℕ) (fault : ℕ → List ℕ → ℕ) (made : ℕ → List ℕ → List ℕ) (enc out : ℕ → Setpoint → List ℕ) (dec : List ℕ → Setpoint)
    (sized : (n : ℕ) (m : Setpoint) → length (enc n m) ≡ size) where
  -- a run of setpoints is converted to theirs, if nothing is off
  pub converts : ((n : ℕ) (m : Setpoint) → made n (enc n m) ≡ out n m) → (number index : ℕ) (ms : List Setpoint)
      → ((n : ℕ) (m : Setpoint) → number ≤ n → n < number + length ms → fault n (enc n m) ≡ 0)
      → convert_from size fault made number index (length ms) (written enc number ms) ≡ accepted (written out number ms)
  unfolding convert_from
  converts makes number index [] h = refl
  converts makes number index (m ∷ ms) h =
      let t : take size (enc number m ++ written enc (suc number) ms) ≡ enc number m = take_at (enc number m) (written enc (suc number) ms) size (sized number m) in
      let r : drop size (enc number m ++ written enc (suc number) ms) ≡ written enc (suc number) ms = drop_at (enc number m) (written enc (suc number) ms) size (sized number m) in
      let ih = converts makes (suc number) (suc index) ms (λ n x l k. h n x (omega arith) (omega arith)) in
      let f : fault number (enc number m) ≡ 0 = h number m (omega arith) (omega arith) in
      rw (t, r, f, ih, makes number m)

  -- what is converted is a run of setpoints
  pub record Parts (number : ℕ) (run result : List ℕ) (n : ℕ) : Type 0 where
    pub moves : List Setpoint
    pub many : length moves ≡ n
    pub is-run : run ≡ written enc number moves
    pub is-result : result ≡ written out number moves
    pub each : (i : ℕ) → i < n → Fine fault (number + i)

  nothing_left : (l : List ℕ) → length l ≤ 0 → l ≡ []
  nothing_left [] h = refl
  nothing_left (x ∷ l) h = absurd (omega arith)

  pub parts : ((n : ℕ) (t : List ℕ) → are_bytes t ≡ true → fault n t ≡ 0 → (length t ≡ size) × (t ≡ enc n (dec t)))
      → ((n : ℕ) (m : Setpoint) → made n (enc n m) ≡ out n m)
      → (number index n : ℕ) (run result : List ℕ) → are_bytes run ≡ true → length run ≤ size * n
      → convert_from size fault made number index n run ≡ accepted result → Parts number run result n
  unfolding convert_from
  parts back makes number index zero run result b l e = let z : ◌≡◌ {A = ℕ} (size * 0) 0 = omega arith in record {
    moves = [];
    many = refl;
    is-run = nothing_left run (omega arith);
    is-result = cc;
    each = λ i p. absurd (omega arith);
  }
  parts back makes number index (suc n) run result b l e =
      let t = take size run in
      let w = next-inv (fault number (take size run)) index (joined (made number (take size run)) (convert_from size fault made (suc number) (suc index) n (drop size run))) result e in
      let v = joined-inv (made number (take size run)) (convert_from size fault made (suc number) (suc index) n (drop size run)) result w.1 in
      let k = back number (take size run) (bytes_take size run b) w.0 in
      let short : length (drop size run) ≤ size * n = (let a = length-drop size run in let c = mul-suc size n in omega arith) in
      let ih = parts back makes (suc number) (suc index) n (drop size run) v.0 (bytes_drop size run b) short v.1 in
      record {
        moves = dec (take size run) ∷ ih.moves;
        many = ap suc ih.many;
        is-run = sym (take-append-drop size run) ∙ ap₂ (λ (x y : List ℕ). x ++ y) k.1 ih.is-run;
        is-result = v.2 ∙ ap₂ (λ (x y : List ℕ). x ++ y) (ap (made number) k.1 ∙ makes number (dec (take size run))) ih.is-result;
        each = at_each (record { bytes = take size run; are = bytes_take size run b; none = w.0 }) ih.each;
      }
    where
      at_each : Fine fault number → ((i : ℕ) → i < n → Fine fault (suc number + i)) → (i : ℕ) → i < suc n → Fine fault (number + i)
      at_each p h zero q = subst (Fine fault) (let z : number ≡ number + 0 = omega arith in z) p
      at_each p h (suc i) q = subst (Fine fault) (let z : suc number + i ≡ number + suc i = omega arith in z) (h i (omega arith))

-- the old edition
abbrev pub old_setpoint : List ℕ → Setpoint
old_setpoint t = record { code = word t 4; argument = word t 6 }

abbrev pub new_setpoint : List ℕ → Setpoint
new_setpoint t = record { code = code_at t; argument = argument_at t }

pub old-sized : (code argument : ℕ) → length (old_telegram code argument) ≡ 8
unfolding old_telegram
old-sized code argument = refl

pub new-sized : (number station code argument : ℕ) → length (telegram number station code argument) ≡ 14
unfolding telegram
new-sized number station code argument = refl

pub old-fine : (number code argument : ℕ) → number ≤ most_count → old_fault number (old_telegram code argument) ≡ 0
unfolding old_fault old_telegram
old-fine number code argument l = rw (le-leb number most_count l)

pub old-makes : (station number code argument : ℕ) → new_of station number (old_telegram code argument) ≡ telegram number station code argument
unfolding new_of old_telegram
old-makes station number code argument = rw (of_two code, of_two argument)

pub new-fine : (station number code argument : ℕ) → new_fault station number (telegram number station code argument) ≡ 0
unfolding new_fault
new-fine station number code argument = let h = telegram-back number station code argument in
    rw (h.is_shaped, eq-eqb (number_at (telegram number station code argument)) number h.is_number, eq-eqb (station_at (telegram number station code argument)) station h.is_station)

pub new-makes : (station number code argument : ℕ) → old_of number (telegram number station code argument) ≡ old_telegram code argument
unfolding old_of
new-makes station number code argument = let h = telegram-back number station code argument in ap₂ old_telegram h.is_code h.is_argument

-- no fault: every test of it came out (an old telegram has no station to differ)
fault-none : (a b c : Bool) → ◌≡◌ {A = ℕ} (cond a (cond b (cond c 0 47) 46) 30) 0 → (a ≡ true) × (b ≡ true) × (c ≡ true)
fault-none true true true e = (refl, refl, refl)
fault-none true true false e = absurd (omega arith)
fault-none true false c e = absurd (omega arith)
fault-none false b c e = absurd (omega arith)

pub old-fine-are : (number : ℕ) (t : List ℕ) → old_fault number t ≡ 0 → (is_old_telegram t ≡ true) × (number ≤ most_count)
unfolding old_fault
old-fine-are number t e = let w = fault-none (is_old_telegram t) (leb number most_count) true e in (w.0, leb-true number most_count w.1)

pub old-whole : (number : ℕ) (t : List ℕ) → old_fault number t ≡ 0 → length t ≡ 8
old-whole number t e = eqb-true (length t) 8 (and_left (eqb (length t) 8) _ (old-fine-are number t e).0)

pub record NewFine (station number : ℕ) (t : List ℕ) : Type 0 where
  pub is : is_telegram t ≡ true
  pub number_is : number_at t ≡ number
  pub station-is : station_at t ≡ station

pub new-fine-are : (station number : ℕ) (t : List ℕ) → new_fault station number t ≡ 0 → NewFine station number t
unfolding new_fault
new-fine-are station number t e = let w = fault-none (is_telegram t) (eqb (number_at t) number) (eqb (station_at t) station) e in
    record { is = w.0; number_is = eqb-true (number_at t) number w.1; station-is = eqb-true (station_at t) station w.2 }

pub new-whole : (station number : ℕ) (t : List ℕ) → new_fault station number t ≡ 0 → length t ≡ 14
new-whole station number t e = eqb-true (length t) 14 (and_left (eqb (length t) 14) _ (new-fine-are station number t e).is)

-- what is not off is such a telegram
pub old-back : (number : ℕ) (t : List ℕ) → are_bytes t ≡ true → old_fault number t ≡ 0 → (length t ≡ 8) × (t ≡ old_telegram (word t 4) (word t 6))
unfolding old_telegram
old-back number t b e =
    let s = old-whole number t e in
    let k = and_right (eqb (length t) 8) _ (old-fine-are number t e).0 in
    let l : word t 0 ≡ 8 = eqb-true (word t 0) 8 (and_left (eqb (word t 0) 8) _ k) in
    let q : word t 2 ≡ 47 = eqb-true (word t 2) 47 (and_right (eqb (word t 0) 8) _ k) in
    let end : drop 8 t ≡ [] = drop_of_length-le t {i = 8} (omega arith) in
    let w6 : word_bytes (word t 6) ≡ drop 6 t = sym (append-nil (word_bytes (word t 6))) ∙ (ap (λ (x : List ℕ). word_bytes (word t 6) ++ x) (sym end) ∙ two_at t 6 (omega arith) b) in
    let w4 : word_bytes (word t 4) ++ word_bytes (word t 6) ≡ drop 4 t = ap (λ (x : List ℕ). word_bytes (word t 4) ++ x) w6 ∙ two_at t 4 (omega arith) b in
    let w2 : word_bytes 47 ++ (word_bytes (word t 4) ++ word_bytes (word t 6)) ≡ drop 2 t = ap₂ (λ (n : ℕ) (x : List ℕ). word_bytes n ++ x) (sym q) w4 ∙ two_at t 2 (omega arith) b in
    (s, sym (ap₂ (λ (n : ℕ) (x : List ℕ). word_bytes n ++ x) (sym l) w2 ∙ two_at t 0 (omega arith) b))

pub new-back : (station number : ℕ) (t : List ℕ) → are_bytes t ≡ true → new_fault station number t ≡ 0
    → (length t ≡ 14) × (t ≡ telegram number station (code_at t) (argument_at t))
unfolding telegram
new-back station number t b e =
    let w = new-fine-are station number t e in
    let s = new-whole station number t e in
    let k = and_right (eqb (length t) 14) _ w.is in
    let l : word t 0 ≡ 14 = eqb-true (word t 0) 14 (and_left (eqb (word t 0) 14) _ k) in
    let q : word t 2 ≡ 48 = eqb-true (word t 2) 48 (and_right (eqb (word t 0) 14) _ k) in
    let n : word t 4 + 65536 * word t 6 ≡ number = w.number_is in
    let st : word t 8 ≡ station = w.station-is in
    let f4 = word_fits t b 4 in
    let n4 : number % 65536 ≡ word t 4 = omega arith in
    let n6 : number / 65536 ≡ word t 6 = omega arith in
    let end : drop 14 t ≡ [] = drop_of_length-le t {i = 14} (omega arith) in
    let w12 : word_bytes (word t 12) ≡ drop 12 t = sym (append-nil (word_bytes (word t 12))) ∙ (ap (λ (x : List ℕ). word_bytes (word t 12) ++ x) (sym end) ∙ two_at t 12 (omega arith) b) in
    let w10 : word_bytes (word t 10) ++ word_bytes (word t 12) ≡ drop 10 t = ap (λ (x : List ℕ). word_bytes (word t 10) ++ x) w12 ∙ two_at t 10 (omega arith) b in
    let w8 : word_bytes station ++ (word_bytes (word t 10) ++ word_bytes (word t 12)) ≡ drop 8 t = ap₂ (λ (n : ℕ) (x : List ℕ). word_bytes n ++ x) (sym st) w10 ∙ two_at t 8 (omega arith) b in
    let w6 : word_bytes (number / 65536) ++ (word_bytes station ++ (word_bytes (word t 10) ++ word_bytes (word t 12))) ≡ drop 6 t
    = ap₂ (λ (n : ℕ) (x : List ℕ). word_bytes n ++ x) n6 w8 ∙ two_at t 6 (omega arith) b in
    let w4 : word_bytes (number % 65536) ++ (word_bytes (number / 65536) ++ (word_bytes station ++ (word_bytes (word t 10) ++ word_bytes (word t 12)))) ≡ drop 4 t
    = ap₂ (λ (n : ℕ) (x : List ℕ). word_bytes n ++ x) n4 w6 ∙ two_at t 4 (omega arith) b in
    let w2 : word_bytes 48 ++ (word_bytes (number % 65536) ++ (word_bytes (number / 65536) ++ (word_bytes station ++ (word_bytes (word t 10) ++ word_bytes (word t 12))))) ≡ drop 2 t
    = ap₂ (λ (n : ℕ) (x : List ℕ). word_bytes n ++ x) (sym q) w4 ∙ two_at t 2 (omega arith) b in
    (s, sym (ap₂ (λ (n : ℕ) (x : List ℕ). word_bytes n ++ x) (sym l) w2 ∙ two_at t 0 (omega arith) b))

-- what is done before, in two parts
pub joined-joined : (x y : List ℕ) (o : Outcome (List ℕ)) → joined x (joined y o) ≡ joined (x ++ y) o
joined-joined x y (accepted later) = ap accepted (sym (append_assoc x y later))
joined-joined x y (refused n v) = refl
