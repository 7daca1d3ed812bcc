-- Up then down yields the old bytes, down then up the new ones; downward is refused exactly where nothing gives the run back.
use Rattle.std.specs.Prelude.{ℕ, zero, suc, ◌+◌, ◌*◌, ◌/◌, ◌%◌, ◌≤◌, ◌<◌, ◌≡◌, true, List, [], ◌∷◌, ◌++◌, length, take, drop, ltb}
use Rattle.std.proofs.Math.Path.{refl}
use Rattle.std.proofs.Common.{sym, ◌∙◌, ap, ap₂, arith, lt-ltb}
use Rattle.effbd.specs.Answers.{accepted, refused}
use Rattle.effbd.specs.Records.{are_bytes}
use Rattle.effbd.specs.BusEnds.{telegram, number_at, station_at, code_at, argument_at, most_count}
use Rattle.effbd.specs.Logs.{Setpoint}
use Rattle.effbd.specs.Editions.{joined, convert_from, old_telegram, old_fault, new_fault, new_of, old_of, upward, downward}
use Rattle.ranges.specs.Tests.{and_left, and_right, and_intro}
use Rattle.agreement.specs.ByteLaws.{bytes_drop, never, next-inv, word_fits}
use Rattle.agreement.specs.Telegrams.{telegram-back}
use Rattle.edition_laws.specs.Runs.{joined-inv, bytes_take, Fine, new_run, old_run, written-length, old-any, converts, parts, old_setpoint, new_setpoint, old-sized, new-sized, old-fine, old-makes, new-fine, new-makes, old-back, new-back, old-fine-are, new-fine-are}
use Rattle.edition_laws.specs.RoundTrips.{Numbered, UpParts, DownParts, GivenBack}

abbrev old_enc : ℕ → Setpoint → List ℕ
old_enc number m = old_telegram m.code m.argument

abbrev new_enc : ℕ → ℕ → Setpoint → List ℕ
new_enc station number m = telegram number station m.code m.argument

pub old-length : (ms : List Setpoint) → length (old_run ms) ≡ 8 * length ms
old-length ms = written-length 8 old_enc (λ n m. old-sized m.code m.argument) 0 ms

pub new-length : (station first : ℕ) (ms : List Setpoint) → length (new_run station first ms) ≡ 14 * length ms
new-length station first ms = written-length 14 (new_enc station) (λ n m. new-sized n station m.code m.argument) first ms

-- upward, a run of old telegrams becomes the run that `telegram` writes
pub up_run : (station first : ℕ) (ms : List Setpoint) → Numbered first (length ms) → upward (old_run ms) station first ≡ accepted (new_run station first ms)
unfolding upward
up_run station first ms h =
    ap₂ (λ (n : ℕ) (l : List ℕ). convert_from 8 old_fault (new_of station) first 0 n l)
    (let z = old-length ms in let y : (length (old_run ms) + 7) / 8 ≡ length ms = omega arith in y) (old-any 0 first ms)
    ∙ converts 8 old_fault (new_of station) old_enc (new_enc station) old_setpoint (λ n m. old-sized m.code m.argument)
    (λ n m. old-makes station n m.code m.argument) first 0 ms (λ n m l k. old-fine n m.code m.argument (omega arith))

-- the first of a run says its station and number
pub run-station : (station first : ℕ) (m : Setpoint) (ms : List Setpoint) → (station_at (new_run station first (m ∷ ms)) ≡ station) × (number_at (new_run station first (m ∷ ms)) ≡ first)
unfolding telegram
run-station station first m ms = let h = telegram-back first station m.code m.argument in (unfold telegram in h.is_station, unfold telegram in h.is_number)

-- downward, what `telegram` writes one after another becomes the run of old telegrams
down-at : (station first s n : ℕ) (ms : List Setpoint) → s ≡ station → n ≡ first
    → convert_from 14 (new_fault s) old_of n 0 ((length (new_run station first ms) + 13) / 14) (new_run station first ms) ≡ accepted (old_run ms)
down-at station first s n ms p q =
    ap₂ (λ (x y : ℕ). convert_from 14 (new_fault x) old_of y 0 ((length (new_run station first ms) + 13) / 14) (new_run station first ms)) p q
    ∙ (ap (λ x. convert_from 14 (new_fault station) old_of first 0 x (new_run station first ms))
    (let z = new-length station first ms in let y : (length (new_run station first ms) + 13) / 14 ≡ length ms = omega arith in y)
    ∙ (converts 14 (new_fault station) old_of (new_enc station) old_enc new_setpoint (λ n m. new-sized n station m.code m.argument)
    (λ n m. new-makes station n m.code m.argument) first 0 ms (λ n m l k. new-fine station n m.code m.argument)
    ∙ ap accepted (old-any first 0 ms)))

-- THEOREM: what `telegram` writes one after another is allowed downward
pub down_run : (station first : ℕ) (ms : List Setpoint) → downward (new_run station first ms) ≡ accepted (old_run ms)
unfolding downward
down_run station first [] = unfold convert_from in refl
down_run station first (m ∷ ms) = let w = run-station station first m ms in
    down-at station first (station_at (new_run station first (m ∷ ms))) (number_at (new_run station first (m ∷ ms))) (m ∷ ms) w.0 w.1

-- a number that stands in bytes is one of 32 bits
number-counted : (number : ℕ) (t : List ℕ) → are_bytes t ≡ true → number_at t ≡ number → number ≤ most_count
number-counted number t a e = let x = word_fits t a 4 in let y = word_fits t a 6 in omega arith

-- no telegram's number is past the last: so few there are
few : (fault : ℕ → List ℕ → ℕ) → ((n : ℕ) (t : List ℕ) → are_bytes t ≡ true → fault n t ≡ 0 → n ≤ most_count) → (first : ℕ) → first ≤ most_count
    → (n : ℕ) (ms : List Setpoint) → length ms ≡ n → ((i : ℕ) → i < n → Fine fault (first + i)) → Numbered first (length ms)
few fault counted first f zero ms q h = omega arith
few fault counted first f (suc n) ms q h = let t = h n (omega arith) in let k = counted (first + n) t.bytes t.are t.none in omega arith

pub up-parts : (old : List ℕ) (station first : ℕ) (new : List ℕ) → are_bytes old ≡ true → first ≤ most_count → upward old station first ≡ accepted new → UpParts old station first new
unfolding upward
up-parts old station first new b f e =
    let p = parts 8 old_fault (new_of station) old_enc (new_enc station) old_setpoint (λ n m. old-sized m.code m.argument)
    (λ n t. old-back n t) (λ n m. old-makes station n m.code m.argument) first 0 ((length old + 7) / 8) old new b (omega arith) e in
    record {
      moves = p.moves;
      is-old = p.is-run ∙ old-any first 0 p.moves;
      is-new = p.is-result;
      numbered = few old_fault (λ n t a z. (old-fine-are n t z).1) first f ((length old + 7) / 8) p.moves p.many p.each;
    }

pub down-parts : (run old : List ℕ) → are_bytes run ≡ true → downward run ≡ accepted old → DownParts run old
unfolding downward
down-parts run old b e =
    let p = parts 14 (new_fault (station_at run)) old_of (new_enc (station_at run)) old_enc new_setpoint (λ n m. new-sized n (station_at run) m.code m.argument)
    (λ n t. new-back (station_at run) n t) (λ n m. new-makes (station_at run) n m.code m.argument) (number_at run) 0 ((length run + 13) / 14) run old b (omega arith) e in
    record {
      moves = p.moves;
      is-old = p.is-result ∙ old-any (number_at run) 0 p.moves;
      is-new = p.is-run;
      numbered = few (new_fault (station_at run)) (λ n t a z. number-counted n t a (new-fine-are (station_at run) n t z).number_is) (number_at run)
          (number-counted (number_at run) run b refl) ((length run + 13) / 14) p.moves p.many p.each;
    }

-- THEOREM: "Up then down yields the old bytes"
pub up-then-down : (old : List ℕ) (station first : ℕ) (new : List ℕ) → are_bytes old ≡ true → first ≤ most_count
    → upward old station first ≡ accepted new → downward new ≡ accepted old
up-then-down old station first new b f e = let p = up-parts old station first new b f e in
    ap downward p.is-new ∙ (down_run station first p.moves ∙ ap accepted (sym p.is-old))

-- and gives station and first number back, where there is a telegram
pub given_back : (old : List ℕ) (station first : ℕ) (new : List ℕ) → are_bytes old ≡ true → first ≤ most_count
    → upward old station first ≡ accepted new → 0 < length old → (station_at new ≡ station) × (number_at new ≡ first)
given_back old station first new b f e l = let p = up-parts old station first new b f e in go p.moves p.is-old p.is-new
  where
    go : (ms : List Setpoint) → old ≡ old_run ms → new ≡ new_run station first ms → (station_at new ≡ station) × (number_at new ≡ first)
    go [] q r = absurd (let z = ap length q in omega arith)
    go (m ∷ ms) q r = let w = run-station station first m ms in (ap station_at r ∙ w.0, ap number_at r ∙ w.1)

-- THEOREM: "down then up, with that station and first number, the new ones"
pub down-then-up : (run old : List ℕ) → are_bytes run ≡ true → downward run ≡ accepted old → upward old (station_at run) (number_at run) ≡ accepted run
down-then-up run old b e = let p = down-parts run old b e in
    ap (λ (l : List ℕ). upward l (station_at run) (number_at run)) p.is-old
    ∙ (up_run (station_at run) (number_at run) p.moves p.numbered ∙ ap accepted (sym p.is-new))

-- THEOREM: "Downward .. is allowed only where station and first number give all of them back": it is refused exactly where none do
pub refused-then : (run : List ℕ) (number value : ℕ) → downward run ≡ refused number value → GivenBack run → ⊥
refused-then run number value e g = never (sym e ∙ up-then-down g.old g.station g.first run g.bytes g.counted g.gives)

-- what is written is bytes
bytes-append : (x y : List ℕ) → are_bytes x ≡ true → are_bytes y ≡ true → are_bytes (x ++ y) ≡ true
unfolding are_bytes
bytes-append [] y p q = q
bytes-append (a ∷ x) y p q = and_intro (and_left (ltb a 256) (are_bytes x) p) (bytes-append x y (and_right (ltb a 256) (are_bytes x) p) q)

old-telegram-bytes : (c a : ℕ) → c ≤ 65535 → a ≤ 65535 → are_bytes (old_telegram c a) ≡ true
unfolding are_bytes old_telegram
old-telegram-bytes c a l k = rw (lt-ltb (c % 256) 256 (omega arith), lt-ltb (c / 256) 256 (omega arith), lt-ltb (a % 256) 256 (omega arith), lt-ltb (a / 256) 256 (omega arith))

old-of-bytes : (n : ℕ) (t : List ℕ) → are_bytes t ≡ true → are_bytes (old_of n t) ≡ true
unfolding old_of
old-of-bytes n t b = old-telegram-bytes (code_at t) (argument_at t) (word_fits t b 10) (word_fits t b 12)

down-bytes : (station number index n : ℕ) (run old : List ℕ) → are_bytes run ≡ true → convert_from 14 (new_fault station) old_of number index n run ≡ accepted old → are_bytes old ≡ true
unfolding convert_from are_bytes
down-bytes station number index zero run old b e = ap are_bytes (let z : old ≡ [] = cc in z)
down-bytes station number index (suc n) run old b e =
    let w = next-inv (new_fault station number (take 14 run)) index (joined (old_of number (take 14 run)) (convert_from 14 (new_fault station) old_of (suc number) (suc index) n (drop 14 run))) old e in
    let v = joined-inv (old_of number (take 14 run)) (convert_from 14 (new_fault station) old_of (suc number) (suc index) n (drop 14 run)) old w.1 in
    ap are_bytes v.2 ∙ bytes-append (old_of number (take 14 run)) v.0 (old-of-bytes number (take 14 run) (bytes_take 14 run b))
    (down-bytes station (suc number) (suc index) n (drop 14 run) v.0 (bytes_drop 14 run b) v.1)

pub accepted-then : (run old : List ℕ) → are_bytes run ≡ true → downward run ≡ accepted old → GivenBack run
accepted-then run old b e = let x = word_fits run b 4 in let y = word_fits run b 6 in record {
  old = old;
  station = station_at run;
  first = number_at run;
  bytes = down-bytes (station_at run) (number_at run) 0 ((length run + 13) / 14) run old b (unfold downward in e);
  counted = omega arith;
  gives = down-then-up run old b e;
}
