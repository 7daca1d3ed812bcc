-- The two calls, one after the other: what the one wrote, handed to the other with the station and the first number, gives the bytes back.
-- Of a run whose bytes 32 bits can count: the value returned is then below 4,294,967,295.
use Rattle.std.specs.Prelude.{ℕ, ◌≤◌, ◌<◌, ◌≡◌, refl, Bool, true, false, cond, List, ◌++◌, length, take, drop, leb}
use Rattle.std.proofs.Common.{sym, ◌∙◌, ap, ap₂, arith, take_at, le-leb}
use Rattle.effbd.specs.Answers.{Outcome, accepted, refused, unless, and_then}
use Rattle.effbd.specs.Records.{are_bytes}
use Rattle.effbd.specs.BusEnds.{most_count}
use Rattle.effbd.specs.Editions.{upward, downward, fitting, stopping, Upped, upped_as, telegrams_up, Downed, downed_as, telegrams_down}
use Rattle.agreement.specs.ByteLaws.{never}
use Rattle.edition_laws.proofs.RoundTrips.{up-then-down, given_back, down-then-up}

-- a value below the largest is the number itself
pub below : (m n : ℕ) → stopping m ≡ n → n < most_count → m ≡ n
below m n e l = omega arith

-- what an area is found to hold that has room
module _ (area bytes : List ℕ) (room : length bytes ≤ length area) where
  pub fits : fitting area bytes ≡ accepted bytes
  fits = ap (λ (x : Bool). unless (cond x 0 10) (length bytes) (accepted bytes)) (le-leb (length bytes) (length area) room)

-- what was accepted and written, by the bytes that the conversion gave: of a call that tells an outcome by its answer and its area
module _ (Told : Type 0) (answer : Told → Outcome ℕ) (area : Told → List ℕ) (told : Outcome (List ℕ) → Told) (lent : List ℕ)
    (tells : (b : List ℕ) → answer (told (accepted b)) ≡ accepted (stopping (length b)))
    (turned : (n v : ℕ) → answer (told (refused n v)) ≡ refused n (stopping v))
    (lies : (b : List ℕ) → area (told (accepted b)) ≡ b ++ drop (length b) lent) where
  pub record Wrote (o : Outcome (List ℕ)) (n : ℕ) : Type 0 where
    pub bytes : List ℕ
    pub are : o ≡ accepted bytes
    pub fit : and_then o (fitting lent) ≡ accepted bytes
    pub lie : take n (area (told (and_then o (fitting lent)))) ≡ bytes

  pub wrote : (o : Outcome (List ℕ)) (n : ℕ) → answer (told (and_then o (fitting lent))) ≡ accepted n → n < most_count → Wrote o n
  wrote (refused m v) n e l = never (sym (turned m v) ∙ e)
  wrote (accepted b) n e l = let w = go (leb (length b) (length lent)) e in record { bytes = b; are = refl; fit = w.0; lie = w.1 }
    where
      go : (x : Bool) → answer (told (unless (cond x 0 10) (length b) (accepted b))) ≡ accepted n
          → (unless (cond x 0 10) (length b) (accepted b) ≡ accepted b) × (take n (area (told (unless (cond x 0 10) (length b) (accepted b)))) ≡ b)
      go true q = let z : accepted (stopping (length b)) ≡ accepted n = sym (tells b) ∙ q in let y : stopping (length b) ≡ n = cc in
          (refl, ap (take n) (lies b) ∙ take_at b (drop (length b) lent) n (below (length b) n y l))
      go false q = never (sym (turned 10 (length b)) ∙ q)

-- THEOREM: what the call upward wrote, handed to the call downward, gives the old bytes, the station and the first number
pub up-down-calls : (old : List ℕ) (station first : ℕ) (area : List ℕ) (n : ℕ) → are_bytes old ≡ true → first ≤ most_count → 0 < length old
    → (telegrams_up old station first area).answer ≡ accepted n → n < most_count
    → (lent : List ℕ) (s f : ℕ) → length old ≤ length lent
    → telegrams_down (take n (telegrams_up old station first area).area) lent s f
    ≡ record { answer = accepted (stopping (length old)); area = old ++ drop (length old) lent; station = station; first = first }
unfolding telegrams_up telegrams_down
up-down-calls old station first area n b c p e l lent s f room =
    let w = wrote Upped (λ u. u.answer) (λ u. u.area) (upped_as area) area (λ x. refl) (λ m v. refl) (λ x. refl) (upward old station first) n e l in
    let g = given_back old station first w.bytes b c w.are p in
    ap (λ (x : List ℕ). telegrams_down x lent s f) w.lie
    ∙ (ap (λ (o : Outcome (List ℕ)). downed_as w.bytes lent s f (and_then o (fitting lent))) (up-then-down old station first w.bytes b c w.are)
    ∙ (ap (downed_as w.bytes lent s f) (fits lent old room)
    ∙ ap₂ (λ (x y : ℕ). record { answer = accepted (stopping (length old)); area = old ++ drop (length old) lent; station = x; first = y }) g.0 g.1))

-- THEOREM: what the call downward wrote, handed to the call upward with the station and the first number that it left, gives the run
pub down-up-calls : (run area : List ℕ) (s f n : ℕ) → are_bytes run ≡ true → (telegrams_down run area s f).answer ≡ accepted n → n < most_count
    → (lent : List ℕ) → length run ≤ length lent
    → telegrams_up (take n (telegrams_down run area s f).area) (telegrams_down run area s f).station (telegrams_down run area s f).first lent
    ≡ record { answer = accepted (stopping (length run)); area = run ++ drop (length run) lent }
unfolding telegrams_up telegrams_down
down-up-calls run area s f n b e l lent room =
    let w = wrote Downed (λ u. u.answer) (λ u. u.area) (downed_as run area s f) area (λ x. refl) (λ m v. refl) (λ x. refl) (downward run) n e l in
    ap (λ (x : List ℕ). telegrams_up x (telegrams_down run area s f).station (telegrams_down run area s f).first lent) w.lie
    ∙ (ap₂ (λ (x y : ℕ). telegrams_up w.bytes x y lent) (ap (λ o. (downed_as run area s f o).station) w.fit) (ap (λ o. (downed_as run area s f o).first) w.fit)
    ∙ (ap (λ (o : Outcome (List ℕ)). upped_as lent (and_then o (fitting lent))) (down-then-up run w.bytes b w.are)
    ∙ ap (upped_as lent) (fits lent run room)))
