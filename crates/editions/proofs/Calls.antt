-- What a call comes to, both ways alike: by what its check answered, and by the area's length.
use Rattle.std.proofs.Common.{◌≡◌, ℕ, ◌+◌, ◌-◌, ◌*◌, ◌/◌, ◌<◌, ◌≤◌, Bool, true, false, cond, leb, List, ◌++◌, length, take, drop, get_or, refl, sym, ap, ap₂, ◌∙◌, arith}
use Rattle.std.proofs.Math.Seq.{get_or-take}
use Rattle.std.proofs.Math.Nat.{mul_comm, mul-div_cancel, div-add-mod, mod-lt, mul-le-mul_left, mul-div-le}
use borrow.Author.Tests.{le-leb, lt-leb, leb-true, ltb-true, ltb-false}
use lib.Dec.{ltb}
use lib.ListN.{get_or-eq_default, length-take}
use Rattle.ranges.specs.Tests.{decide}
use Rattle.effbd.specs.Answers.{Outcome, accepted, refused, is_accepted, unless, and_then}
use Rattle.effbd.specs.BusEnds.{station_at, number_at}
use Rattle.effbd.specs.Editions.{telegram_count, fitting, stopping, upped_as, downed_as, downward, telegrams_down, new_fault, old_of}
use Rattle.agreement.specs.ByteLaws.{never}
use Rattle.editions.specs.Checks.{checked}
use Rattle.editions.specs.Conversions.{converted, laid, Sizes, Telegrams}
use Rattle.words.specs.Stores.{copied}
use Rattle.editions.proofs.Turns.{lengths, Underway, next, turn}
use borrow.Rule.Slice.PartMut.{mid_of, put_mid}

-- what a check tells of the outcome
pub was-accepted : (v : ℕ) (o : Outcome (List ℕ)) → accepted v ≡ checked o → (bytes : List ℕ) × (o ≡ accepted bytes)
was-accepted v (accepted bytes) e = (bytes, refl)
was-accepted v (refused m w) e = never (sym e)

pub was-refused : (n v : ℕ) (area : List ℕ) (o : Outcome (List ℕ)) → refused n v ≡ checked o
    → (w : ℕ) × (and_then o (fitting area) ≡ refused n w) × (v ≡ stopping w)
was-refused n v area (accepted bytes) e = never e
was-refused n v area (refused m w) e = (w, (let z : m ≡ n = cc in ap (λ k. refused k w) z), cc)

-- the area has room, or has not
module _ (area bytes : List ℕ) (o : Outcome (List ℕ)) (e : o ≡ accepted bytes) where
  has : length bytes ≤ length area → and_then o (fitting area) ≡ accepted bytes
  has l = ap (λ (x : Outcome (List ℕ)). and_then x (fitting area)) e
      ∙ ap (λ (x : Bool). unless (cond x 0 10) (length bytes) (accepted bytes)) (le-leb (length bytes) (length area) l)

  lacks : length area < length bytes → and_then o (fitting area) ≡ refused 10 (length bytes)
  lacks l = ap (λ (x : Outcome (List ℕ)). and_then x (fitting area)) e
      ∙ ap (λ (x : Bool). unless (cond x 0 10) (length bytes) (accepted bytes)) (lt-leb (length bytes) (length area) l)

-- what a call that is accepted writes
pub record Ready (area : List ℕ) (o : Outcome (List ℕ)) : Type 0 where
  pub bytes : List ℕ
  pub is : o ≡ accepted bytes
  pub room : length bytes ≤ length area

ready_by : (area : List ℕ) (o : Outcome (List ℕ)) → is_accepted (and_then o (fitting area)) ≡ true → Ready area o
ready_by area (refused n v) e = absurd (let z : ◌≡◌ {A = ℕ} 0 1 = ap (λ x. cond x 1 0) e in omega arith)
ready_by area (accepted bytes) e = record { bytes = bytes; is = refl; room = leb-true (length bytes) (length area) (go (leb (length bytes) (length area)) e) }
  where
    go : (x : Bool) → is_accepted (unless (cond x 0 10) (length bytes) (accepted bytes)) ≡ true → x ≡ true
    go true q = refl
    go false q = q

-- what is laid into an area, by the outcome of the run
module _ (area : List ℕ) (o : Outcome (List ℕ)) where
  laid-as : (x : Outcome (List ℕ)) → is_accepted (upped_as area x).answer ≡ is_accepted x
  laid-as (accepted bytes) = refl
  laid-as (refused n v) = refl

  pub ready : is_accepted (laid area o).answer ≡ true → Ready area o
  ready e = ready_by area o (sym (laid-as (and_then o (fitting area))) ∙ e)

  pub laid-out : (bytes : List ℕ) → o ≡ accepted bytes → length bytes ≤ length area → (laid area o).area ≡ bytes ++ drop (length bytes) area
  laid-out bytes e l = ap (λ (x : Outcome (List ℕ)). (upped_as area x).area) (has area bytes o e l)

  -- what a check tells of a run that is off, the call tells, and it leaves the area
  pub refused-told : (n v : ℕ) → refused n v ≡ checked o → (refused n v ≡ (laid area o).answer) × (area ≡ (laid area o).area)
  refused-told n v e = let w = was-refused n v area o e in
      (ap (λ k. refused n k) w.2 ∙ sym (ap (λ (x : Outcome (List ℕ)). (upped_as area x).answer) w.1), sym (ap (λ (x : Outcome (List ℕ)). (upped_as area x).area) w.1))

  module _ (v size : ℕ) (e : accepted v ≡ checked o) (long : (bytes : List ℕ) → o ≡ accepted bytes → length bytes ≡ size) where
    made : (bytes : List ℕ) × (o ≡ accepted bytes)
    made = was-accepted v o e

    pub lacking : (w : ℕ) → length area < size → w ≡ stopping size → (refused 10 w ≡ (laid area o).answer) × (area ≡ (laid area o).area)
    lacking w l s = let z = long made.0 made.1 in let u = lacks area made.0 o made.1 (omega arith) in
        (ap (λ k. refused 10 k) (s ∙ ap stopping (sym z)) ∙ sym (ap (λ (x : Outcome (List ℕ)). (upped_as area x).answer) u), sym (ap (λ (x : Outcome (List ℕ)). (upped_as area x).area) u))

    room : size ≤ length area → and_then o (fitting area) ≡ accepted made.0
    room l = let z = long made.0 made.1 in has area made.0 o made.1 (omega arith)

    pub having : size ≤ length area → is_accepted (laid area o).answer ≡ true
    having l = ap (λ (x : Outcome (List ℕ)). is_accepted (upped_as area x).answer) (room l)

    pub told : (w : ℕ) → size ≤ length area → w ≡ stopping size → accepted w ≡ (laid area o).answer
    told w l s = let z = long made.0 made.1 in ap accepted (s ∙ ap stopping (sym z)) ∙ sym (ap (λ (x : Outcome (List ℕ)). (upped_as area x).answer) (room l))

-- as many telegrams come out as go in
counted : (size n len : ℕ) → 0 < size → len ≡ size * n → len / size ≡ n
counted size n len p e = ap (λ (l : ℕ). l / size) (e ∙ mul_comm size n) ∙ mul-div_cancel n p

module _ (size out : ℕ) (s : Sizes size out) where
  pub out-of : (off : ℕ → List ℕ → ℕ) (made : ℕ → List ℕ → List ℕ) (t : Telegrams size out off made) (first : ℕ) (run bytes : List ℕ)
      → converted size off made first run ≡ accepted bytes → length bytes ≡ length run / size * out
  out-of off made t first run bytes e =
      let n = telegram_count size run in
      let p = s.some in let d = div-add-mod (length run + (size - 1)) size in let m = mod-lt (length run + (size - 1)) p in
      let w = lengths size off made s.counts s.none out t.whole t.becomes first 0 n run bytes e (omega arith) in
      w.0 ∙ (mul_comm out n ∙ ap (λ (k : ℕ). k * out) (sym (counted size n (length run) p w.1)))

  pub small : (len : ℕ) → len / size * out ≤ 2 * len
  small len = let r = mul-le-mul_left (len / size) s.room in let d = mul-div-le len size in
      let e : len / size * (2 * size) ≡ 2 * (size * (len / size)) = omega arith in omega arith

-- a part of bytes
pub bytes-of : (n : ℕ) (l : List ℕ) → ((i : ℕ) → get_or l i 0 < 256) → (i : ℕ) → get_or (take n l) i 0 < 256
bytes-of n l h i = decide (ltb i n)
    (λ e. rw (get_or-take n l i 0 (ltb-true i n e)) (h i))
    (λ e. beyond (ltb-false i n e))
  where
    beyond : n ≤ i → get_or (take n l) i 0 < 256
    beyond q = rw (get_or-eq_default (take n l) 0 {n = i} (rw length-take (omega arith))) (omega arith)

-- a turn of the writing, where a telegram is left
module _ (size out : ℕ) (s : Sizes size out) (off : ℕ → List ℕ → ℕ) (made : ℕ → List ℕ → List ℕ) (t : Telegrams size out off made) (whole : Outcome (List ℕ)) (area₀ : List ℕ)
    (first index at : ℕ) (area rest : List ℕ) (u : Underway size off made s.counts s.none out t.whole t.becomes whole area₀ area rest (first + index) at)
    (b : (i : ℕ) → get_or rest i 0 < 256) (long : size ≤ length rest) where
  left : 0 < length rest
  left = let p = s.some in omega arith

  pub number-fits : first + index < 4294967296
  number-fits = t.fits (first + index) (take size rest) (bytes-of size rest b) (next size off made s.counts s.none out t.whole t.becomes whole area₀ area rest (first + index) at u left).fine

  pub room-left : at + out ≤ length area
  room-left = (next size off made s.counts s.none out t.whole t.becomes whole area₀ area rest (first + index) at u left).fits

  pub one_written : (step : ℕ) (more last : List ℕ) → step ≡ out → more ≡ drop size rest → last ≡ copied (made (first + index) (take size rest)) (mid_of at (length area - at) area)
      → Underway size off made s.counts s.none out t.whole t.becomes whole area₀ (put_mid at (length area - at) area last) more (first + (index + 1)) (at + step)
  one_written step more last o d e = rw o (turn size off made s.counts s.none out t.whole t.becomes whole area₀ area rest more (made (first + index) (take size rest)) last (first + index) (first + (index + 1)) at u left d refl e (omega arith))

-- downward the answer and the area are those of both ways, the station and the first number go by the answer
module _ (run area : List ℕ) (station first due number : ℕ) (es : due ≡ station_at run) (en : number ≡ number_at run) where
  way : converted 14 (new_fault due) old_of number run ≡ downward run
  unfolding downward
  way = ap₂ (λ (s n : ℕ). converted 14 (new_fault s) old_of n run) es en

  by : (x : Outcome (List ℕ)) → and_then (converted 14 (new_fault due) old_of number run) (fitting area) ≡ x → telegrams_down run area station first ≡ downed_as run area station first x
  unfolding telegrams_down
  by x e = ap (downed_as run area station first) (ap (λ (o : Outcome (List ℕ)). and_then o (fitting area)) (sym way) ∙ e)

  -- what is given back, and what is kept
  pub record Given (v : ℕ) (after : List ℕ) : Type 0 where
    pub answer : accepted v ≡ (telegrams_down run area station first).answer
    pub area-is : after ≡ (telegrams_down run area station first).area
    pub station-is : due ≡ (telegrams_down run area station first).station
    pub first-is : number ≡ (telegrams_down run area station first).first

  pub given : (v : ℕ) (after : List ℕ) → accepted v ≡ (laid area (converted 14 (new_fault due) old_of number run)).answer → after ≡ (laid area (converted 14 (new_fault due) old_of number run)).area → Given v after
  given v after e l = go (and_then (converted 14 (new_fault due) old_of number run) (fitting area)) refl e l
    where
      go : (x : Outcome (List ℕ)) → and_then (converted 14 (new_fault due) old_of number run) (fitting area) ≡ x → accepted v ≡ (upped_as area x).answer → after ≡ (upped_as area x).area → Given v after
      go (accepted b) q e l = let u = by (accepted b) q in
          record { answer = e ∙ sym (ap (λ k. k.answer) u); area-is = l ∙ sym (ap (λ k. k.area) u); station-is = es ∙ sym (ap (λ k. k.station) u); first-is = en ∙ sym (ap (λ k. k.first) u) }
      go (refused n w) q e l = never (sym e)

  pub record Kept (n v : ℕ) (after : List ℕ) : Type 0 where
    pub answer : refused n v ≡ (telegrams_down run area station first).answer
    pub area-is : after ≡ (telegrams_down run area station first).area
    pub station-is : station ≡ (telegrams_down run area station first).station
    pub first-is : first ≡ (telegrams_down run area station first).first

  pub kept : (n v : ℕ) (after : List ℕ) → refused n v ≡ (laid area (converted 14 (new_fault due) old_of number run)).answer → after ≡ (laid area (converted 14 (new_fault due) old_of number run)).area → Kept n v after
  kept n v after e l = go (and_then (converted 14 (new_fault due) old_of number run) (fitting area)) refl e l
    where
      go : (x : Outcome (List ℕ)) → and_then (converted 14 (new_fault due) old_of number run) (fitting area) ≡ x → refused n v ≡ (upped_as area x).answer → after ≡ (upped_as area x).area → Kept n v after
      go (accepted b) q e l = never e
      go (refused m w) q e l = let u = by (refused m w) q in
          record { answer = e ∙ sym (ap (λ k. k.answer) u); area-is = l ∙ sym (ap (λ k. k.area) u); station-is = sym (ap (λ k. k.station) u); first-is = sym (ap (λ k. k.first) u) }
