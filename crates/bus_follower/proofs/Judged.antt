-- Refusals 30 to 33, by the tests that lead to each.
use Prim.Native.Nat.{ℕ, suc, ◌-◌, ◌≤◌, ◌<◌}
use mathlib.Core.Path.{◌≡◌, ap}
use mathlib.Core.Logic.{◌≢◌}
use mathlib.Core.Bool.{true, false}
use mathlib.Core.List.{List}
use native.Mathlib.Omega.{arith}
use borrow.Author.Tests.{eq-eqb, ne_eqb, le-leb, lt-leb}
use Rattle.effbd.specs.Answers.{accepted, refused}
use Rattle.effbd.specs.BusEnds.{is_telegram, number_at, station_at}
use Rattle.bus_follower.specs.Telegrams.{judged}

module _ (count station : ℕ) (b : List ℕ) where
  pub no-telegram : is_telegram b ≡ false → refused 30 0 ≡ judged count station b
  unfolding judged
  no-telegram t = rw t

  module _ (t : is_telegram b ≡ true) where
    pub other-station : station_at b ≢ station → refused 31 (station_at b) ≡ judged count station b
    unfolding judged
    other-station h = rw (t, ne_eqb (station_at b) station h)

    module _ (f : station_at b ≡ station) where
      pub at-or-below : number_at b ≤ count → refused 32 count ≡ judged count station b
      unfolding judged
      at-or-below h = rw (t, eq-eqb (station_at b) station f, le-leb (number_at b) count h)

      pub too_far : count < number_at b → 1 < number_at b - count → refused 33 count ≡ judged count station b
      unfolding judged
      too_far h g = rw (t, eq-eqb (station_at b) station f, lt-leb (number_at b) count h, lt-leb (number_at b) (suc count) (omega arith))

      pub is-due : count < number_at b → number_at b - count ≤ 1 → accepted (number_at b) ≡ judged count station b
      unfolding judged
      is-due h g = rw (t, eq-eqb (station_at b) station f, lt-leb (number_at b) count h, le-leb (number_at b) (suc count) (omega arith))
          (ap accepted (let z : number_at b ≡ suc count = omega arith in z))
