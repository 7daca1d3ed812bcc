-- A telegram reads back.
use Rattle.std.specs.Prelude.{ℕ, ◌/◌, ◌%◌, ◌≡◌, refl, true, List}
use Rattle.std.proofs.Common.{arith}
use Rattle.effbd.specs.BusEnds.{is_telegram, number_at, station_at, telegram}
use Rattle.effbd.specs.Records.{word}
use Rattle.agreement.specs.ByteLaws.{of_two}

pub record Telegram (number station code argument : ℕ) (b : List ℕ) : Type 0 where
  pub is_shaped : is_telegram b ≡ true
  pub is_number : number_at b ≡ number
  pub is_station : station_at b ≡ station
  pub is_code : word b 10 ≡ code
  pub is_argument : word b 12 ≡ argument

pub telegram-back : (number station code argument : ℕ) → Telegram number station code argument (telegram number station code argument)
unfolding telegram
telegram-back number station code argument = record {
  is_shaped = refl;
  is_number = rw (of_two (number % 65536), of_two (number / 65536)) (omega arith);
  is_station = of_two station;
  is_code = of_two code;
  is_argument = of_two argument;
}
