-- Document 01, "Returned when turned away": a result or a numbered refusal. Assumes nothing.
use Rattle.std.specs.Prelude.{ℕ, zero, suc, ◌+◌, ◌*◌, Bool, true, false, Option, Some, None, Result, Ok, Err}
use Rattle.effbd.specs.declared.refusals.Reason.{Reason}
use Rattle.effbd.specs.declared.refusals.Reason.TheVariants.{CutShort, KindNotDue, LengthWrong, HeadValueOff, FieldOff, BytesAfterLast, NestingBroken, LoopExitMisplaced, TooManyOpen, AreaShort, StateOff, CodeOff, NotStanding, ItemShort, TicksLacking, SumTooLarge, WaitHeld, CountFull, NoTelegram, OtherStation, NumberPast, NumberAhead, LogOff, NotFunction, MoveRefused, TriggerOff, KillingBranchEmpty, LoopSpendsNoTime, NumberNotNext, StationDiffers, BoxExitMisplaced, OutletsUnmatched, ScenarioFallsThrough, TableOff}
use Rattle.effbd.specs.declared.refusals.Refusal.{Refusal}

-- a result, or the table's number with the value "Returned"
pub data Outcome (A : Type 0) : Type 0 where
  accepted : A → Outcome A
  refused : ℕ → ℕ → Outcome A

-- "Accepted is a result that is no refusal"
abbrev pub is_accepted : {A : Type 0} → Outcome A → Bool
is_accepted (accepted a) = true
is_accepted (refused number value) = false

-- "Nothing lent is altered": what holds afterwards, the result or what was there before
abbrev pub afterwards : {A : Type 0} → A → Outcome A → A
afterwards before (accepted a) = a
afterwards before (refused number value) = before

-- a fault is its number, 0 for none: turned away at it, or on
abbrev pub unless : {A : Type 0} → ℕ → ℕ → Outcome A → Outcome A
unless zero value on = on
unless (suc n) value on = refused (suc n) value

-- number and value of a refusal, 0 and 0 of a result
abbrev pub refusal_number : {A : Type 0} → Outcome A → ℕ
refusal_number (accepted a) = 0
refusal_number (refused number value) = number

abbrev pub refusal_value : {A : Type 0} → Outcome A → ℕ
refusal_value (accepted a) = 0
refusal_value (refused number value) = value

-- one fault after another: the second only where the first is none
abbrev pub or_else : ℕ → ℕ → ℕ
or_else zero later = later
or_else (suc n) later = suc n

-- on with the result, if there is one
abbrev pub and_then : {A B : Type 0} → Outcome A → (A → Outcome B) → Outcome B
and_then (accepted a) f = f a
and_then (refused number value) f = refused number value

-- the value that a call returns where document 01 names none: 0
abbrev pub returning_zero : {A : Type 0} → Outcome A → Outcome ℕ
returning_zero (accepted a) = accepted 0
returning_zero (refused number value) = refused number value

-- the number of each refusal, as the papers list them; behind them one that no exported function answers
abbrev pub number : Reason → ℕ
number CutShort = 1
number KindNotDue = 2
number LengthWrong = 3
number HeadValueOff = 4
number FieldOff = 5
number BytesAfterLast = 6
number NestingBroken = 7
number LoopExitMisplaced = 8
number TooManyOpen = 9
number AreaShort = 10
number StateOff = 20
number CodeOff = 21
number NotStanding = 22
number ItemShort = 23
number TicksLacking = 24
number SumTooLarge = 25
number WaitHeld = 26
number CountFull = 27
number NoTelegram = 30
number OtherStation = 31
number NumberPast = 32
number NumberAhead = 33
number LogOff = 40
number NotFunction = 41
number MoveRefused = 42
number TriggerOff = 43
number KillingBranchEmpty = 44
number LoopSpendsNoTime = 45
number NumberNotNext = 46
number StationDiffers = 47
number BoxExitMisplaced = 48
number OutletsUnmatched = 49
number ScenarioFallsThrough = 50
number TableOff = 65535

-- a fault as its number, 0 for none
abbrev pub fault : Option Reason → ℕ
fault None = 0
fault (Some reason) = number reason

-- the answer of the code: document 01's number and value of each of its cases
abbrev pub said : {A : Type 0} → Result A Refusal → Outcome A
said (Ok value) = accepted value
said (Err refusal) = refused (number refusal.reason) refusal.value

-- the same of an answer that has its refusal's number, any number, and value
abbrev pub told : Result ℕ (ℕ × ℕ) → Outcome ℕ
told (Ok value) = accepted value
told (Err refusal) = refused refusal.0 refusal.1

-- an answer in one number of 64 bits, as C and Rust get it: number * 2^32 + value, number 0 where accepted
abbrev pub packed : Outcome ℕ → ℕ
packed (accepted value) = value
packed (refused number value) = number * 4294967296 + value
