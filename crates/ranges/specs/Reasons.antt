-- The numbers of reasons, none of them 0; answers and faults as outcomes.
use Rattle.std.specs.Prelude.{ℕ, ◌≡◌, refl, ◌≢◌, Option, Some, None, IsSome}
use Rattle.effbd.specs.declared.refusals.Reason.{Reason}
use Rattle.effbd.specs.declared.refusals.Reason.TheVariants.{CutShort, KindNotDue, LengthWrong, HeadValueOff, FieldOff, BytesAfterLast, NestingBroken, LoopExitMisplaced, TooManyOpen, AreaShort, StateOff, CodeOff, NotStanding, ItemShort, TicksLacking, SumTooLarge, WaitHeld, CountFull, NoTelegram, OtherStation, NumberPast, NumberAhead, LogOff, NotFunction, MoveRefused, TriggerOff, KillingBranchEmpty, LoopSpendsNoTime, NumberNotNext, StationDiffers, BoxExitMisplaced, OutletsUnmatched, ScenarioFallsThrough, TableOff}
use Rattle.effbd.specs.Answers.{Outcome, refused, unless, number, fault}

-- no reason's number is 0
pub number-some : (r : Reason) → number r ≢ 0
number-some CutShort = λ e. cc
number-some KindNotDue = λ e. cc
number-some LengthWrong = λ e. cc
number-some HeadValueOff = λ e. cc
number-some FieldOff = λ e. cc
number-some BytesAfterLast = λ e. cc
number-some NestingBroken = λ e. cc
number-some LoopExitMisplaced = λ e. cc
number-some TooManyOpen = λ e. cc
number-some AreaShort = λ e. cc
number-some StateOff = λ e. cc
number-some CodeOff = λ e. cc
number-some NotStanding = λ e. cc
number-some ItemShort = λ e. cc
number-some TicksLacking = λ e. cc
number-some SumTooLarge = λ e. cc
number-some WaitHeld = λ e. cc
number-some CountFull = λ e. cc
number-some NoTelegram = λ e. cc
number-some OtherStation = λ e. cc
number-some NumberPast = λ e. cc
number-some NumberAhead = λ e. cc
number-some LogOff = λ e. cc
number-some NotFunction = λ e. cc
number-some MoveRefused = λ e. cc
number-some TriggerOff = λ e. cc
number-some KillingBranchEmpty = λ e. cc
number-some LoopSpendsNoTime = λ e. cc
number-some NumberNotNext = λ e. cc
number-some StationDiffers = λ e. cc
number-some BoxExitMisplaced = λ e. cc
number-some OutletsUnmatched = λ e. cc
number-some ScenarioFallsThrough = λ e. cc
number-some TableOff = λ e. cc

-- turned away for a reason, whatever would follow
pub unless-reason : {A : Type 0} (r : Reason) (v : ℕ) (on : Outcome A) → unless (number r) v on ≡ refused (number r) v
unless-reason CutShort v on = refl
unless-reason KindNotDue v on = refl
unless-reason LengthWrong v on = refl
unless-reason HeadValueOff v on = refl
unless-reason FieldOff v on = refl
unless-reason BytesAfterLast v on = refl
unless-reason NestingBroken v on = refl
unless-reason LoopExitMisplaced v on = refl
unless-reason TooManyOpen v on = refl
unless-reason AreaShort v on = refl
unless-reason StateOff v on = refl
unless-reason CodeOff v on = refl
unless-reason NotStanding v on = refl
unless-reason ItemShort v on = refl
unless-reason TicksLacking v on = refl
unless-reason SumTooLarge v on = refl
unless-reason WaitHeld v on = refl
unless-reason CountFull v on = refl
unless-reason NoTelegram v on = refl
unless-reason OtherStation v on = refl
unless-reason NumberPast v on = refl
unless-reason NumberAhead v on = refl
unless-reason LogOff v on = refl
unless-reason NotFunction v on = refl
unless-reason MoveRefused v on = refl
unless-reason TriggerOff v on = refl
unless-reason KillingBranchEmpty v on = refl
unless-reason LoopSpendsNoTime v on = refl
unless-reason NumberNotNext v on = refl
unless-reason StationDiffers v on = refl
unless-reason BoxExitMisplaced v on = refl
unless-reason OutletsUnmatched v on = refl
unless-reason ScenarioFallsThrough v on = refl
unless-reason TableOff v on = refl

-- a fault is none exactly where its number is 0
pub fault-none : (o : Option Reason) → fault o ≡ 0 → o ≡ None
fault-none None e = refl
fault-none (Some r) e = absurd (number-some r e)

-- and is one where its number is not 0
pub some-fault : (o : Option Reason) → fault o ≢ 0 → IsSome o
some-fault None h = absurd (h refl)
some-fault (Some r) h = refl
