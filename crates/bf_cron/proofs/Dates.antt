-- The minutes of a date.
use Rattle.std.proofs.Common.{◌≡◌, ℕ, ◌+◌, ◌*◌, ◌/◌, ◌%◌, ◌<◌, ◌≤◌, Bool, true, false, ◌&&◌, refl, ap, ◌∙◌, arith}
use Rattle.std.proofs.lemmas.Int.{ints}
use Rattle.jiff.specs.Types.{Date, DateTime}
use Rattle.jiff.specs.Words.{epoch_day, time_nanos}
use Rattle.jiff.proofs.Family.{same_date, same_datetime, civil_nanos-parts, time_nanos_bound}
use Rattle.bf_cron.specs.declared.spec.CronSpec.{CronSpec}
use Rattle.bf_cron.specs.Cron.{spec_matches, spec_has_date, has_number}
use Rattle.bf_cron.specs.inner.Cron.{spec_has_time}
use Rattle.bf_cron.specs.Minutes.{IsMinute, IsDay}

pub minute_shown : (date : Date) (at : DateTime) (day minute : ℕ) → IsDay day date → at.date ≡ date → time_nanos at.time ≡ minute * 60_000_000_000 → IsMinute (day * 1_440 + minute) at
minute_shown date at day minute is same time =
    let parts = civil_nanos-parts at in
    let days : epoch_day at.date ≡ epoch_day date = ap epoch_day same in
    omega (arith, ints)

pub time_shown : (hour minute second fraction m : ℕ) → hour ≡ m / 60 → minute ≡ m % 60 → second ≡ 0 → fraction ≡ 0 → (hour * 3600 + minute * 60 + second) * 1_000_000_000 + fraction ≡ m * 60_000_000_000
time_shown hour minute second fraction m h k s f = omega arith

-- a minute has one civil time
pub same_minute : (m : ℕ) (a b : DateTime) → IsMinute m a → IsMinute m b → a ≡ b
same_minute m a b h k = same_datetime a b (omega (arith, ints))

-- what shows a minute of a day is on its date
pub on_date : (date : Date) (day m : ℕ) (at : DateTime) → IsDay day date → IsMinute m at → day * 1_440 ≤ m → m < day * 1_440 + 1_440 → at.date ≡ date
on_date date day m at is shows above below =
    let parts = civil_nanos-parts at in
    let small = time_nanos_bound at.time in
    same_date at.date date (omega (arith, ints))

and_parts : (a b c : Bool) → (a && b && c) ≡ true → (a ≡ true) × (b ≡ true) × (c ≡ true)
and_parts true true true h = (refl, refl, refl)
and_parts true true false h = absurd (cc)
and_parts true false c h = absurd (cc)
and_parts false b c h = absurd (cc)

parts_fit : (s : CronSpec) (at : DateTime) → spec_matches s at ≡ true → (has_number s.minutes at.time.minute ≡ true) × (has_number s.hours at.time.hour ≡ true) × (spec_has_date s at.date ≡ true)
parts_fit s at h = and_parts (has_number s.minutes at.time.minute) (has_number s.hours at.time.hour) (spec_has_date s at.date) h

-- a minute that matches is on a date that does
pub date_fits : (s : CronSpec) (at : DateTime) → spec_matches s at ≡ true → spec_has_date s at.date ≡ true
date_fits s at h = (parts_fit s at h).2

-- the minutes of a day that the time shows
abbrev minute_of_day : DateTime → ℕ
minute_of_day at = at.time.hour * 60 + at.time.minute

-- and has a time that does
pub time_fits : (s : CronSpec) (at : DateTime) → spec_matches s at ≡ true → (minute_of_day at < 1_440) × (spec_has_time s (minute_of_day at) ≡ true)
time_fits s at h =
    let (minute, hour, date) = parts_fit s at h in
    let m : minute_of_day at % 60 ≡ at.time.minute = omega (arith, at.time.minute_in) in
    let k : minute_of_day at / 60 ≡ at.time.hour = omega (arith, at.time.minute_in) in
    (omega (arith, at.time.hour_in, at.time.minute_in), (λ j. has_number s.minutes (m j) && has_number s.hours (k j)) ∙ ap (λ b. b && has_number s.hours at.time.hour) minute ∙ hour)

and_all : (a b c : Bool) → (a && b) ≡ true → c ≡ true → (a && b && c) ≡ true
and_all true true c h k = k
and_all true false c h k = absurd (cc)
and_all false b c h k = absurd (cc)

-- a time on a date, where the schedule has both
pub both_fit : (s : CronSpec) (at : DateTime) (date : Date) (day m : ℕ) → IsDay day date → m < 1_440 → IsMinute (day * 1_440 + m) at → spec_has_time s m ≡ true → spec_has_date s date ≡ true → spec_matches s at ≡ true
both_fit s at date day m is small shows time on =
    let same = on_date date day (day * 1_440 + m) at is shows (omega arith) (omega arith) in
    let parts = civil_nanos-parts at in
    let days : epoch_day at.date ≡ epoch_day date = ap epoch_day same in
    let nanos : time_nanos at.time ≡ m * 60_000_000_000 = omega (arith, ints) in
    let minute : at.time.minute ≡ m % 60 = omega (arith, nanos, at.time.minute_in, at.time.second_in, at.time.subsec_in) in
    let hour : at.time.hour ≡ m / 60 = omega (arith, nanos, at.time.minute_in, at.time.second_in, at.time.subsec_in) in
    let has : spec_has_date s at.date ≡ true = ap (spec_has_date s) same ∙ on in
    and_all (has_number s.minutes at.time.minute) (has_number s.hours at.time.hour) (spec_has_date s at.date)
    ((λ j. has_number s.minutes (minute j) && has_number s.hours (hour j)) ∙ time) has
