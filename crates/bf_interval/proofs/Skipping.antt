-- Minutes, hours and dates that a schedule hasn't, and where it matches nothing.
use Rattle.std.proofs.Common.{◌≡◌, ℕ, ◌+◌, ◌*◌, ◌/◌, ◌%◌, ◌<◌, ◌≤◌, Bool, true, false, ◌&&◌, refl, ap, arith}
use Rattle.std.proofs.lemmas.Int.{ints}
use Rattle.jiff.specs.Types.{Date, DateTime}
use Rattle.jiff.proofs.Family.{civil_nanos-parts}
use Rattle.bf_cron.specs.Cron.{spec_matches, spec_has_date, has_number}
use Rattle.bf_cron.specs.Minutes.{IsMinute, IsDay}
use Rattle.bf_cron.specs.declared.spec.CronSpec.{CronSpec}
use Rattle.bf_cron.proofs.Dates.{on_date, date_fits}

both : (a b c : Bool) → (a && b && c) ≡ true → (a ≡ true) × (b ≡ true)
both true true c h = (refl, refl)
both true false c h = absurd (cc)
both false b c h = absurd (cc)

has_time : (spec : CronSpec) (at : DateTime) → spec_matches spec at ≡ true → (has_number spec.minutes at.time.minute ≡ true) × (has_number spec.hours at.time.hour ≡ true)
has_time spec at fits = both (has_number spec.minutes at.time.minute) (has_number spec.hours at.time.hour) (spec_has_date spec at.date) fits

-- the hour and the minute that a minute's clock shows
time_shown : (m : ℕ) (at : DateTime) → IsMinute m at → (at.time.hour ≡ m / 60 % 24) × (at.time.minute ≡ m % 60)
time_shown m at shown =
    let parts = civil_nanos-parts at in (
      omega (arith, ints, at.time.hour_in, at.time.minute_in, at.time.second_in, at.time.subsec_in),
      omega (arith, ints, at.time.hour_in, at.time.minute_in, at.time.second_in, at.time.subsec_in),
    )

pub minute_skipped : (spec : CronSpec) (minute m : ℕ) (at : DateTime) → has_number spec.minutes (minute % 60) ≡ false → minute ≤ m → m < minute + 1 → IsMinute m at → spec_matches spec at ≡ true → ⊥
minute_skipped spec minute m at off above below shown fits =
    let is : at.time.minute ≡ minute % 60 = omega (arith, (time_shown m at shown).1) in
    let on = (has_time spec at fits).0 in
    let same = ap (has_number spec.minutes) is in
    cc

pub hour_skipped : (spec : CronSpec) (hour m : ℕ) (at : DateTime) → has_number spec.hours (hour % 24) ≡ false → hour * 60 ≤ m → m < hour * 60 + 60 → IsMinute m at → spec_matches spec at ≡ true → ⊥
hour_skipped spec hour m at off above below shown fits =
    let is : at.time.hour ≡ hour % 24 = omega (arith, (time_shown m at shown).0) in
    let on = (has_time spec at fits).1 in
    let same = ap (has_number spec.hours) is in
    cc

pub date_skipped : (spec : CronSpec) (date : Date) (day m : ℕ) (at : DateTime) → IsDay day date → spec_has_date spec date ≡ false → day * 1_440 ≤ m → m < day * 1_440 + 1_440 → IsMinute m at → spec_matches spec at ≡ true → ⊥
date_skipped spec date day m at is off above below shown fits =
    let on = date_fits spec at fits in
    let same = ap (spec_has_date spec) (on_date date day m at is shown above below) in
    cc
