-- The text of a moment is that of a clock in UTC.
use Rattle.std.proofs.Common.{◌≡◌, ℕ, ◌/◌, ◌%◌, ◌++◌, ◌∷◌, [], ℤ, pos, refl, sym, ap, ◌∙◌, arith}
use Rattle.std.proofs.lemmas.Int.{by_lt_z}
use Rattle.jiff_core.specs.declared.civil.datetime.DateTime.{DateTime}
use Rattle.jiff_core.specs.Calendar.{day_count}
use Rattle.jiff_core.specs.Date.{epoch_day}
use Rattle.jiff_core.specs.Time.{time_seconds}
use Rattle.jiff_core.specs.DateTime.{civil_nanos}
use Rattle.jiff_core.proofs.SignedLemmas.{signed_arith}
use Rattle.jiff_core.proofs.MarchLemmas.{day_count-early}
use Rattle.jiff_core.proofs.CalendarLemmas.{days_from_civil-day_count, day_count-lt_year}
use Rattle.jiff_core.proofs.DateLemmas.{civil}
use Rattle.jiff_core.proofs.DateTimeLemmas.{civil_nanos-parts, epoch_day-civil_nanos, time_nanos_bound}
use Rattle.bf_moment.specs.Calendar.{year_on, month_on, day_on}
use Rattle.bf_moment.specs.Moment.{day_of, second_of, date_text, time_text, moment_text, date_parts_text, IsShown}
use Rattle.bf_moment.specs.inner.Clock.{IsShownDate, clock_text, clock_date_text, clock_time_text}
use Rattle.bf_moment.proofs.CalendarFacts.{date_on}

pub day_count_zero : day_count (pos 0) 1 1 ≡ 3_652_425
day_count_zero = day_count-early _ 9999 1 1 refl (omega arith) (omega arith) (omega arith)

-- a moment of a shown year has a shown date
pub shown_date : (at : DateTime) (n : ℤ) → civil_nanos at ≡ n → IsShown n → IsShownDate at.date
shown_date at n e shown =
    by_lt_z at.date.year (pos 0) (λ lt. absurd (omega (arith, signed_arith, shown.0, civil_nanos-parts at, time_nanos_bound at.time, days_from_civil-day_count at.date.year at.date.month at.date.day, day_count-lt_year at.date.year at.date.month at.date.day (pos 0) 1 1 (civil at.date) (omega arith) lt, day_count_zero)))
    (λ ge. ge)

pub day_of_clock : (at : DateTime) (n : ℤ) → civil_nanos at ≡ n → day_of n ≡ epoch_day at.date
day_of_clock at n e = ap day_of (sym e) ∙ sym (epoch_day-civil_nanos at)

pub second_of_clock : (at : DateTime) (n : ℤ) → civil_nanos at ≡ n → second_of n ≡ time_seconds at.time
second_of_clock at n e = omega (arith, signed_arith, civil_nanos-parts at, time_nanos_bound at.time)

same_date_text : {y y' m m' d d' : ℕ} → y ≡ y' → m ≡ m' → d ≡ d' → date_parts_text y m d ≡ date_parts_text y' m' d'
same_date_text e f g = rw (e, f, g)

pub date_text_of_clock : (at : DateTime) (n : ℤ) → civil_nanos at ≡ n → IsShownDate at.date → date_text n ≡ clock_date_text at.date
date_text_of_clock at n e shown =
    let on = date_on at.date shown in
    ap (λ day. date_parts_text (year_on day) (month_on day) (day_on day)) (day_of_clock at n e) ∙ same_date_text on.0 on.1 on.2

pub time_text_of_clock : (at : DateTime) (n : ℤ) → civil_nanos at ≡ n → time_text n ≡ clock_time_text at.time
time_text_of_clock at n e =
    let s = time_seconds at.time in
    let hour : s / 3_600 ≡ at.time.hour = omega arith in
    let minute : s / 60 % 60 ≡ at.time.minute = omega arith in
    let second : s % 60 ≡ at.time.second = omega arith in
    rw (second_of_clock at n e, hour, minute, second)

pub moment_text_of_clock : (at : DateTime) (n : ℤ) → civil_nanos at ≡ n → IsShownDate at.date → moment_text n ≡ clock_text at
unfolding moment_text
moment_text_of_clock at n e shown =
    ap (λ d. d ++ 84 ∷ time_text n ++ 90 ∷ []) (date_text_of_clock at n e shown) ∙ ap (λ t. clock_date_text at.date ++ 84 ∷ t ++ 90 ∷ []) (time_text_of_clock at n e)
