-- No two moments of whole seconds have one text, and each text is ASCII.
use Rattle.std.proofs.Common.{◌≡◌, ℕ, zero, suc, ◌+◌, ◌/◌, ◌%◌, ◌<◌, List, [], ◌∷◌, get_or, ℤ, pos, unsigned_abs, sym, ap, ◌∙◌, subst, arith}
use Rattle.std.specs.List.{AllByRecursion}
use Rattle.std.specs.Str.{IsAscii}
use Rattle.jiff_core.specs.declared.civil.date.Date.{Date}
use Rattle.jiff_core.specs.declared.civil.datetime.DateTime.{DateTime}
use Rattle.jiff_core.specs.Calendar.{days_from_civil}
use Rattle.jiff_core.specs.Date.{epoch_day}
use Rattle.jiff_core.specs.DateTime.{civil_nanos}
use Rattle.jiff_core.proofs.SignedLemmas.{signed_arith}
use Rattle.jiff_core.proofs.CalendarLemmas.{days_in_month_bounds}
use Rattle.jiff_core.proofs.DateTimeLemmas.{civil_nanos-parts}
use Rattle.bf_moment.specs.Moment.{IsShown, IsWhole, moment_text}
use Rattle.bf_moment.specs.inner.Clock.{IsShownDate, clock_text}
use Rattle.bf_moment.proofs.CalendarFacts.{abs_is}
use Rattle.bf_moment.proofs.ClockFacts.{clock_of}
use Rattle.bf_moment.proofs.MomentFacts.{shown_date, moment_text_of_clock}

two_same : (a b : ℕ) → a < 100 → b < 100 → 48 + a / 10 ≡ 48 + b / 10 → 48 + a % 10 ≡ 48 + b % 10 → a ≡ b
two_same a b la lb tens ones = omega arith

four_same : (a b : ℕ) → a < 10_000 → b < 10_000 → 48 + a / 1_000 ≡ 48 + b / 1_000 → 48 + a / 100 % 10 ≡ 48 + b / 100 % 10 → 48 + a / 10 % 10 ≡ 48 + b / 10 % 10 → 48 + a % 10 ≡ 48 + b % 10 → a ≡ b
four_same a b la lb d e f g = omega arith

year_is : (d : Date) → IsShownDate d → unsigned_abs d.year < 10_000
year_is d shown = omega (arith, signed_arith, d.year_in, abs_is d.year shown)

day_is : (d : Date) → d.day < 100
day_is d = omega (arith, d.day_in.1, days_in_month_bounds d.year d.month)

same_days : (a b : Date) → a.year ≡ b.year → a.month ≡ b.month → a.day ≡ b.day → epoch_day a ≡ epoch_day b
same_days a b y m d = ap (λ z. days_from_civil z a.month a.day) y ∙ ap (λ n. days_from_civil b.year n a.day) m ∙ ap (λ n. days_from_civil b.year b.month n) d

one_clock : (a b : DateTime) → IsShownDate a.date → IsShownDate b.date → a.time.subsec_nanosecond ≡ 0 → b.time.subsec_nanosecond ≡ 0 → clock_text a ≡ clock_text b → civil_nanos a ≡ civil_nanos b
one_clock a b shown_a shown_b whole_a whole_b e =
    let at : (k : ℕ) → get_or (clock_text a) k 0 ≡ get_or (clock_text b) k 0 = λ k. ap (λ l. get_or l k 0) e in
    let year : unsigned_abs a.date.year ≡ unsigned_abs b.date.year = four_same _ _ (year_is a.date shown_a) (year_is b.date shown_b) (at 0) (at 1) (at 2) (at 3) in
    let years : a.date.year ≡ b.date.year = abs_is a.date.year shown_a ∙ ap pos year ∙ sym (abs_is b.date.year shown_b) in
    let month : a.date.month ≡ b.date.month = two_same _ _ (omega (arith, a.date.month_in)) (omega (arith, b.date.month_in)) (at 5) (at 6) in
    let day : a.date.day ≡ b.date.day = two_same _ _ (day_is a.date) (day_is b.date) (at 8) (at 9) in
    let hour : a.time.hour ≡ b.time.hour = two_same _ _ (omega (arith, a.time.hour_in)) (omega (arith, b.time.hour_in)) (at 11) (at 12) in
    let minute : a.time.minute ≡ b.time.minute = two_same _ _ (omega (arith, a.time.minute_in)) (omega (arith, b.time.minute_in)) (at 14) (at 15) in
    let second : a.time.second ≡ b.time.second = two_same _ _ (omega (arith, a.time.second_in)) (omega (arith, b.time.second_in)) (at 17) (at 18) in
    omega (arith, signed_arith, civil_nanos-parts a, civil_nanos-parts b, same_days a.date b.date years month day, hour, minute, second, whole_a, whole_b)

whole_clock : (at : DateTime) (n : ℤ) → civil_nanos at ≡ n → IsWhole n → at.time.subsec_nanosecond ≡ 0
whole_clock at n e whole = omega (arith, signed_arith, civil_nanos-parts at, at.time.subsec_in)

pub one_text : (m n : ℤ) → IsShown m → IsShown n → IsWhole m → IsWhole n → moment_text m ≡ moment_text n → m ≡ n
one_text m n shown_m shown_n whole_m whole_n e =
    let (a, is_a) = clock_of m shown_m in
    let (b, is_b) = clock_of n shown_n in
    let date_a = shown_date a m is_a shown_m in
    let date_b = shown_date b n is_b shown_n in
    sym is_a ∙ one_clock a b date_a date_b (whole_clock a m is_a whole_m) (whole_clock b n is_b whole_n)
    (sym (moment_text_of_clock a m is_a date_a) ∙ e ∙ moment_text_of_clock b n is_b date_b) ∙ is_b

-- ---- ASCII

low_ascii : (bs : List ℕ) → AllByRecursion (λ b. b < 128) bs → IsAscii bs
low_ascii [] low i = omega arith
low_ascii (b ∷ bs) low zero = low.0
low_ascii (b ∷ bs) low (suc i) = low_ascii bs low.1 i

clock_ascii : (at : DateTime) → IsShownDate at.date → IsAscii (clock_text at)
clock_ascii at shown =
    let year = unsigned_abs at.date.year in
    let below : year < 10_000 = year_is at.date shown in
    let day : at.date.day < 100 = day_is at.date in
    let month : at.date.month < 100 = omega (arith, at.date.month_in) in
    let hour : at.time.hour < 100 = omega (arith, at.time.hour_in) in
    let minute : at.time.minute < 100 = omega (arith, at.time.minute_in) in
    let second : at.time.second < 100 = omega (arith, at.time.second_in) in
    low_ascii (clock_text at)
    (omega arith, (omega arith, (omega arith, (omega arith, (omega arith, (omega arith, (omega arith, (omega arith, (omega arith, (omega arith, (omega arith, (omega arith, (omega arith, (omega arith, (omega arith, (omega arith, (omega arith, (omega arith, (omega arith, (omega arith, tt))))))))))))))))))))

pub moment_ascii : (n : ℤ) → IsShown n → IsAscii (moment_text n)
moment_ascii n shown =
    let (at, is) = clock_of n shown in
    let date = shown_date at n is shown in
    subst IsAscii (sym (moment_text_of_clock at n is date)) (clock_ascii at date)
