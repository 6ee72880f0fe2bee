-- A text of the long form is that of a clock.
use Rattle.std.proofs.Common.{◌≡◌, ◌≢◌, ℕ, suc, ◌+◌, ◌-◌, ◌*◌, ◌/◌, ◌%◌, ◌<◌, ◌≤◌, Bool, true, false, ◌&&◌, pos, List, [], ◌∷◌, ◌++◌, length, Option, Some, None, is_some, IfSome, IfNone, unsigned_abs, refl, sym, ap, ◌∙◌, subst, inl, inr, arith}
use Rattle.std.specs.Str.{bytes_eq}
use Rattle.std.proofs.lemmas.Bool.{and_parts, leb-true, le-leb}
use Rattle.std.proofs.lemmas.Slice.Eq.{bytes_eq-Decides}
use Rattle.jiff_core.specs.Calendar.{days_in_month}
use Rattle.jiff_core.specs.declared.civil.date.Date.{Date}
use Rattle.jiff_core.specs.declared.civil.time.Time.{Time}
use Rattle.jiff_core.specs.declared.civil.datetime.DateTime.{DateTime}
use Rattle.jiff_core.proofs.SignedLemmas.{signed_arith}
use Rattle.bf_moment.specs.Moment.{date_parts_text, time_parts_text}
use Rattle.bf_moment.specs.inner.Clock.{IsShownDate, SpellsClock, clock_text}
use Rattle.bf_moment.specs.Long.{two_from, four_from, is_date, is_time, is_long_of, is_long}
use Rattle.bf_moment.proofs.CalendarFacts.{abs_is}

both_true : (a b : Bool) → a ≡ true → b ≡ true → (a && b) ≡ true
both_true a b e f = rw (e, f) refl

-- what a test says that is the answer to whether there is a clock
answer : (b : Bool) → (b ≡ true → ⊥) → false ≡ b
answer false h = refl
answer true h = absurd (h refl)

-- ---- a clock's text is long

is_date_of : (d : Date) (y : ℕ) → d.year ≡ pos y → is_date y d.month d.day ≡ true
is_date_of d y e =
    let year : y ≤ 9_999 = omega (arith, signed_arith, d.year_in) in
    let day : d.day ≤ days_in_month (pos y) d.month = subst (λ x. d.day ≤ days_in_month x d.month) e d.day_in.1 in
    both_true _ _ (both_true _ _ (both_true _ _ (both_true _ _ (le-leb _ _ year) (le-leb _ _ d.month_in.0)) (le-leb _ _ d.month_in.1)) (le-leb _ _ d.day_in.0)) (le-leb _ _ day)

is_time_of : (t : Time) → is_time t.hour t.minute t.second ≡ true
is_time_of t =
    let hour : suc t.hour ≤ 24 = omega (arith, t.hour_in) in
    let minute : suc t.minute ≤ 60 = omega (arith, t.minute_in) in
    let second : suc t.second ≤ 60 = omega (arith, t.second_in) in
    both_true _ _ (both_true _ _ (le-leb _ _ hour) (le-leb _ _ minute)) (le-leb _ _ second)

two_back : (n : ℕ) → 10 * (48 + n / 10 - 48) + (48 + n % 10 - 48) ≡ n
two_back n = omega arith

four_back : (n : ℕ) → 100 * (10 * (48 + n / 1_000 - 48) + (48 + n / 100 % 10 - 48)) + (10 * (48 + n / 10 % 10 - 48) + (48 + n % 10 - 48)) ≡ n
four_back n = omega arith

by_numbers : (text : List ℕ) (y m d h n s : ℕ) → four_from text 0 ≡ y → two_from text 5 ≡ m → two_from text 8 ≡ d → two_from text 11 ≡ h → two_from text 14 ≡ n → two_from text 17 ≡ s
    → is_long_of text y m d h n s ≡ true → is_long text ≡ true
unfolding is_long
by_numbers text y m d h n s a b c e f g long = (λ i. is_long_of text (a i) (b i) (c i) (e i) (f i) (g i)) ∙ long

pub clock_is_long : (at : DateTime) → IsShownDate at.date → is_long (clock_text at) ≡ true
clock_is_long at shown =
    let y = unsigned_abs at.date.year in
    by_numbers (clock_text at) y at.date.month at.date.day at.time.hour at.time.minute at.time.second
    (four_back y) (two_back at.date.month) (two_back at.date.day) (two_back at.time.hour) (two_back at.time.minute) (two_back at.time.second)
    (both_true _ _ (both_true _ _ ((bytes_eq-Decides (clock_text at) (clock_text at)).1 refl) (is_date_of at.date y (abs_is at.date.year shown))) (is_time_of at.time))

-- ---- a long text is a clock's

record IsDateOf (y m d : ℕ) : Type 0 where
  year : y ≤ 9_999
  month : (1 ≤ m) × (m ≤ 12)
  day : (1 ≤ d) × (d ≤ days_in_month (pos y) m)

date_from : (y m d : ℕ) → is_date y m d ≡ true → IsDateOf y m d
date_from y m d e =
    let a = and_parts _ _ e in
    let b = and_parts _ _ a.0 in
    let c = and_parts _ _ b.0 in
    let f = and_parts _ _ c.0 in
    record { year = leb-true _ _ f.0; month = (leb-true _ _ f.1, leb-true _ _ c.1); day = (leb-true _ _ b.1, leb-true _ _ a.1) }

time_from : (h n s : ℕ) → is_time h n s ≡ true → (h < 24) × (n < 60) × (s < 60)
time_from h n s e =
    let a = and_parts _ _ e in
    let b = and_parts _ _ a.0 in
    (leb-true _ _ b.0, leb-true _ _ b.1, leb-true _ _ a.1)

clock_by : (text : List ℕ) (y m d h n s : ℕ) → is_long_of text y m d h n s ≡ true → (at : DateTime) × SpellsClock text at
clock_by text y m d h n s e =
    let a = and_parts (bytes_eq text (date_parts_text y m d ++ 84 ∷ time_parts_text h n s ++ 90 ∷ []) && is_date y m d) (is_time h n s) e in
    let b = and_parts (bytes_eq text (date_parts_text y m d ++ 84 ∷ time_parts_text h n s ++ 90 ∷ [])) (is_date y m d) a.0 in
    let on : IsDateOf y m d = date_from y m d b.1 in
    let of_day : (h < 24) × (n < 60) × (s < 60) = time_from h n s a.1 in
    let date : Date = record { year = pos y; month = m; day = d; year_in = omega (arith, signed_arith, on.year); month_in = on.month; day_in = on.day } in
    let time : Time = record { hour = h; minute = n; second = s; subsec_nanosecond = 0; hour_in = omega (arith, of_day.0); minute_in = omega (arith, of_day.1); second_in = omega (arith, of_day.2); subsec_in = omega arith } in (
      record { date = date; time = time },
      record { year = omega (arith, signed_arith); whole = refl; text = inl ((bytes_eq-Decides text (date_parts_text y m d ++ 84 ∷ time_parts_text h n s ++ 90 ∷ [])).0 b.0) },
    )

pub clock_of_long : (text : List ℕ) → is_long text ≡ true → (at : DateTime) × SpellsClock text at
unfolding is_long
clock_of_long text e = clock_by text _ _ _ _ _ _ e

pub long_length : (text : List ℕ) → is_long text ≡ true → length text ≡ 20
unfolding is_long
long_length text e = ap length ((bytes_eq-Decides text _).0 (and_parts _ _ (and_parts _ _ e).0).0)

-- ---- whether a text is long

pub not_long : (text : List ℕ) → length text ≢ 20 → false ≡ is_long text
not_long text other = answer (is_long text) (λ e. other (long_length text e))

spells_long : (bytes text : List ℕ) (at : DateTime) → bytes ≡ text → length text ≡ 20 → SpellsClock bytes at → is_long text ≡ true
spells_long bytes text at same len spells = elim spells.text [
  | inl e ↦ subst (λ t. is_long t ≡ true) (sym e ∙ same) (clock_is_long at spells.year)
  | inr w ↦ let short : length bytes ≡ 10 = ap length w.1 in absurd (omega (arith, ap length same))
]

pub long_is_clock : (found : Option DateTime) (bytes text : List ℕ) → bytes ≡ text → length text ≡ 20 → IfSome found (SpellsClock bytes) → IfNone found ((at : DateTime) → SpellsClock bytes at → ⊥) → is_some found ≡ is_long text
long_is_clock (Some at) bytes text same len spells none = sym (spells_long bytes text at same len spells)
long_is_clock None bytes text same len spells none =
    answer (is_long text) (λ e. let clock = clock_of_long bytes (subst (λ t. is_long t ≡ true) (sym same) e) in none clock.0 clock.1)
