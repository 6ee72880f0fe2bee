-- Two answers to one range are the same, want of memory aside.
use Rattle.std.proofs.Common.{◌≡◌, ◌≢◌, ◌⊎◌, ℕ, zero, suc, ◌+◌, ◌<◌, ◌≤◌, ℤ, ◌<ℤ◌, List, [], ◌∷◌, length, get_or, refl, ap, subst, arith, inl, inr, Result, Ok, Err}
use Rattle.std.proofs.lemmas.Int.{ints}
use Rattle.jiff.specs.Types.{TimeZone}
use Rattle.bf_cron.specs.declared.spec.CronSpec.{CronSpec}
use Rattle.bf_interval.specs.Years.{IsInYears}
use Rattle.bf_interval.specs.Intervals.{AreIntervals, HasIntervals, IsRange, IsAnswer}
use Rattle.bf_interval.specs.declared.interval.Interval.{Interval}
use Rattle.bf_interval.specs.declared.fault.IntervalFault.{IntervalFault}
use Rattle.bf_interval.specs.declared.fault.IntervalFault.TheVariants.{OutsideYears, RangeReversed, TooManyRuns, OutOfMemory}
use Rattle.bf_interval.proofs.OneListing.{one_listing}
use Rattle.bf_interval.proofs.Places.{stands_at, place_before}

-- the interval stands in the listing, at the place i or later
record StandsLate (found : List Interval) (p : ℤ × ℤ) (i : ℕ) : Type 0 where
  place : ℕ
  inside : place < length found
  start : (d : Interval) → (get_or found place d).start.nanosecond ≡ p.0
  late : i ≤ place

-- of at least n data intervals the i-th does
stands_late : (spec : CronSpec) (zone : TimeZone) (from to : ℤ) (found : List Interval) (d : Interval) (n i : ℕ) (many : HasIntervals spec zone from to n) → AreIntervals spec zone from to found → i < n → StandsLate found (many.at i) i
stands_late spec zone from to found d n zero many are small =
    let (j, inside, start) = stands_at spec zone from to found (many.at 0) are (many.each 0 small) in
    record { place = j; inside = inside; start = start; late = omega arith }
stands_late spec zone from to found d n (suc i) many are small =
    let before = stands_late spec zone from to found d n i many are (omega arith) in
    let (j, inside, start) = stands_at spec zone from to found (many.at (suc i)) are (many.each (suc i) small) in
    let next : i + 1 ≡ suc i = omega arith in
    let P : ℕ → Type 0 = λ k. (many.at i).0 <ℤ (many.at k).0 in
    let up = subst P next (many.rising i (omega arith)) in
    let here = start d in
    let there = before.start d in
    let more = place_before spec zone from to found before.place j d are before.inside inside (omega (arith, ints)) in
    record { place = j; inside = inside; start = start; late = omega (arith, before.late, more) }

too_many : (spec : CronSpec) (zone : TimeZone) (from to : ℤ) (found : List Interval) → length found ≤ 4_096 → AreIntervals spec zone from to found → HasIntervals spec zone from to 4_097 → ⊥
too_many spec zone from to [] few are many =
    let (j, inside, _) = stands_at spec zone from to [] (many.at 0) are (many.each 0 (omega arith)) in
    omega (arith, inside)
too_many spec zone from to (x ∷ xs) few are many =
    let last = stands_late spec zone from to (x ∷ xs) x 4_097 4_096 many are (omega arith) in
    omega (arith, few, last.late, last.inside)

inside : {from to : ℤ} → ¬ (IsInYears from) ⊎ ¬ (IsInYears to) → IsInYears from → IsInYears to → ⊥
inside outside f t = elim outside [ inl no_from ↦ no_from f | inr no_to ↦ no_to t ]

turned : {from to : ℤ} → IsRange from to → to <ℤ from → ⊥
turned range down = let up = range.in_order in omega (arith, ints)

pub one_answer : (spec : CronSpec) (zone : TimeZone) (from to : ℤ) (x y : Result (List Interval) IntervalFault) → IsAnswer spec zone from to x → IsAnswer spec zone from to y → x ≢ Err OutOfMemory → y ≢ Err OutOfMemory → x ≡ y
one_answer spec zone from to (Err OutOfMemory) y a b m n = absurd (m refl)
one_answer spec zone from to x (Err OutOfMemory) a b m n = absurd (n refl)
one_answer spec zone from to (Ok xs) (Ok ys) a b m n = ap Ok (one_listing spec zone from to xs ys a.2 b.2)
one_answer spec zone from to (Ok xs) (Err OutsideYears) a b m n = absurd (inside b a.0.from_in_years a.0.to_in_years)
one_answer spec zone from to (Ok xs) (Err RangeReversed) a b m n = absurd (turned a.0 b.2)
one_answer spec zone from to (Ok xs) (Err TooManyRuns) a b m n = absurd (too_many spec zone from to xs a.1 a.2 b.1)
one_answer spec zone from to (Err OutsideYears) (Ok ys) a b m n = absurd (inside a b.0.from_in_years b.0.to_in_years)
one_answer spec zone from to (Err OutsideYears) (Err OutsideYears) a b m n = refl
one_answer spec zone from to (Err OutsideYears) (Err RangeReversed) a b m n = absurd (inside a b.0 b.1)
one_answer spec zone from to (Err OutsideYears) (Err TooManyRuns) a b m n = absurd (inside a b.0.from_in_years b.0.to_in_years)
one_answer spec zone from to (Err RangeReversed) (Ok ys) a b m n = absurd (turned b.0 a.2)
one_answer spec zone from to (Err RangeReversed) (Err OutsideYears) a b m n = absurd (inside b a.0 a.1)
one_answer spec zone from to (Err RangeReversed) (Err RangeReversed) a b m n = refl
one_answer spec zone from to (Err RangeReversed) (Err TooManyRuns) a b m n = absurd (turned b.0 a.2)
one_answer spec zone from to (Err TooManyRuns) (Ok ys) a b m n = absurd (too_many spec zone from to ys b.1 b.2 a.1)
one_answer spec zone from to (Err TooManyRuns) (Err OutsideYears) a b m n = absurd (inside b a.0.from_in_years a.0.to_in_years)
one_answer spec zone from to (Err TooManyRuns) (Err RangeReversed) a b m n = absurd (turned a.0 b.2)
one_answer spec zone from to (Err TooManyRuns) (Err TooManyRuns) a b m n = refl
