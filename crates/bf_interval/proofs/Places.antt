-- Where a data interval stands in the listing of its range.
use Rattle.std.proofs.Common.{◌≡◌, ℕ, ◌<◌, ℤ, ◌<ℤ◌, List, length, get_or, ap, ◌∙◌, sym, arith, inl, inr}
use Rattle.std.proofs.lemmas.Int.{ints}
use Rattle.std.proofs.lemmas.Bool.{cases_order}
use Rattle.std.proofs.lemmas.List.{length-map, get_or-map}
use Rattle.jiff.specs.Types.{TimeZone}
use Rattle.bf_cron.specs.declared.spec.CronSpec.{CronSpec}
use Rattle.bf_interval.specs.Intervals.{ends, AreIntervals, StartsIn}
use Rattle.bf_interval.specs.declared.interval.Interval.{Interval}

pub stands_at : (spec : CronSpec) (zone : TimeZone) (from to : ℤ) (found : List Interval) (p : ℤ × ℤ) → AreIntervals spec zone from to found → StartsIn spec zone from to p → (j : ℕ) × (j < length found) × ((d : Interval) → (get_or found j d).start.nanosecond ≡ p.0)
stands_at spec zone from to found p are is =
    let (j, small, at) = are.all p is in
    let inside : j < length found = omega (arith, small, length-map found ends) in
    (j, inside, λ d. ap (λ q. q.0) (sym (get_or-map ends found j d p inside) ∙ at))

-- the places of a listing go with its starts
pub place_before : (spec : CronSpec) (zone : TimeZone) (from to : ℤ) (found : List Interval) (i j : ℕ) (d : Interval) → AreIntervals spec zone from to found → i < length found → j < length found → (get_or found i d).start.nanosecond <ℤ (get_or found j d).start.nanosecond → i < j
place_before spec zone from to found i j d are small inside up =
    elim (cases_order i j) as (λ _. i < j) [
      | inl e ↦ let same = ap (λ k. (get_or found k d).start.nanosecond) e in absurd (omega (arith, ints))
      | inr r ↦ elim r as (λ _. i < j) [ inl l ↦ l | inr g ↦ absurd (omega (arith, ints, are.rising j i d g small)) ]
    ]
