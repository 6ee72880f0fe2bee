-- The data intervals of runs.
use Rattle.std.proofs.Common.{◌≡◌, ◌/◌, ◌%◌, zero, suc, ℤ, pos, negsuc, ◌<ℤ◌, List, All, ap, arith, rules}
use Rattle.std.specs.Prelude.{AllPairs}
use Rattle.std.proofs.lemmas.Int.{ints}
use Rattle.jiff.specs.declared.timestamp.Timestamp.{Timestamp}
use Rattle.bf_moment.specs.Moment.{IsWhole}
use Rattle.bf_interval.specs.Intervals.{IsShownInterval}
use Rattle.bf_interval.specs.Runs.{AreOfRuns, IsOfRun, IsSecondTo2208, intervals_at}
use Rattle.bf_interval.specs.Years.{IsInYears}
use Rattle.bf_interval.specs.declared.interval.Interval.{Interval}

-- the moments of the intervals of runs have years of four digits
pub shown_of_runs : (intervals : List Interval) → AreOfRuns intervals → All IsShownInterval intervals
shown_of_runs intervals are = λ k d below.
    let is = are.each k d below in
    let start = is.start.is in
    let end = is.end.is in
    let start_to = is.start.to_2208 in
    let end_to = is.end.to_2208 in
    ((omega (arith, ints), omega (arith, ints)), (omega (arith, ints), omega (arith, ints)))

-- a whole second of the years
whole_second : (n : ℤ) → IsInYears n → IsWhole n → IsSecondTo2208 n
whole_second (pos m) years whole =
    let none : m % 1_000_000_000 ≡ 0 = cc whole in
    let (first, last) = years in
    record { second = m / 1_000_000_000; is = ap pos (omega (arith, none)); to_2208 = omega (arith, ints) }
whole_second (negsuc m) years whole = let (first, last) = years in let none : ⊥ = omega (arith, ints) in absurd none

-- the one interval of a run at a whole second of the years
pub of_run_at : (at : Timestamp) → IsInYears at.nanosecond → IsWhole at.nanosecond → AreOfRuns (intervals_at at)
of_run_at at years whole = record {
  few = omega arith;
  each = each;
  rising = rising;
}
  where
    second : IsSecondTo2208 at.nanosecond
    second = whole_second at.nanosecond years whole

    each : All IsOfRun (intervals_at at)
    each zero d below = record { in_years = years; in_order = omega (arith, ints); start = second; end = second }
    each (suc k) d below = let none : ⊥ = omega arith in absurd none

    rising : AllPairs (λ i j. i.start.nanosecond <ℤ j.start.nanosecond) (intervals_at at)
    rising = search rules
