-- The data intervals on days are such as runs have.
use Rattle.std.proofs.Common.{◌≡◌, ℕ, ◌≤◌, ℤ, List, [], ◌∷◌, length, get_or, Ok, ap, ◌∙◌, arith, rules}
use Rattle.std.proofs.lemmas.Int.{ints}
use Rattle.std.proofs.lemmas.List.Elements.{All-cons, All-nil}
use Rattle.jiff.specs.Types.{TimeZone}
use Rattle.bf_cron.specs.Cron.{IsRead, schedule_of}
use Rattle.bf_cron.specs.declared.spec.CronSpec.{CronSpec}
use Rattle.bf_interval.specs.Fires.{IsInterval}
use Rattle.bf_interval.specs.Intervals.{ends, AreIntervals, IsRange, StartsIn}
use Rattle.bf_interval.specs.Runs.{AreOfRuns, IsOfRun, IsSaid}
use Rattle.bf_interval.specs.Years.{IsInYears}
use Rattle.bf_interval.specs.declared.interval.Interval.{Interval}
use Rattle.bf_interval.proofs.Ending.{intervals_end_by_2208}
use Rattle.bf_days.specs.declared.days.Days.{Days}
use Rattle.bf_days.specs.Listing.{AreIntervalsOn}

pair : (a b c d : ℤ) → a ≡ c → b ≡ d → ◌≡◌ {A = ℤ × ℤ} (a, b) (c, d)
pair a b c d p q = ap (λ (x : ℤ). (x, b)) p ∙ ap (λ (y : ℤ). (c, y)) q

-- a data interval is all of the range of its start
alone : (spec : CronSpec) (zone : TimeZone) (i : Interval) → IsInterval spec zone i.start.nanosecond i.end.nanosecond → AreIntervals spec zone i.start.nanosecond i.start.nanosecond (i ∷ [])
alone spec zone i is = record {
  rising = search rules;
  each = All-cons (λ j. StartsIn spec zone i.start.nanosecond i.start.nanosecond (ends j)) i [] (is, omega (arith, ints), omega (arith, ints)) (All-nil (λ j. StartsIn spec zone i.start.nanosecond i.start.nanosecond (ends j)));
  all = λ v starts.
      let other = starts.0 in
      let low = starts.1 in
      let high = starts.2 in
      let rises = other.rises in
      let same : i.start.nanosecond ≡ v.0 = omega (arith, ints) in
      let behind = is.next v.1 other.closes (omega (arith, ints)) in
      let before = other.next i.end.nanosecond is.closes (omega (arith, ints, is.rises)) in
      (0, omega arith, pair i.start.nanosecond i.end.nanosecond v.0 v.1 same (omega (arith, ints)));
}

of_run : (text : List ℕ) (spec : CronSpec) (zone : TimeZone) (i : Interval) → IsRead (schedule_of text) (Ok spec) → IsInterval spec zone i.start.nanosecond i.end.nanosecond → IsInYears i.start.nanosecond → IsOfRun i
of_run text spec zone i said is years =
    let range : IsRange i.start.nanosecond i.start.nanosecond = record { from_in_years = years; to_in_years = years; in_order = omega (arith, ints) } in
    intervals_end_by_2208 text spec said zone i.start.nanosecond i.start.nanosecond range (i ∷ []) (alone spec zone i is) 0 i (omega arith)

pub of_runs : (spec : CronSpec) (zone : TimeZone) (days : Days) (found : List Interval) → IsSaid spec → length found ≤ 4_096 → AreIntervalsOn spec zone days found → AreOfRuns found
of_runs spec zone days found said few are = record {
  few = few;
  each = λ k d h. (let on = are.each k d h in of_run said.0 spec zone (get_or found k d) said.1 on.0 on.1);
  rising = are.rising;
}
