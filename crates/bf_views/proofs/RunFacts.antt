-- The runs of a report that was read are runs that a backfill may have.
use Rattle.std.proofs.Common.{◌≡◌, ◌*◌, ◌/◌, ◌%◌, ℕ, ℤ, pos, negsuc, ◌≤ℤ◌, ◌<ℤ◌, unsigned_abs, List, [], ◌∷◌, length, ap, arith}
use Rattle.std.specs.Int.{int_rem_euclid}
use Rattle.std.specs.List.{AllByRecursion, AllPairs}
use Rattle.std.proofs.lemmas.Int.{ints}
use Rattle.std.proofs.lemmas.List.{length-map}
use Rattle.std.proofs.lemmas.List.Elements.{All-from_recursion}
use Rattle.std.proofs.lemmas.List.Kept.{AllPairs-cons}
use Rattle.bf_interval.specs.declared.interval.Interval.{Interval}
use Rattle.bf_interval.specs.Runs.{AreOfRuns, IsOfRun, IsSecondTo2208}
use Rattle.bf_report.specs.declared.report.Report.{Report}
use Rattle.bf_report.specs.declared.report.RunReport.{RunReport}
use Rattle.bf_report.specs.declared.report.Version.{Version}
use Rattle.bf_report_reader.specs.Rules.{IsShownReport, IsShownRun, Rise}
use Rattle.bf_report_reader.specs.Runs.{IsRunInterval}
use Rattle.bf_views.specs.Matching.{intervals_in}

second : (n : ℤ) → int_rem_euclid n (pos 1_000_000_000) ≡ pos 0 → pos 0 ≤ℤ n → n ≤ℤ pos 7_542_115_199_000_000_000 → IsSecondTo2208 n
second (pos k) whole from to =
    let none : k % 1_000_000_000 ≡ 0 = ap unsigned_abs whole in
    let is : k ≡ k / 1_000_000_000 * 1_000_000_000 = omega (arith, none) in
    record { second = k / 1_000_000_000; is = ap pos is; to_2208 = omega (arith, ints, is, to) }
second (negsuc k) whole from to = absurd (omega (arith, ints, from))

of_run : (interval : Interval) → IsRunInterval interval → IsOfRun interval
of_run interval is = record {
  in_years = is.in_years;
  in_order = is.in_order;
  start = second interval.start.nanosecond is.start.whole is.start.from_1970 is.start.to_2208;
  end = second interval.end.nanosecond is.end.whole is.end.from_1970 is.end.to_2208;
}

each_of_run : (version : Version) (tasks : ℕ) (runs : List RunReport) → AllByRecursion (IsShownRun version tasks) runs → AllByRecursion IsOfRun (intervals_in runs)
each_of_run version tasks [] shown = tt
each_of_run version tasks (run ∷ runs) shown = (of_run run.interval shown.0.interval, each_of_run version tasks runs shown.1)

abbrev Rises : Interval → Interval → Type 0
Rises interval later = interval.start.nanosecond <ℤ later.start.nanosecond

-- what starts before the first of these starts before each
before_each : (interval : Interval) (first : RunReport) (rest : List RunReport) → Rise (first ∷ rest) → Rises interval first.interval → AllByRecursion (Rises interval) (intervals_in (first ∷ rest))
before_each interval first [] rise low = (low, tt)
before_each interval first (next ∷ rest) rise low = (low, before_each interval next rest rise.1 (omega (arith, ints, low, rise.0)))

rising : (runs : List RunReport) → Rise runs → AllPairs Rises (intervals_in runs)
rising [] rise = λ i j d up low. absurd (omega (arith, low))
rising (run ∷ []) rise = λ i j d up low. absurd (omega (arith, up, low))
rising (run ∷ next ∷ rest) rise =
    AllPairs-cons Rises run.interval (intervals_in (next ∷ rest)) (All-from_recursion (Rises run.interval) (intervals_in (next ∷ rest)) (before_each run.interval next rest rise.1 rise.0)) (rising (next ∷ rest) rise.1)

pub are_of_runs : (report : Report) → IsShownReport report → AreOfRuns (intervals_in report.runs)
are_of_runs report shown = record {
  few = omega (arith, length-map report.runs (λ (run : RunReport). run.interval), shown.few_runs);
  each = All-from_recursion IsOfRun (intervals_in report.runs) (each_of_run report.version (length report.tasks) report.runs shown.runs);
  rising = rising report.runs shown.rise;
}
