-- What stands in a report of a plan is of tasks and runs that are there.
use Rattle.std.proofs.Common.{◌≡◌, ℕ, zero, suc, ◌<◌, ◌==◌, ◌||◌, true, List, [], ◌∷◌, length, Option, None, Some, slice_get, refl, sym, ap, ◌∙◌, arith}
use Rattle.std.specs.List.{list_all, zip}
use Rattle.std.specs.Option.{option_and_then}
use Rattle.std.specs.Str.{bytes_eq}
use Rattle.std.proofs.lemmas.Bool.{and_parts, eqb-true}
use Rattle.std.proofs.lemmas.Option.{slice_get_within}
use Rattle.bf_interval.specs.declared.interval.Interval.{Interval}
use Rattle.bf_core.specs.Terms.{Dag}
use Rattle.bf_report.specs.declared.report.Version.{Version}
use Rattle.bf_report.specs.declared.report.RunReport.{RunReport}
use Rattle.bf_report.specs.declared.report.TaskReport.{TaskReport}
use Rattle.bf_report.specs.declared.report.Report.{Report}
use Rattle.bf_clear.specs.Entries.{instance_in}
use Rattle.bf_clear.specs.inner.Entries.{IsWithin}
use Rattle.bf_clear.specs.Matching.{are_ids_in, are_runs_in, are_tasks_in, is_report_in, is_run_in, is_same_interval_in}

-- each run that is told of is of the plan
each_run : (v : Version) (dag : Dag) (runs : List RunReport) (intervals : List Interval) → length runs ≡ length intervals → list_all (λ p. is_run_in v dag p.0 p.1) (zip runs intervals) ≡ true →
    (k : ℕ) (run : RunReport) → slice_get runs k ≡ Some run → length run.tasks ≡ length dag.tasks
each_run v dag [] intervals len all k run e = cc
each_run v dag (r ∷ rs) [] len all k run e = absurd (omega (arith, len))
each_run v dag (r ∷ rs) (i ∷ is) len all zero run e =
    let same : r ≡ run = cc in
    let first : _ = and_parts (is_run_in v dag r i) (list_all (λ p. is_run_in v dag p.0 p.1) (zip rs is)) all in
    let tasks : _ = and_parts (is_same_interval_in r.interval i) (are_tasks_in v dag r.tasks) first.0 in
    let count : _ = and_parts (length r.tasks == length dag.tasks) _ tasks.1 in
    ap (λ (r : RunReport). length r.tasks) (sym same) ∙ eqb-true (length r.tasks) (length dag.tasks) count.0
each_run v dag (r ∷ rs) (i ∷ is) len all (suc k) run e =
    let rest : _ = and_parts (is_run_in v dag r i) (list_all (λ p. is_run_in v dag p.0 p.1) (zip rs is)) all in
    each_run v dag rs is (omega (arith, len)) rest.1 k run e

-- a report with so many runs, each of which tells of each task, is of what is there
pub sized_within : (dag : Dag) (runs : ℕ) (report : Report) → length report.runs ≡ runs → ((k : ℕ) (run : RunReport) → slice_get report.runs k ≡ Some run → length run.tasks ≡ length dag.tasks) → IsWithin dag runs report
sized_within dag runs report len each k t index x e = at (slice_get report.runs k) refl e
  where
    in_run : (run : RunReport) → slice_get report.runs k ≡ Some run → (task : Option TaskReport) → slice_get run.tasks t ≡ task → option_and_then (λ x. instance_in x index) task ≡ Some x → (k < runs) × (t < length dag.tasks)
    in_run run there None h f = cc
    in_run run there (Some task) h f =
        let low : k < length report.runs = slice_get_within report.runs k run there in
        let below : t < length run.tasks = slice_get_within run.tasks t task h in
        let size : length run.tasks ≡ length dag.tasks = each k run there in
        (omega (arith, low, len), omega (arith, below, size))

    at : (o : Option RunReport) → slice_get report.runs k ≡ o → option_and_then (λ x. instance_in x index) (option_and_then (λ run. slice_get run.tasks t) o) ≡ Some x → (k < runs) × (t < length dag.tasks)
    at None h f = cc
    at (Some run) h f = in_run run h (slice_get run.tasks t) refl f

pub matches_within : (dag : Dag) (intervals : List Interval) (report : Report) → is_report_in dag intervals report ≡ true → IsWithin dag (length intervals) report
unfolding is_report_in
matches_within dag intervals report is = sized_within dag (length intervals) report len (each_run report.version dag report.runs intervals len parts.1)
  where
    runs : are_runs_in report.version dag report.runs intervals ≡ true
    runs = (and_parts (length intervals == 0 || are_ids_in report.tasks dag.tasks) _ (and_parts (bytes_eq report.dag_id dag.id) _ is).1).1

    parts : ((length report.runs == length intervals) ≡ true) × (list_all (λ p. is_run_in report.version dag p.0 p.1) (zip report.runs intervals) ≡ true)
    parts = and_parts (length report.runs == length intervals) (list_all (λ p. is_run_in report.version dag p.0 p.1) (zip report.runs intervals)) runs

    len : length report.runs ≡ length intervals
    len = eqb-true (length report.runs) (length intervals) parts.0
