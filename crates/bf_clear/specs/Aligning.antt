-- What a report tells of the tasks of a plan and of runs, however many others it tells of: by the ids of tasks and the data intervals of runs.
use Rattle.std.specs.Prelude.{◌≡◌, ℕ, Bool, List, [], ◌∷◌, map, Option, Some, None, option_and_then, slice_get}
use Rattle.std.specs.List.{find, position}
use Rattle.std.specs.Str.{bytes_eq}
use Rattle.bf_interval.specs.declared.interval.Interval.{Interval}
use Rattle.bf_plan.specs.declared.plan.Dag.{Dag}
use Rattle.bf_try.specs.Tries.{Ledger}
use Rattle.bf_report.specs.declared.report.TaskReport.{TaskReport}
use Rattle.bf_report.specs.declared.report.RunReport.{RunReport}
use Rattle.bf_report.specs.declared.report.Report.{Report}
use Rattle.bf_dependents.specs.declared.place.Place.{Place}
use Rattle.bf_clear.specs.Keeping.{AreKept}
use Rattle.bf_clear.specs.Matching.{is_same_interval_in}

abbrev pub or_nothing : Option TaskReport → TaskReport
or_nothing None = TaskReport.NoStatus
or_nothing (Some told) = told

-- what stands at that place, where there is one
abbrev pub told_at : List TaskReport → Option ℕ → TaskReport
told_at tasks place = or_nothing (option_and_then (slice_get tasks) place)

-- of each task of the plan what is told under its id
abbrev pub tasks_told : Dag → List (List ℕ) → List TaskReport → List TaskReport
tasks_told dag ids tasks = map (λ task. told_at tasks (position (bytes_eq task.id) ids)) dag.tasks

abbrev pub tasks_in : Option RunReport → List TaskReport
tasks_in None = []
tasks_in (Some run) = run.tasks

abbrev pub is_over : Interval → RunReport → Bool
is_over interval run = is_same_interval_in run.interval interval

-- what is told of the run over that data interval
abbrev pub tasks_at : List RunReport → Interval → List TaskReport
tasks_at runs interval = tasks_in (find (is_over interval) runs)

-- of each run what is told of it; its state is of no account
abbrev pub AreAligned : Dag → Report → List Interval → List RunReport → Type 0
AreAligned dag report [] [] = Unit {0}
AreAligned dag report (interval ∷ intervals) (run ∷ runs) =
    (run.interval ≡ interval) × (run.tasks
    ≡ tasks_told dag report.tasks (tasks_at report.runs interval))
    × AreAligned dag report intervals runs
AreAligned dag report [] (run ∷ runs) = ⊥
AreAligned dag report (interval ∷ intervals) [] = ⊥

-- the report tells of the plan and of these runs what the other tells under the same ids and data intervals
pub record IsAligned (dag : Dag) (intervals : List Interval) (told aligned : Report) : Type 0 where
  pub version : aligned.version ≡ told.version
  pub dag_id : aligned.dag_id ≡ told.dag_id
  pub tasks : aligned.tasks ≡ map (λ task. task.id) dag.tasks
  pub runs : AreAligned dag told intervals aligned.runs

-- this is kept of what the report tells of the plan and of these runs
pub record AreKeptByIds (dag : Dag) (intervals : List Interval) (seeds : List Place)
    (report : Report) (kept : Ledger) : Type 0 where
  pub aligned : Report
  pub is_aligned : IsAligned dag intervals report aligned
  pub are_kept : AreKept dag seeds aligned kept
