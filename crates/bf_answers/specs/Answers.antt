-- The entries of a table that answers as a report tells.
use Rattle.std.specs.Prelude.{ℕ, ◌-◌, ℤ, pos, negsuc, List, [], ◌∷◌, ◌++◌, map, Some, None}
use Rattle.std.specs.List.{flat_map, enumerate_from, range_with_len, zip}
use Rattle.bf_value.specs.Json.{json_of}
use Rattle.bf_moment.specs.Moment.{moment_text}
use Rattle.bf_xcom.specs.declared.values.Outcome.{Outcome}
use Rattle.bf_xcom.specs.declared.values.Outcome.TheVariants.{Success, Failed, Skipped}
use Rattle.bf_xcom.specs.declared.values.TaskResult.{TaskResult}
use Rattle.bf_table.specs.declared.table.TableEntry.{TableEntry}
use Rattle.bf_report.specs.declared.report.InstanceReport.{InstanceReport}
use Rattle.bf_report.specs.declared.report.TaskReport.{TaskReport}
use Rattle.bf_report.specs.declared.report.RunReport.{RunReport}
use Rattle.bf_report.specs.declared.report.Report.{Report}

-- the entry that answers one try alone
abbrev pub entry_at : List ℕ → List ℕ → ℤ → ℕ → ℕ → List ℕ → TableEntry
entry_at run id index attempt status line =
    record {
      task = Some id;
      index = Some index;
      run = Some run;
      attempt = Some (pos attempt);
      status = status;
      line = line;
    }

-- the entry by which a try ends so; a success that pushes nothing needs none
abbrev pub entries_for : List ℕ → List ℕ → ℤ → ℕ → Outcome → List TableEntry
entries_for run id index attempt (Success None) = []
entries_for run id index attempt (Success (Some value)) =
    entry_at run id index attempt 0 (json_of value) ∷ []
entries_for run id index attempt Failed = entry_at run id index attempt 1 [] ∷ []
entries_for run id index attempt Skipped = entry_at run id index attempt 99 [] ∷ []

-- the tries before the last, which failed
abbrev pub retried_entries : List ℕ → List ℕ → ℤ → ℕ → List TableEntry
retried_entries run id index tries =
    map (λ attempt. entry_at run id index attempt 1 []) (range_with_len 1 (tries - 1))

-- the tries of an instance
abbrev pub instance_entries : List ℕ → List ℕ → ℤ → TaskResult → List TableEntry
instance_entries run id index result =
    retried_entries run id index result.tries
    ++ entries_for run id index result.tries result.outcome

-- the instances of an expanded task, by map index from 0
abbrev pub mapped_entries : List ℕ → List ℕ → List InstanceReport → List TableEntry
mapped_entries run id instances =
    flat_map (λ pair. instance_entries run id (pos pair.0) pair.1.result)
    (enumerate_from 0 instances)

-- the instances of a task; one that was decided without a try has none
abbrev pub task_entries : List ℕ → List ℕ → TaskReport → List TableEntry
task_entries run id TaskReport.NoStatus = []
task_entries run id TaskReport.Skipped = []
task_entries run id TaskReport.UpstreamFailed = []
task_entries run id (TaskReport.Ran instance) = instance_entries run id (negsuc 0) instance.result
task_entries run id (TaskReport.Mapped instances) = mapped_entries run id instances

-- the tasks of a run, each under its id
abbrev pub tasks_entries : List ℕ → List (List ℕ) → List TaskReport → List TableEntry
tasks_entries run ids tasks = flat_map (λ pair. task_entries run pair.0 pair.1) (zip ids tasks)

abbrev pub run_entries : List (List ℕ) → RunReport → List TableEntry
run_entries ids run = tasks_entries (moment_text run.interval.start.nanosecond) ids run.tasks

-- run after run
abbrev pub answers_in : Report → List TableEntry
answers_in report = flat_map (run_entries report.tasks) report.runs
