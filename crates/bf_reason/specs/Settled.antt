-- What came of the tasks of a run, and what is seen of it by those that look at them.
use Rattle.std.specs.Prelude.{◌≡◌, ◌≤◌, ℕ, zero, suc, List, [], length, Option, None, Some, slice_get}
use Rattle.bf_rule.specs.Verdicts.{total_of}
use Rattle.bf_try.specs.Grades.{most_items}
use Rattle.bf_core.specs.Terms.{Counts, TaskResult, TaskValue}
use Rattle.bf_core.specs.Deciding.{Seen, counts_in, settled}
use Rattle.bf_report.specs.declared.report.TaskReport.{TaskReport}
use Rattle.bf_clear.specs.Entries.{value_in, value_by}

-- no more instances than a source may give items
abbrev pub IsFewTask : TaskReport → Type 0
IsFewTask (TaskReport.Mapped instances) = length instances ≤ most_items
IsFewTask _ = Unit {0}

-- the value of a task, with its instances counted
pub record IsCounted (told : TaskReport) (value : TaskValue) (counts : Counts) : Type 0 where
  pub has_value : value ≡ value_in told
  pub counted : counts ≡ counts_in value
  pub few : total_of counts ≤ most_items

-- what came of each instance, by map index
abbrev pub results_of : TaskValue → List TaskResult
results_of (TaskValue.Ran results) = results
results_of _ = []

-- the value of the task of this number among the tasks of a run
abbrev pub value_among : List TaskReport → ℕ → TaskValue
value_among tasks task = value_by (slice_get tasks task)

abbrev pub seen_among : List TaskReport → ℕ → Seen
seen_among tasks task = settled (value_among tasks task)

-- its value in the run before, of which these are the tasks; the first run has none before it
abbrev pub before_among : List TaskReport → ℕ → ℕ → Option TaskValue
before_among before zero task = None
before_among before (suc run) task = Some (value_among before task)
