-- What has come of a task by an event, and to which tasks below it that matters.
use Rattle.std.specs.Prelude.{ℕ, Bool, not, ◌&&◌, Option, None, Some, is_some, ◌==◌, ◌||◌, if◌then◌else◌}
use Rattle.std.specs.List.{list_all}
use Rattle.bf_value.specs.declared.name.JobName.{JobName}
use Rattle.bf_rule.specs.declared.rule.Rule.{Rule}
use Rattle.bf_rule.specs.declared.rule.Counts.{Counts}
use Rattle.bf_rule.specs.Verdicts.{is_rule_met_in, none_counted, is_waiting}
use Rattle.bf_plan.specs.declared.plan.Dag.{Dag}
use Rattle.bf_core.specs.Terms.{task_of}
use Rattle.bf_core.specs.Deciding.{one_blocked, one_of, one_skipped, one_upstream_failed}
use Rattle.bf_core.specs.declared.state.Cell.{Cell}
use Rattle.bf_core.specs.declared.state.Instance.{Instance}
use Rattle.bf_core.specs.declared.state.Phase.{Phase}
use Rattle.bf_core.specs.declared.state.State.{State}
use Rattle.bf_core.specs.Events.{cell_at, instance_of, place_in, value_in, before_in}
use Rattle.bf_due.specs.declared.news.News.{News}
use Rattle.bf_plan.specs.Plans.{is_branch_in}

-- ---- news

-- an instance in this phase counts as what it has come to, and as nothing while it hasn't finished
abbrev pub finished_in : Phase → Counts
finished_in (Phase.Finished outcome) = one_of outcome
finished_in Phase.Waiting = none_counted
finished_in Phase.Running = none_counted

-- of a task that was decided: its instances haven't finished
abbrev pub heard_of_cell : Cell → Counts
heard_of_cell Cell.Undecided = none_counted
heard_of_cell Cell.Blocked = one_blocked
heard_of_cell Cell.Skipped = one_skipped
heard_of_cell Cell.UpstreamFailed = one_upstream_failed
heard_of_cell (Cell.Ran instances) = none_counted

-- of an instance of which a try has ended
abbrev pub heard_of_instance : Option Instance → Counts
heard_of_instance None = none_counted
heard_of_instance (Some instance) = finished_in instance.phase

-- the news of the task in the run, which was decided
abbrev pub decided_at : State → ℕ → ℕ → News
decided_at state run task =
    record { run = run; task = task; counts = heard_of_cell (cell_at state run task) }

-- the news of a task of which this try has ended
abbrev pub ended_at : Dag → State → JobName → News
ended_at dag state name =
    record {
      run = name.run;
      task = name.task;
      counts = heard_of_instance (instance_of (cell_at state name.run name.task)
          (place_in dag name));
    }

-- ---- to whom they matter

-- the rule looks for what is among these, and not for nothing
abbrev pub rule_looks_for_in : Rule → Counts → Bool
rule_looks_for_in rule counts = is_rule_met_in rule counts && not (is_rule_met_in rule none_counted)

abbrev pub is_settled : State → ℕ → ℕ → Bool
is_settled state run task = is_some (value_in (cell_at state run task))

-- each upstream of the task is settled in the run
abbrev pub all_settled : Dag → State → ℕ → ℕ → Bool
all_settled dag state run task = list_all (is_settled state run) (task_of dag task).upstreams

-- ---- to whom they matter

-- the task, below this upstream, waits until it is settled
abbrev pub waits_for_in : Dag → ℕ → ℕ → Bool
waits_for_in dag upstream task =
    is_waiting (task_of dag task).rule || is_branch_in (task_of dag upstream)

-- the task doesn't wait for its previous run: it does not depend on it, or there is none, or it is settled there
abbrev pub is_past_known_in : Dag → State → ℕ → ℕ → Bool
is_past_known_in dag state run task =
    not (task_of dag task).depends_on_past || ((run == 0) || is_some (before_in state run task))

-- the news may let the task be decided, which is below theirs and doesn't wait until that is settled: it is expanded, or
-- its rule looks for what has come and its past is known, or nothing else came of the run
abbrev pub may_let_early_in : Dag → State → News → ℕ → Bool
may_let_early_in dag state news task =
    is_some (task_of dag task).expand
    || ((rule_looks_for_in (task_of dag task).rule news.counts && is_past_known_in dag state news.run task)
    || all_settled dag state news.run task)

-- the news may let the task be decided, which is below theirs
abbrev pub may_let_be_decided_in : Dag → State → News → ℕ → Bool
may_let_be_decided_in dag state news task =
    if waits_for_in dag news.task task then is_settled state news.run news.task
    else may_let_early_in dag state news task
