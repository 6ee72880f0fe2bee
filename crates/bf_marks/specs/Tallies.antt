-- How many instances came to each state.
use Rattle.std.specs.Prelude.{ℕ, ◌+◌, ◌-◌, ◌^◌, min, Bool, false, ◌||◌, nat_lt, List, map, fold, Option, None, Some, slice_get}
use Rattle.bf_xcom.specs.declared.values.Outcome.{Outcome}
use Rattle.bf_xcom.specs.declared.values.Outcome.TheVariants.{Success, Failed, Skipped}
use Rattle.bf_xcom.specs.declared.values.RunState.{RunState}
use Rattle.bf_report.specs.declared.report.InstanceReport.{InstanceReport}
use Rattle.bf_report.specs.declared.report.TaskReport.{TaskReport}
use Rattle.bf_report.specs.declared.report.RunReport.{RunReport}
use Rattle.bf_marks.specs.declared.tally.Tally.{Tally}

abbrev pub nothing : Tally
nothing =
    record {
      success = 0;
      failed = 0;
      upstream_failed = 0;
      skipped = 0;
      no_status = 0;
      retried = false;
    }

-- an instance that ended so at its try of this number
abbrev pub one_ended : Outcome → ℕ → Tally
one_ended (Success value) tries = record nothing { success = 1; retried = nat_lt 1 tries }
one_ended Failed tries = record nothing { failed = 1; retried = nat_lt 1 tries }
one_ended Skipped tries = record nothing { skipped = 1; retried = nat_lt 1 tries }

abbrev pub instance_tally : InstanceReport → Tally
instance_tally instance = one_ended instance.result.outcome instance.result.tries

-- a sum as a counter of 64 bits holds it
abbrev pub plus_of : ℕ → ℕ → ℕ
plus_of a b = min (a + b) (2 ^ 64 - 1)

abbrev pub add : Tally → Tally → Tally
add a b = record {
  success = plus_of a.success b.success;
  failed = plus_of a.failed b.failed;
  upstream_failed = plus_of a.upstream_failed b.upstream_failed;
  skipped = plus_of a.skipped b.skipped;
  no_status = plus_of a.no_status b.no_status;
  retried = a.retried || b.retried;
}

abbrev pub sum : List Tally → Tally
sum tallies = fold add nothing tallies

-- the instances of a task in a run; one that was decided without a try counts as one
abbrev pub task_tally : TaskReport → Tally
task_tally TaskReport.NoStatus = record nothing { no_status = 1 }
task_tally TaskReport.Skipped = record nothing { skipped = 1 }
task_tally TaskReport.UpstreamFailed = record nothing { upstream_failed = 1 }
task_tally (TaskReport.Ran instance) = instance_tally instance
task_tally (TaskReport.Mapped instances) = sum (map instance_tally instances)

abbrev pub tally_if : Option TaskReport → Tally
tally_if None = record nothing { no_status = 1 }
tally_if (Some task) = task_tally task

-- of the task in this place of the run
abbrev pub tally_in : ℕ → RunReport → Tally
tally_in task run = tally_if (slice_get run.tasks task)

-- of the task in all runs
abbrev pub runs_tally : ℕ → List RunReport → Tally
runs_tally task runs = sum (map (tally_in task) runs)

-- something failed, is upstream_failed or has no status
abbrev pub is_bad : Tally → Bool
is_bad tally = nat_lt 0 tally.failed || nat_lt 0 tally.upstream_failed || nat_lt 0 tally.no_status

-- of all tasks in a run
abbrev pub run_tally_of : RunReport → Tally
run_tally_of run = sum (map task_tally run.tasks)

-- a run by its own state
abbrev pub state_tally_of : RunState → Tally
state_tally_of RunState.Success = record nothing { success = 1 }
state_tally_of RunState.Failed = record nothing { failed = 1 }

abbrev pub states_tally : List RunReport → Tally
states_tally runs = sum (map (λ run. state_tally_of run.state) runs)
