-- What the command `run` reports: a run for each data interval of a range, with the programs of its tasks.
use Rattle.std.specs.Prelude.{◌≡◌, ℕ, List, Option}
use Rattle.bf_value.specs.declared.name.JobName.{JobName}
use Rattle.bf_plan.specs.Plans.{task_of}
use Rattle.bf_plan.specs.declared.plan.Dag.{Dag}
use Rattle.bf_interval.specs.declared.interval.Interval.{Interval}
use Rattle.bf_xcom.specs.declared.values.Given.{Given}
use Rattle.bf_core.specs.declared.fault.BackfillFault.{BackfillFault}
use Rattle.bf_command_fault.specs.declared.fault.CommandFault.{CommandFault}
use Rattle.bf_command_fault.specs.declared.fault.CommandFault.TheVariants.{OutOfMemory, Stopped}
use Rattle.bf_command_fault.specs.declared.stop.StopFault.{StopFault}
use Rattle.bf_planning.specs.Wanting.{IsWanting}
use Rattle.bf_commands.specs.Programs.{IsLogOf, IsStopOf}

-- the backfill stops; or memory or the device is wanting
abbrev pub IsStopOfOrWanting : (JobName → Given → Type 0) → Option (List ℕ) → Dag → List Interval
    → CommandFault → Type 0
IsStopOfOrWanting may_give_up logs dag intervals (Stopped stop) =
    IsStopOf may_give_up logs dag intervals stop
IsStopOfOrWanting may_give_up logs dag intervals fault = IsWanting fault

-- why this try has no answer is told: it was given up, by its task, its index and its number; or memory is wanting
abbrev pub IsUnanswered : Dag → JobName → CommandFault → Type 0
IsUnanswered dag name (Stopped (StopFault.GaveUp task index attempt)) =
    (task ≡ (task_of dag name.task).id) × (index ≡ name.index) × (attempt ≡ name.attempt)
IsUnanswered dag name OutOfMemory = Unit {0}
IsUnanswered dag name fault = ⊥

-- the log of this try is told; or memory is wanting
abbrev pub IsUnlogged : Option (List ℕ) → Dag → List Interval → JobName → CommandFault → Type 0
IsUnlogged logs dag intervals name (Stopped (StopFault.CannotLog path)) =
    IsLogOf logs dag intervals name path
IsUnlogged logs dag intervals name OutOfMemory = Unit {0}
IsUnlogged logs dag intervals name fault = ⊥

-- the log of this try is told; or else why it has no answer
abbrev pub IsGivenUp : Option (List ℕ) → Dag → List Interval → JobName → CommandFault → Type 0
IsGivenUp logs dag intervals name (Stopped (StopFault.CannotLog path)) =
    IsLogOf logs dag intervals name path
IsGivenUp logs dag intervals name fault = IsUnanswered dag name fault

-- what is told of what stopped a backfill
abbrev pub IsToldOfStop : Option (List ℕ) → Dag → List Interval → BackfillFault → CommandFault → Type 0
IsToldOfStop logs dag intervals BackfillFault.OutOfMemory told = told ≡ OutOfMemory
IsToldOfStop logs dag intervals BackfillFault.Start told = told ≡ Stopped StopFault.CannotStart
IsToldOfStop logs dag intervals (BackfillFault.Runner name) told =
    IsGivenUp logs dag intervals name told
