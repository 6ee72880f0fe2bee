-- Backfills with the programs of the tasks.
use Rattle.std.proofs.Common.{ℕ, List, Option}
use Rattle.bf_value.specs.declared.name.JobName.{JobName}
use Rattle.bf_plan.specs.declared.plan.Dag.{Dag}
use Rattle.bf_interval.specs.declared.interval.Interval.{Interval}
use Rattle.bf_xcom.specs.declared.values.Given.{Given}
use Rattle.bf_core.specs.declared.fault.BackfillFault.{BackfillFault}
use Rattle.bf_exec.specs.Faults.{MayFail}
use Rattle.bf_command_fault.specs.declared.fault.CommandFault.{CommandFault}
use Rattle.bf_command_fault.specs.declared.fault.CommandFault.TheVariants.{OutOfMemory, Stopped}
use Rattle.bf_command_fault.specs.declared.stop.StopFault.{StopFault}
use Rattle.bf_commands.specs.Programs.{IsStopOf}
use Rattle.bf_commands.specs.inner.Programs.{IsGivenUp, IsStopOfOrWanting, IsToldOfStop}

-- what is told of a fault that may be tells of a stop that may be
module _ (may_give_up : JobName → Given → Type 0) (logs : Option (List ℕ)) (dag : Dag) (intervals : List Interval) where
  told_given_up : (name : JobName) (told : CommandFault) → (given : Given) × may_give_up name given → IsGivenUp logs dag intervals name told → IsStopOfOrWanting may_give_up logs dag intervals told
  told_given_up name (Stopped (StopFault.GaveUp task index attempt)) may is = (name, may.0, may.1, is.0, is.1, is.2)
  told_given_up name (Stopped (StopFault.CannotLog path)) may is = (name, may.0, may.1, is)
  told_given_up name OutOfMemory may is = tt
  told_given_up name told may is = absurd is

  pub told_stop : (fault : BackfillFault) (told : CommandFault) → MayFail may_give_up fault → IsToldOfStop logs dag intervals fault told → IsStopOfOrWanting may_give_up logs dag intervals told
  told_stop BackfillFault.OutOfMemory told may is = rw is tt
  told_stop BackfillFault.Start told may is = rw is tt
  told_stop (BackfillFault.Runner name) told may is = told_given_up name told may is

-- a stop that may be for one reason may be for another
pub stop_weaker : {P Q : JobName → Given → Type 0} → ((n : JobName) (g : Given) → P n g → Q n g) → (logs : Option (List ℕ)) (dag : Dag) (intervals : List Interval) (stop : StopFault)
    → IsStopOf P logs dag intervals stop → IsStopOf Q logs dag intervals stop
stop_weaker is logs dag intervals StopFault.CannotStart stops = tt
stop_weaker is logs dag intervals StopFault.CannotRecord stops = absurd stops
stop_weaker is logs dag intervals (StopFault.EnoughFailed count) stops = absurd stops
stop_weaker is logs dag intervals (StopFault.CannotLog path) (name, given, may, log) = (name, given, is name given may, log)
stop_weaker is logs dag intervals (StopFault.GaveUp task index attempt) (name, given, may, a, b, c) = (name, given, is name given may, a, b, c)
