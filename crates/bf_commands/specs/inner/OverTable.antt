-- What is reported of a backfill over a table: the recursion over dates, over what the table answers.
use Rattle.std.specs.Prelude.{◌≡◌, ℕ, Bool, false, List, Option}
use Rattle.bf_command_fault.specs.declared.fault.CommandFault.{CommandFault}
use Rattle.bf_command_fault.specs.declared.fault.CommandFault.TheVariants.{CannotWrite, Stopped}
use Rattle.bf_command_fault.specs.declared.stop.StopFault.{StopFault}
use Rattle.bf_planning.specs.declared.plan.TimedPlan.{TimedPlan}
use Rattle.bf_planning.specs.Graphs.{IsPlanOf, IsTimed}
use Rattle.bf_planning.specs.Wanting.{IsWanting}

-- memory or the device is wanting, or where workers are started, the thread of one
abbrev pub IsWantingWorkers : Bool → CommandFault → Type 0
IsWantingWorkers alone (Stopped StopFault.CannotStart) = alone ≡ false
IsWantingWorkers alone fault = IsWanting fault

-- no device was called
abbrev pub IsUnsent : CommandFault → Type 0
IsUnsent (CannotWrite n) = ⊥
IsUnsent _ = Unit {0}

-- the plan with its zone is that of a graph without a fault, which the bytes say
abbrev pub IsTimedPlanOf : List ℕ → Option (List ℕ) → TimedPlan → Type 0
IsTimedPlanOf graph file timed =
    IsPlanOf graph file timed.plan × IsTimed graph file timed.plan.schedule timed.zone
