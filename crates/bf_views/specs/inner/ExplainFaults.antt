-- Why the command `explain` comes to no answer.
use Rattle.std.specs.Prelude.{◌≡◌, ℤ, Option, Some}
use Rattle.bf_plan.specs.declared.plan.Dag.{Dag}
use Rattle.bf_report.specs.declared.report.Report.{Report}
use Rattle.bf_command_line.specs.declared.forms.TaskAsked.{TaskAsked}
use Rattle.bf_command_fault.specs.declared.fault.CommandFault.{CommandFault}
use Rattle.bf_command_fault.specs.declared.fault.CommandFault.TheVariants.{Clear, OutOfMemory, UnknownIndex}
use Rattle.bf_views.specs.Asked.{asked_fault}

-- why what is asked isn't explained; or memory is wanting
abbrev pub IsFaultOfAsked : Dag → Report → ℤ → Option TaskAsked → CommandFault → Type 0
IsFaultOfAsked dag report start task OutOfMemory = Unit {0}
IsFaultOfAsked dag report start task (Clear fault) =
    asked_fault dag report start task ≡ Some (Clear fault)
IsFaultOfAsked dag report start task UnknownIndex =
    asked_fault dag report start task ≡ Some UnknownIndex
IsFaultOfAsked dag report start task _ = ⊥
