-- Why a report is refused that isn't one of a graph; or memory is wanting.
use Rattle.std.specs.Prelude.{◌≡◌, Bool, false}
use Rattle.bf_dependents.specs.declared.fault.ClearFault.{ClearFault}
use Rattle.bf_command_fault.specs.declared.fault.CommandFault.{CommandFault}
use Rattle.bf_command_fault.specs.declared.fault.CommandFault.TheVariants.{Clear, OutOfMemory}

abbrev pub IsRefusedBy : Bool → CommandFault → Type 0
IsRefusedBy is_of_graph OutOfMemory = Unit {0}
IsRefusedBy is_of_graph (Clear ClearFault.ReportMismatch) = is_of_graph ≡ false
IsRefusedBy is_of_graph _ = ⊥
