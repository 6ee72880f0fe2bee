-- What is told of a report that goes to a file.
use Rattle.std.specs.Prelude.{ℕ, List}
use Rattle.bf_file.specs.declared.fault.PlaceFault.{PlaceFault}
use Rattle.bf_file.specs.declared.fault.ReplaceFault.{ReplaceFault}
use Rattle.bf_command_fault.specs.declared.fault.CommandFault.{CommandFault}
use Rattle.bf_command_fault.specs.declared.fault.CommandFault.TheVariants.{CannotWriteFile, CannotWrite, OutOfMemory, ReportLeft}

-- where the path's file can't be replaced
abbrev pub replacing_fault : List ℕ → ReplaceFault → CommandFault
replacing_fault path ReplaceFault.CannotReplace = CannotWriteFile path
replacing_fault path ReplaceFault.OutOfMemory = OutOfMemory

-- where the new file isn't at the path
abbrev pub placing_fault : List ℕ → PlaceFault → CommandFault
placing_fault path (PlaceFault.Lost fault) = replacing_fault path fault
placing_fault path (PlaceFault.Left name) = ReportLeft path name

-- where a command ends with this fault, whose text would go to the path's file, and a write to that failed for this reason, if one did
abbrev pub filed_fault : List ℕ → ReplaceFault → CommandFault → CommandFault
filed_fault path reason (CannotWrite n) = replacing_fault path reason
filed_fault path reason fault = fault
