-- What may be wanting, whatever a command is asked for.
use Rattle.bf_command_fault.specs.declared.fault.CommandFault.{CommandFault}
use Rattle.bf_command_fault.specs.declared.fault.CommandFault.TheVariants.{OutOfMemory, CannotWrite}

-- memory or the device is wanting
abbrev pub IsWanting : CommandFault → Type 0
IsWanting OutOfMemory = Unit {0}
IsWanting (CannotWrite n) = Unit {0}
IsWanting _ = ⊥
