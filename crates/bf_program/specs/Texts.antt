-- The texts that are printed as they stand.
use Rattle.std.specs.Prelude.{◌≡◌, ℕ, List}
use Rattle.bf_command_line.specs.declared.forms.Format.{Format}
use Rattle.bf_command_line.specs.declared.forms.Format.TheVariants.{Graph, Table}
use Rattle.bf_command_line.specs.declared.forms.Shell.{Shell}
use Rattle.bf_command_line.specs.declared.forms.Shell.TheVariants.{Bash, Fish, Zsh}
use Rattle.bf_texts.specs.declared.completions.TheConstants as completions
use Rattle.bf_texts.specs.declared.schemas.TheConstants as schemas
use Rattle.bf_command_fault.specs.declared.fault.CommandFault.{CommandFault}
use Rattle.bf_command_fault.specs.declared.fault.CommandFault.TheVariants.{CannotWrite}
use Rattle.bf_command_fault.specs.declared.status.Status.{Status}

-- the schema of a format's files
abbrev pub schema_text : Format → List ℕ
schema_text Graph = schemas.GRAPH.now
schema_text Table = schemas.TABLE.now

-- what a shell completes
abbrev pub completions_text : Shell → List ℕ
completions_text Bash = completions.BASH.now
completions_text Zsh = completions.ZSH.now
completions_text Fish = completions.FISH.now

-- the text is the one that is due, and that is a success
abbrev pub IsPrinted : List ℕ → List ℕ → Status → Type 0
IsPrinted due text status = (status ≡ Status.Success) × (text ≡ due)

-- only the device is wanting
abbrev pub IsDeviceFault : CommandFault → Type 0
IsDeviceFault (CannotWrite n) = Unit {0}
IsDeviceFault fault = ⊥
