-- Why a command over graphs comes to no answer, by what the files hold that it names, and what is told of that.
use Rattle.std.specs.Prelude.{ℕ, List, Option}
use Rattle.bf_command_line.specs.declared.forms.ClearAsked.{ClearAsked}
use Rattle.bf_command_fault.specs.declared.fault.CommandFault.{CommandFault}
use Rattle.bf_command_fault.specs.declared.fault.CommandFault.TheVariants.{OutOfMemory, CannotLaunch}
use Rattle.bf_backfills.specs.Commands.{Startable, IsUnlaunchable, launcher_used_of}
use Rattle.bf_backfills.specs.inner.Named.{IsFaultOfTextsAsked}

-- ---- why there is no answer

-- the launcher can't be started, or memory is wanting
abbrev pub IsFaultOfLauncher : Startable → Option (List ℕ) → CommandFault → Type 0
IsFaultOfLauncher startable launcher (CannotLaunch path) = IsUnlaunchable startable launcher path
IsFaultOfLauncher startable launcher OutOfMemory = Unit {0}
IsFaultOfLauncher startable launcher fault = ⊥

-- the texts of `clear` don't mean it, or the launcher that it uses can't be started
abbrev pub IsFaultOfAsked : Startable → ClearAsked → CommandFault → Type 0
IsFaultOfAsked startable asked (CannotLaunch path) =
    IsUnlaunchable startable (launcher_used_of asked.table asked.launcher) path
IsFaultOfAsked startable asked fault = IsFaultOfTextsAsked asked.range asked.cleared fault
