-- How a line ends that `clap` answers.
use Rattle.std.specs.Prelude.{◌≡◌, ◌⊎◌, ℕ, List, [], ◌∷◌, Option}
use Rattle.clap.specs.Words.{Kinds}
use Rattle.clap.specs.declared.error.kind.ErrorKind.{ErrorKind}
use Rattle.clap.specs.declared.error.kind.ErrorKind.TheVariants.{DisplayHelp, DisplayVersion}
use Rattle.bf_command_fault.specs.Refusal.{Leaves}
use Rattle.bf_command_fault.specs.Status.{code_of}
use Rattle.bf_command_fault.specs.declared.fault.CommandFault.{CommandFault}
use Rattle.bf_command_fault.specs.declared.status.Status.{Status}
use Rattle.bf_command_fault.specs.declared.status.Status.TheVariants.{Success, Refused, Fault}
use Rattle.bf_planning.specs.Wanting.{IsWanting}

-- help is a success, and anything else is refused
abbrev pub shown_as : ErrorKind → Status
shown_as DisplayHelp = Success
shown_as DisplayVersion = Success
shown_as other = Refused

-- the exit status is that of one of the kinds, or a fault's
abbrev pub EndsAs : Kinds → ℕ → Type 0
EndsAs [] code = code ≡ code_of Fault
EndsAs (kind ∷ kinds) code = (code ≡ code_of (shown_as kind)) ⊎ EndsAs kinds code

-- one of the kinds is that of help, or of the version
abbrev pub ShowsHelp : Kinds → Type 0
ShowsHelp [] = ⊥
ShowsHelp (kind ∷ kinds) = (shown_as kind ≡ Success) ⊎ ShowsHelp kinds

-- why nothing was shown, or not all: memory was wanting before anything went out, or it was help that the device didn't take
abbrev pub IsUnshown : Type 0 → Type 0 → Option (List ℕ) → Option (List ℕ) → CommandFault → Type 0
IsUnshown IsHelp Halted before after fault =
    IsWanting fault × Leaves Halted (λ text. IsHelp) before after fault
