-- What a command says of the environment.
use Rattle.std.specs.Prelude.{◌≡◌, ℕ, List}
use Rattle.std.specs.Global.{Global}
use Rattle.std.specs.Process.{clears_env, command_var, SameDir, SameProgramAndArgs}
use Rattle.std.specs.declared.process.command.Command.{Command}
use Rattle.bf_process.specs.Environment.{Pair}
use Rattle.bf_process.specs.inner.Environment.{said_after}

-- the pairs were taken in order
abbrev pub IsSaidAfter : Command Global → Command Global → List Pair → Type 0
IsSaidAfter old new pairs =
    (name : List ℕ) → command_var new name ≡ said_after name (command_var old name) pairs

-- all else that a command says is the same
abbrev pub IsSameElse : Command Global → Command Global → Type 0
IsSameElse old new =
    SameProgramAndArgs old new × SameDir old new × (clears_env new ≡ clears_env old)
