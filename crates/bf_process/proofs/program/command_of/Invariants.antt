use Rattle.std.proofs.Common.{◌≡◌, ℕ, List, false, None, take}
use Rattle.std.specs.Process.{clears_env, command_program, command_args, command_dir, command_var}
use Rattle.bf_graph.specs.Shape.{texts}
use Rattle.bf_process.proofs.program.command_of.Given as goal

abbrev pub invariant-loop-argument : goal.invariant-loop-argument
invariant-loop-argument l =
    (command_program l.command ≡ l.program) × (command_args l.command ≡ texts (take l.argument-index l.arguments))
    × (command_dir l.command ≡ None) × (clears_env l.command ≡ false) × ((k : List ℕ) → command_var l.command k ≡ None)
