use Rattle.std.proofs.Common.{◌∷◌, map, string_bytes}
use Rattle.bf_process.specs.Words.{launched_in}
use Rattle.bf_commands.proofs.restarting.RestartingStarter.start.Given as goal

abbrev pub invariant-loop-seconds : goal.invariant-loop-seconds
invariant-loop-seconds g l =
    g.RT.Starter.may_hear l.self.rt.now (launched_in l.setting (l.program ∷ map string_bytes l.arguments)) l.heard.raw
