use Rattle.std.proofs.Common.{◌≡◌, map, take}
use Rattle.bf_clear.specs.Entries.{pull_from}
use Rattle.bf_clear.proofs.given.all_pulled.Given as goal

abbrev pub invariant-loop-source : goal.invariant-loop-source
invariant-loop-source l = l.values.items ≡ map (pull_from l.dag l.report l.run) (take l.source-index l.sources)
