use Rattle.std.proofs.Common.{take}
use Rattle.bf_backfills.specs.Commands.{MeanSeeds}
use Rattle.bf_backfills.proofs.named.read_seeds.Given as goal

abbrev pub invariant-loop-one : goal.invariant-loop-one
invariant-loop-one l = MeanSeeds (take l.one-index l.asked) l.seeds.items
