use Rattle.std.proofs.Common.{◌≡◌, map, take}
use Rattle.bf_journal.specs.Heads.{seed_value}
use Rattle.bf_journal.proofs.head.value_of_cleared_tasks.Given as goal

abbrev pub invariant-loop-seed : goal.invariant-loop-seed
invariant-loop-seed l = l.entries.items ≡ map seed_value (take l.seed-index l.seeds)
