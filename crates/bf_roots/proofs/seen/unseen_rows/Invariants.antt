use Rattle.std.proofs.Common.{◌≡◌}
use Rattle.bf_roots.specs.Walks.{nothing_seen}
use Rattle.bf_roots.proofs.seen.unseen_rows.Given as goal

abbrev pub invariant-loop : goal.invariant-loop
invariant-loop l = l.seen.items ≡ nothing_seen l.counter l.tasks
