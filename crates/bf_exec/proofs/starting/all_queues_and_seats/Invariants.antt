use Rattle.std.proofs.Common.{◌≡◌, vec_len}
use Rattle.bf_exec.specs.inner.Starting.{AreFresh}
use Rattle.bf_exec.proofs.starting.all_queues_and_seats.Given as goal

abbrev pub invariant-loop-made : goal.invariant-loop-made
invariant-loop-made g l = AreFresh l.queues.items l.seats.items × (vec_len l.seats ≡ l._made)
