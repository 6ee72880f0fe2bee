use Rattle.std.proofs.Common.{rules}
use Rattle.bf_exec.proofs.Starts.{fresh_pushed}
use Rattle.bf_exec.proofs.starting.all_queues_and_seats.Goals as goal

pub loop-made-preserved : goal.loop-made-preserved
loop-made-preserved g c = (
  fresh_pushed c.loop-made.queues.items _ _ c.loop-made.seats.items _ _ c.in_ok-queue.queue c.in_ok-queue.seat c.reserve.ensures.items c.push_reserved.ensures.items c.reserve-in-loop-made.ensures.items
      c.push_reserved-in-loop-made.ensures.items c.loop-made.invariant.0 c.in_ok-queue.ensures,
  search rules,
)
