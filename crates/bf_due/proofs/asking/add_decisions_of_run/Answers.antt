use Rattle.std.proofs.Common.{arith}
use Rattle.bf_due.proofs.Adding.{below_asked, none_below}
use Rattle.bf_due.proofs.asking.add_decisions_of_run.Goals as goal

pub loop-task-init : goal.loop-task-init
loop-task-init c = record { asks = none_below c.args.core.now c.args.run _ _; len = omega arith; room = omega arith }

pub loop-task-preserved : goal.loop-task-preserved
loop-task-preserved c = record {
  asks = below_asked c.args.core.now c.args.run c.loop-task.task _ _ _ _ _ _ c.loop-task.invariant.asks c.add_decision_if_unawaited.ensures.asks;
  len = omega (arith, c.loop-task.invariant.len, c.add_decision_if_unawaited.ensures.len);
  room = omega (arith, c.loop-task.invariant.room, c.add_decision_if_unawaited.ensures.room);
}
