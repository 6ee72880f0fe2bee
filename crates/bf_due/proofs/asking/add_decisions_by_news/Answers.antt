use Rattle.std.proofs.Common.{arith}
use Rattle.bf_due.proofs.Adding.{none_stirred, one_stirred}
use Rattle.bf_due.proofs.asking.add_decisions_by_news.Goals as goal

pub loop-task-init : goal.loop-task-init
loop-task-init c = record { asks = λ known. none_stirred c.args.core.now c.args.core.now.state c.args.news c.args.tasks.now _ _; len = omega arith; room = omega arith }

pub loop-task-preserved : goal.loop-task-preserved
loop-task-preserved c = record {
  asks = λ known. one_stirred c.args.core.now c.args.core.now.state c.args.news c.args.tasks.now c.loop-task.task-index _ _ _ _ _ _ (c.loop-task.invariant.asks known) (c.add_decision_by_news.ensures.asks known);
  len = omega (arith, c.loop-task.invariant.len, c.add_decision_by_news.ensures.len);
  room = omega (arith, c.loop-task.invariant.room, c.add_decision_by_news.ensures.room);
}
