use Rattle.bf_due.proofs.Adding.{none_added, none_decides}
use Rattle.bf_due.proofs.asking.add_decision_if_unawaited.Goals as goal

pub returns-then-is_free_to_decide-clause-asks : goal.returns-then-is_free_to_decide-clause-asks
returns-then-is_free_to_decide-clause-asks c = λ is. (c.is_free_to_decide.ensures.reached is, c.add_decision.ensures.added)

pub returns-else-is_free_to_decide-clause-asks : goal.returns-else-is_free_to_decide-clause-asks
returns-else-is_free_to_decide-clause-asks c = λ is. (
  c.is_free_to_decide.ensures.reached is,
  none_added c.args.core.now _ _ (none_decides c.args.core.now c.args.run c.args.task (c.is_free_to_decide.ensures.awaits is c.if-is_free_to_decide.false)),
)
