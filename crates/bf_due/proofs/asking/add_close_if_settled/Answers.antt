use Rattle.bf_due.proofs.Adding.{no_close, none_added}
use Rattle.bf_due.proofs.asking.add_close_if_settled.Goals as goal

pub returns-then-is_run_settled-clause-asks : goal.returns-then-is_run_settled-clause-asks
returns-then-is_run_settled-clause-asks c = λ is. (c.is_run_settled.ensures.reached is, c.add_close.ensures.added)

pub returns-else-is_run_settled-clause-asks : goal.returns-else-is_run_settled-clause-asks
returns-else-is_run_settled-clause-asks c = λ is. (c.is_run_settled.ensures.reached is, none_added c.args.core.now _ _ (no_close c.args.core.now c.args.run (c.is_run_settled.ensures.unsettled is c.if-is_run_settled.false)))
