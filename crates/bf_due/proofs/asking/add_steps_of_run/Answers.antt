use Rattle.bf_due.proofs.Adding.{run_asked}
use Rattle.bf_due.proofs.asking.add_steps_of_run.Goals as goal

pub returns : goal.returns
returns c = run_asked c.args.core.now c.args.run _ _ _ _ _ _ c.add_decisions_of_run.ensures.asks c.add_close_if_settled.ensures.asks
