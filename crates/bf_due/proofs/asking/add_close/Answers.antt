use Rattle.bf_due.specs.declared.agenda.Step.{Step}
use Rattle.bf_due.proofs.Adding.{is_close, one_added}
use Rattle.bf_due.proofs.asking.add_close.Goals as goal

pub returns-then-may_close-clause-added : goal.returns-then-may_close-clause-added
returns-then-may_close-clause-added c = one_added c.args.core.now _ (Step.Close c.args.run) _ _ tt (λ x of due. is_close c.args.run x of) c.add.ensures.gained
