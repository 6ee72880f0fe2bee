use Rattle.bf_due.specs.declared.agenda.Step.{Step}
use Rattle.bf_due.proofs.Adding.{is_opening, one_added}
use Rattle.bf_due.proofs.asking.add_open.Goals as goal

pub returns-then-may_open : goal.returns-then-may_open
returns-then-may_open c = one_added c.args.core.now _ Step.Open _ _ tt (λ x of due. is_opening x of) c.add.ensures.gained
