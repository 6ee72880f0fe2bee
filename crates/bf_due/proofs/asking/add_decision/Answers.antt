use Rattle.bf_due.proofs.Adding.{just_this, one_added}
use Rattle.bf_due.proofs.asking.add_decision.Goals as goal

pub returns-in-Some-clause-added : goal.returns-in-Some-clause-added
returns-in-Some-clause-added c =
    one_added c.args.core.now _ c.in-Some.step _ _ (c.in-Some.ensures {u = tt}).ranked (λ x of due. just_this c.in-Some.step x ((c.in-Some.ensures {u = tt}).each x of due))
    c.add.ensures.gained
