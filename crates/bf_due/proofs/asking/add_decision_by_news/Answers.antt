use Rattle.bf_due.proofs.Adding.{fewer_added, not_stirred}
use Rattle.bf_due.proofs.asking.add_decision_by_news.Goals as goal

pub returns-then-may_let_be_decided-clause-asks : goal.returns-then-may_let_be_decided-clause-asks
returns-then-may_let_be_decided-clause-asks c = λ known is.
    let asked : _ = c.add_decision_if_unawaited.ensures.asks (c.may_let_be_decided.ensures.reached is) in
    (asked.0, fewer_added c.args.core.now _ _ _ _ (λ x of. of.0) asked.1)

pub returns-else-may_let_be_decided-clause-asks : goal.returns-else-may_let_be_decided-clause-asks
returns-else-may_let_be_decided-clause-asks c = λ known is. (
  c.may_let_be_decided.ensures.reached is,
  not_stirred c.args.core.now c.args.core.now.state c.args.news c.args.task (c.may_let_be_decided.ensures.matters is known c.if-may_let_be_decided.false) _,
)
