use Rattle.std.proofs.Common.{sym, ◌∙◌}
use Rattle.bf_due.proofs.Adding.{asks_none, no_close_before, under_asked}
use Rattle.bf_due.proofs.asking.add_steps_below.Goals as goal

pub returns-then-settled-clause-asks : goal.returns-then-settled-clause-asks
returns-then-settled-clause-asks c = λ known.
    under_asked c.args.core.now c.args.core.now.state c.args.news _ c.downstreams.ensures.rising _ _ _ _ _ _ (c.add_decisions_by_news.ensures.asks known) c.add_close_if_settled.ensures.asks

pub returns-else-settled-clause-asks : goal.returns-else-settled-clause-asks
returns-else-settled-clause-asks c = λ known.
    under_asked c.args.core.now c.args.core.now.state c.args.news _ c.downstreams.ensures.rising _ _ _ _ _ _ (c.add_decisions_by_news.ensures.asks known)
    (asks_none c.args.core.now c.args.news.run _ _ _ (no_close_before c.args.core.now c.args.news.run c.args.news.task c.requires.task (sym known ∙ c.if-settled.false)))
