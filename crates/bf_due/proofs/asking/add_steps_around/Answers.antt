use Rattle.std.proofs.Common.{arith, sym, ◌∙◌}
use Rattle.bf_due.proofs.Adding.{around_asked, around_open, row_asked}
use Rattle.bf_due.proofs.Reached.{held_at}
use Rattle.bf_due.proofs.asking.add_steps_around.Goals as goal

pub returns-then-settled : goal.returns-then-settled
returns-then-settled c =
    around_asked c.args.core.now c.args.core.now.state c.args.news c.args.rows.now.items _ c.add_decision_if_there.new.rows.items _ _ _
    (row_asked c.args.core.now c.args.news.run _ c.args.rows.now.items c.index_mut-row.result.now c.add_steps_below.new.row _ _ (omega (arith, c.requires.there.0, c.requires.rows)) c.index_mut-row.ensures.value
    (λ is. c.add_steps_below.ensures.asks (c.is_settled-settled.ensures.settled is) (c.is_settled-settled.ensures.reached is)))
    c.add_decision_if_there.ensures

pub returns-else-settled : goal.returns-else-settled
returns-else-settled c =
    around_open c.args.core.now c.args.core.now.state c.args.news c.args.rows.now.items _ _ _
    (row_asked c.args.core.now c.args.news.run _ c.args.rows.now.items c.index_mut-row.result.now c.add_steps_below.new.row _ _ (omega (arith, c.requires.there.0, c.requires.rows)) c.index_mut-row.ensures.value
    (λ is. c.add_steps_below.ensures.asks (c.is_settled-settled.ensures.settled is) (c.is_settled-settled.ensures.reached is)))
    (λ reached. sym (c.is_settled-settled.ensures.settled (reached c.args.news.run c.index_mut-row.result.now
    (held_at c.args.rows.now.items c.args.news.run c.index_mut-row.result.now (omega (arith, c.requires.there.0, c.requires.rows)) c.index_mut-row.ensures.value))) ∙ c.if-settled.false)
