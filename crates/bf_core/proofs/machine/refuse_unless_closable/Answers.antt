use Rattle.std.proofs.Common.{sym, ◌∙◌}
use Rattle.bf_core.proofs.Known.{closable_from, not_closable}
use Rattle.bf_core.proofs.machine.refuse_unless_closable.Goals as goal

pub returns-then-is_closable-clause-ok : goal.returns-then-is_closable-clause-ok
returns-then-is_closable-clause-ok c =
    closable_from c.args.dag.now c.args.state.now c.requires c.args.run c.in-Some.row.now (sym (c.in-Some.ensures {u = tt})) (sym c.is_closable.ensures ∙ c.if-is_closable.true)

pub returns-else-is_closable-clause-err : goal.returns-else-is_closable-clause-err
returns-else-is_closable-clause-err c =
    not_closable c.args.dag.now c.args.state.now c.requires c.args.run c.in-Some.row.now (sym (c.in-Some.ensures {u = tt})) (sym c.is_closable.ensures ∙ c.if-is_closable.false)
