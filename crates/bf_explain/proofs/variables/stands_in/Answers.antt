use Rattle.std.proofs.Common.{sym, ◌∙◌}
use Rattle.bf_explain.proofs.StandFacts.{stands_nowhere, stands_on, stands_there}
use Rattle.bf_explain.proofs.variables.stands_in.Goals as goal

pub returns-then-starts_with : goal.returns-then-starts_with
returns-then-starts_with c =
    sym (c.loop-start.invariant ∙ stands_there c.args.name.now c.args.text.now c.loop-start.start c.loop-start-test.true (sym c.starts_with.ensures.value ∙ c.if-starts_with.true))

pub loop-start-preserved : goal.loop-start-preserved
loop-start-preserved c =
    c.loop-start.invariant ∙ stands_on c.args.name.now c.args.text.now c.loop-start.start c.loop-start-test.true (sym c.starts_with.ensures.value ∙ c.if-starts_with.false)

pub returns : goal.returns
returns c = sym (c.loop-start.invariant ∙ stands_nowhere c.args.name.now c.args.text.now c.loop-start.start c.loop-start-test.false)
