use Rattle.std.proofs.Common.{◌≡◌, true, false, sym, ◌∙◌, subst}
use Rattle.bf_core.specs.declared.state.Instance.{Instance}
use Rattle.bf_due.specs.Cursors.{IsFinished}
use Rattle.bf_due.proofs.Reached.{finished_more, held_at, not_settled}
use Rattle.bf_due.proofs.cursors.first_unfinished.Goals as goal

pub returns-then-not-is_finished-clause-unfinished : goal.returns-then-not-is_finished-clause-unfinished
returns-then-not-is_finished-clause-unfinished c = λ l.
    not_settled c.args.instances.now c.loop-place.place c.index-instances-place.result (held_at c.args.instances.now c.loop-place.place c.index-instances-place.result l c.index-instances-place.is)
    (λ f. let yes : c.is_finished.result ≡ true = c.is_finished.ensures.1 (subst (λ (x : Instance). IsFinished x.phase) c.index-instances-place.is f) in let no : true ≡ false = sym yes ∙ c.if-not-is_finished.true in cc)

pub loop-place-preserved : goal.loop-place-preserved
loop-place-preserved c = λ from.
    finished_more c.args.instances.now c.loop-place.place c.index-instances-place.result (c.loop-place.invariant from)
    (held_at c.args.instances.now c.loop-place.place c.index-instances-place.result c.loop-place-test.true c.index-instances-place.is) (subst (λ (x : Instance). IsFinished x.phase) (sym c.index-instances-place.is) (c.is_finished.ensures.0 c.if-not-is_finished.false))
