use Rattle.std.proofs.Common.{◌<◌, ℕ, Bool, List, length, ap, subst, arith}
use Rattle.bf_core.proofs.Numbers.{lt_from}
use Rattle.bf_due.specs.inner.Cursors.{Awaits}
use Rattle.bf_due.proofs.Reached.{awaits_not_due}
use Rattle.bf_due.proofs.cursors.Cursors.is_free_to_decide.Goals as goal

pub returns-clause-awaits : goal.returns-clause-awaits
returns-clause-awaits c = λ is e due.
    let less : c.first_awaited-passed.result < length c.upstreams_of-upstreams.result.now = lt_from _ _ e in
    awaits_not_due c.args.core.now.dag c.args.core.now.state c.args.run c.args.task c.first_awaited-passed.result
    (subst (λ (early : Bool). Awaits early c.args.core.now.dag c.args.core.now.state c.args.run c.args.task c.first_awaited-passed.result) c.has_early_rule-early.ensures
    (c.first_awaited-passed.ensures.awaits is (omega (arith, less, ap (λ (us : List ℕ). length us) c.upstreams_of-upstreams.ensures.upstreams)))) due
