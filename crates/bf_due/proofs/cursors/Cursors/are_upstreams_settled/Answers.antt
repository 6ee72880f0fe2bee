use Rattle.std.proofs.Common.{◌<◌, ℕ, List, length, ap, arith}
use Rattle.bf_core.proofs.Numbers.{lt_from}
use Rattle.bf_due.proofs.Reached.{awaits_unsettled}
use Rattle.bf_due.proofs.cursors.Cursors.are_upstreams_settled.Goals as goal

pub returns-clause-unsettled : goal.returns-clause-unsettled
returns-clause-unsettled c = λ is e.
    let less : c.first_awaited-settled.result < length c.upstreams_of-upstreams.result.now = lt_from _ _ e in
    awaits_unsettled c.args.core.now.dag c.args.core.now.state c.args.run c.args.task c.first_awaited-settled.result
    (c.first_awaited-settled.ensures.awaits is (omega (arith, less, ap (λ (us : List ℕ). length us) c.upstreams_of-upstreams.ensures.upstreams)))
