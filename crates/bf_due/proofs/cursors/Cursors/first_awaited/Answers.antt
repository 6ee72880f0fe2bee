use Rattle.std.proofs.Common.{sym, ◌∙◌}
use Rattle.bf_due.proofs.Reached.{passed_more}
use Rattle.bf_due.proofs.cursors.Cursors.first_awaited.Goals as goal

pub loop-place-preserved : goal.loop-place-preserved
loop-place-preserved c = record {
  passed = λ is from.
      let here : _ = rw c.upstreams_of-upstreams.ensures.upstreams at (sym (c.lets_decide.ensures.lets (c.loop-place.invariant.reached is)) ∙ c.if-not-lets_decide.false) in
      passed_more c.args.core.now.dag c.args.core.now.state c.args.early c.args.run c.args.task c.loop-place.place (c.loop-place.invariant.passed is from) here;
  reached = λ is. c.lets_decide.ensures.reached (c.loop-place.invariant.reached is);
}
