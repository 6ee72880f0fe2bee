use Rattle.bf_waiting.proofs.Each.{got}
use Rattle.bf_waiting.proofs.Soonest.{all_soonest, soonest_more}
use Rattle.bf_waiting.proofs.waiting.earliest_moment_of.Goals as goal

pub loop-class-preserved : goal.loop-class-preserved
loop-class-preserved c =
    rw c.earlier_moment-soonest.ensures (soonest_more c.args.classes.now c.loop-class.class-index c.loop-class.soonest c.earliest_moment.result c.class-item.result (got _ _ _ c.loop-class-test.true c.class-item.is) c.earliest_moment.ensures.one c.earliest_moment.ensures.first c.earliest_moment.ensures.none c.loop-class.invariant)

pub returns : goal.returns
returns c = all_soonest c.args.classes.now c.loop-class.class-index c.loop-class.soonest c.loop-class-test.false c.loop-class.invariant
