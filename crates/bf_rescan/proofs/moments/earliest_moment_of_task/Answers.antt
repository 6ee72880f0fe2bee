use Rattle.std.proofs.Common.{length, ap, arith}
use Rattle.bf_rescan.proofs.Soonest.{place_next, task_passed}
use Rattle.bf_rescan.proofs.moments.earliest_moment_of_task.Goals as goal

pub loop-place-preserved : goal.loop-place-preserved
loop-place-preserved c = place_next c.args.core.now c.args.run c.args.task c.loop-place.place c.loop-place.soonest c.moment_at.result c.earlier_moment-soonest.result c.earlier_moment-soonest.ensures c.loop-place.invariant c.moment_at.ensures

pub returns : goal.returns
returns c =
    task_passed c.args.core.now c.args.run c.args.task c.loop-place.place (omega (arith, c.loop-place.auto.place-end, c.loop-place-test.false, ap length c.instances_of-instances.ensures.instances)) c.loop-place.soonest c.loop-place.invariant
