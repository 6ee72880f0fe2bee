use Rattle.std.proofs.Common.{w64}
use Rattle.std.proofs.lemmas.Int.{to_z-of_z}
use Rattle.bf_sched.proofs.Keeping.{tick_keeps}
use Rattle.bf_sched.proofs.scheduler.Scheduler.tick.Goals as goal

pub invariant_of-self-2 : goal.invariant_of-self-2
invariant_of-self-2 c =
    let has : _ = rw (to_z-of_z w64 c.args.moment c.ranges.moment) at c.in_ok-came.ensures.ok in
    tick_keeps c.self.inside.ready c.tick_if_later.new.ready c.self.inside.workers c.self.inside.running c.args.moment c.in_ok-came.came c.journal-replayed.ensures.replayed c.self.invariant has
