use Rattle.std.proofs.Common.{◌≡◌, ◌-◌, ◌^◌, length}
use Rattle.bf_sched.specs.Driving.{StaysDriven}
use Rattle.bf_plain.specs.inner.Driving.{IsIdle}
use Rattle.bf_plain.specs.inner.Ticks.{TicksSo}
use Rattle.bf_plain.proofs.driving.all_turns.Given as goal

abbrev pub invariant-loop-scheduler : goal.invariant-loop-scheduler
invariant-loop-scheduler g l =
    IsIdle l.scheduler × StaysDriven (g.R.TaskRunner.may_answer l.fn.runner) l.fn.scheduler l.scheduler × (l.events ≡ length l.scheduler.backfill.journal)
    × TicksSo l.fn.scheduler l.scheduler

abbrev pub decreases-loop-scheduler : goal.decreases-loop-scheduler
decreases-loop-scheduler g l = 2 ^ 64 - l.events
