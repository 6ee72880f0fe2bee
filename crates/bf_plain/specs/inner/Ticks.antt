-- How the clock of a backfill by one worker goes on.
use Rattle.bf_core.specs.Cores.{Backfill}
use Rattle.bf_sched.specs.Scheduling.{Schedule}
use Rattle.bf_plain.specs.Ticks.{TicksToFirstMoments}

abbrev pub HasTickedSo : Backfill → Type 0
HasTickedSo backfill =
    TicksToFirstMoments backfill.dag backfill.limits backfill.runs backfill.journal

-- where each tick was to a first moment before, each still is
pub record TicksSo (old new : Schedule) : Type 0 where
  pub so : HasTickedSo old.backfill → HasTickedSo new.backfill
