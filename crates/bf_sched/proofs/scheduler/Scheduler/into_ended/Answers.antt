use Rattle.std.proofs.Common.{◌≡◌, ℕ, ◌∙◌}
use Rattle.bf_core.specs.Cores.{Backfill}
use Rattle.bf_sched.specs.Scheduling.{Schedule}
use Rattle.bf_sched.proofs.scheduler.Scheduler.into_ended.Goals as goal

-- with an equal backfill the schedule is equal
as_many : (workers : ℕ) (b c : Backfill) → b ≡ c → ◌≡◌ {A = Schedule} (record { backfill = b; workers = workers }) (record { backfill = c; workers = workers })
as_many workers b c same = λ i. record { backfill = same i; workers = workers }

pub returns-in-Err-clause-back : goal.returns-in-Err-clause-back
returns-in-Err-clause-back c =
    let back = (c.in-Err.ensures {u = tt}).back in
    (as_many c.self.inside.workers _ _ back.0 ∙ c.self.view_is, rw (← c.self.view_is) back.1)
