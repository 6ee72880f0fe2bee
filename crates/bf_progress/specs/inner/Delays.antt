-- Tries that wait for their delay.
use Rattle.std.specs.Prelude.{◌≡◌, ℕ, ◌+◌, ◌-◌, ◌*◌, Bool, nat_lt, List, ◌∷◌, ◌++◌, [], ◌⊎◌, length, Option, None, Some, if◌then◌else◌}
use Rattle.std.specs.Duration.{as_nanos}
use Rattle.std.specs.declared.time.Duration.{Duration}
use Rattle.bf_plan.specs.declared.plan.Dag.{Dag}
use Rattle.bf_plan.specs.declared.plan.Limits.{Limits}
use Rattle.bf_plan.specs.Sound.{demand_of}
use Rattle.bf_core.specs.declared.event.Event.{Event}
use Rattle.bf_progress.specs.declared.delayed.Delayed.{Delayed}

-- how many seconds the retries of a task wait
abbrev pub delay_of : Dag → Limits → ℕ → Option ℕ
delay_of dag limits task =
    if nat_lt task (length dag.tasks) then Some (demand_of limits task).retry_delay else None

-- a try that ends has another of its instance wait from now on, for the delay of their task
abbrev pub IsDelayedBy : Event → Dag → Limits → Duration → Delayed → Type 0
IsDelayedBy (Event.End ended outcome) dag limits now delayed =
    (delayed.name ≡ record ended { attempt = delayed.name.attempt })
    × ((delay : ℕ) × (delay_of dag limits ended.task ≡ Some delay)
    × (as_nanos delayed.until ≡ as_nanos now + delay * 1_000_000_000))
IsDelayedBy event dag limits now delayed = ⊥

-- some of its delay is left
abbrev pub waits_at : Duration → Delayed → Bool
waits_at now delayed = nat_lt 0 (as_nanos delayed.until - as_nanos now)

-- the tries that wait behind an event: those that waited, and the one that it has wait, unless memory is wanting for that
abbrev pub AreDelayedAfter : Event → Dag → Limits → Duration → List Delayed → List Delayed → Type 0
AreDelayedAfter event dag limits now old new =
    (new ≡ old)
    ⊎ ((delayed : Delayed) × IsDelayedBy event dag limits now delayed
    × (new ≡ old ++ delayed ∷ []))
