-- How the clock of a backfill by one worker goes on.
use Rattle.std.specs.Prelude.{◌≡◌, ◌++◌, ◌∷◌, ℕ, ℤ, List}
use Rattle.bf_core.specs.Terms.{Dag, Limits}
use Rattle.bf_core.specs.declared.event.Event.{Event}
use Rattle.bf_core.specs.Clocks.{clock_of, start_clock}
use Rattle.bf_core.specs.Cores.{Backfill}
use Rattle.bf_core.specs.Events.{replay, start}
use Rattle.bf_sched.specs.Choices.{IsFirstMoment}

-- the backfill that these events lead to
abbrev pub led_to : Dag → Limits → ℕ → List Event → Backfill
led_to dag limits runs events =
    record {
      dag = dag;
      limits = limits;
      runs = runs;
      state = replay dag (start dag runs) events;
      clock = clock_of dag limits start_clock events;
      journal = events;
    }

-- each tick of the journal is to the first moment for which a try waits where it comes
pub record TicksToFirstMoments (dag : Dag) (limits : Limits) (runs : ℕ)
    (journal : List Event) : Type 0 where
  pub first : (before rest : List Event) (moment : ℤ) → journal ≡ before ++ Event.Tick moment ∷ rest
      → IsFirstMoment (led_to dag limits runs before) moment
