-- What an observer is shown.
use Rattle.std.specs.Prelude.{◌≡◌, ℕ}
use Rattle.bf_core.specs.Terms.{Dag}
use Rattle.bf_core.specs.declared.event.Event.{Event}
use Rattle.bf_core.specs.Cores.{Backfill, moved}
use Rattle.bf_core.specs.Events.{start}
use Rattle.bf_core.specs.Running.{running_now}
use Rattle.bf_core.specs.Endings.{Ending}
use Rattle.bf_exec.specs.Shown.{AreShown}

-- by `shows old event running new`, an observer may have become `new` when it was shown an event while so many tries ran
module _ {S : Type 0} (shows : S → Event → ℕ → S → Type 0) where
  -- each event of the backfill was shown
  abbrev pub WasShown : Dag → ℕ → S → S → Ending → Type 0
  WasShown dag runs old new ended = AreShown shows dag (start dag runs) ended.journal old new

  -- the event that came last was shown
  abbrev pub ShowsLast : S → S → Backfill → Type 0
  ShowsLast old new backfill =
      (before : Backfill) (event : Event) → backfill ≡ moved before event
      → shows old event (running_now backfill.state) new
