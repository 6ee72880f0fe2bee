-- What an observer is shown.
use Rattle.std.specs.Prelude.{◌≡◌, ◌++◌, ℕ, List, [], ◌∷◌, Option, None, Some}
use Rattle.bf_core.specs.Terms.{Dag}
use Rattle.bf_core.specs.declared.event.Event.{Event}
use Rattle.bf_core.specs.declared.state.State.{State}
use Rattle.bf_core.specs.Cores.{Backfill}
use Rattle.bf_core.specs.Events.{after, replay}
use Rattle.bf_core.specs.Running.{running_now}

-- by `shows old event running new`, an observer may have become `new` when it was shown an event while so many tries ran
module _ {S : Type 0} (shows : S → Event → ℕ → S → Type 0) where
  -- the observer that there may be was shown it
  abbrev pub IsShownTo : Option S → Event → ℕ → Option S → Type 0
  IsShownTo None event running new = new ≡ None
  IsShownTo (Some old) event running None = ⊥
  IsShownTo (Some old) event running (Some new) = shows old event running new

  -- the events were shown in order, each when it had come, with how many tries ran then
  abbrev pub AreShown : Dag → State → List Event → S → S → Type 0
  AreShown dag state [] old new = new ≡ old
  AreShown dag state (event ∷ events) old new =
      (between : S) × shows old event (running_now (after dag state event)) between
      × AreShown dag (after dag state event) events between new

  -- the events by which the backfill has grown were shown
  pub record HasShown (old new : S) (before now : Backfill) : Type 0 where
    pub events : List Event
    pub dag_is : now.dag ≡ before.dag
    pub journal_is : now.journal ≡ before.journal ++ events
    pub state_is : now.state ≡ replay before.dag before.state events
    pub shown : AreShown before.dag before.state events old new
