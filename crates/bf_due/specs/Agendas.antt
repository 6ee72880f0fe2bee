-- Steps as an agenda has them.
use Rattle.std.specs.Prelude.{ℕ, List}
use Rattle.std.specs.declared.cmp.Ordering.{Ordering}
use Rattle.std.specs.declared.cmp.Reverse.{Reverse}
use Rattle.bf_core.specs.declared.event.Event.{Event}
use Rattle.bf_due.specs.contracts.agenda.StepOrd.TheImpl as by_step
use Rattle.bf_due.specs.declared.agenda.Step.{Step}

-- the steps, and how many there is room for
pub record Steps : Type 0 where
  pub items : List Step
  pub room : ℕ

-- a heap in this order has the first step on top
abbrev pub reverse_cmp : Reverse Step → Reverse Step → Ordering
reverse_cmp one other = by_step.ghosts.cmp other.0 one.0

-- the event that the step is
abbrev pub event_of : Step → Event
event_of (Step.Close run) = Event.Close run
event_of Step.Open = Event.Open
event_of (Step.Settle turn) = Event.Settle turn.run turn.task
event_of (Step.Expand turn) = Event.Expand turn.run turn.task
