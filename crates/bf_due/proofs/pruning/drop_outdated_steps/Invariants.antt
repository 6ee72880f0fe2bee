use Rattle.std.proofs.Common.{length, Contains}
use Rattle.bf_core.specs.Cores.{MayCome}
use Rattle.bf_due.specs.declared.agenda.Step.{Step}
use Rattle.bf_due.specs.Agendas.{event_of}
use Rattle.bf_due.specs.Cursors.{AreNoted}
use Rattle.bf_due.proofs.pruning.drop_outdated_steps.Given as goal

abbrev pub invariant-loop-step : goal.invariant-loop-step
invariant-loop-step l = record {
  kept : (x : Step) → AreNoted l.core l.rows → Contains l.initial.agenda.items x → MayCome l.core (event_of x) → Contains l.agenda.items x;
  fewer : (x : Step) → Contains l.agenda.items x → Contains l.initial.agenda.items x;
}

abbrev pub decreases-loop-step : goal.decreases-loop-step
decreases-loop-step l = length l.agenda.items
