use Rattle.bf_core.specs.declared.event.Event.{Event}
use Rattle.bf_waiting.proofs.Each.{AreKeptTo}
use Rattle.bf_waiting.proofs.waiting.Waiting.on_tick.Given as goal

abbrev pub invariant-loop-class : goal.invariant-loop-class
invariant-loop-class l = AreKeptTo (Event.Tick l.now) l.core l.fn.self.weights.items l.class-index l.initial.class-items l.class-items
