use Rattle.std.proofs.Common.{w64}
use Rattle.std.proofs.lemmas.Int.{to_z-of_z}
use Rattle.bf_waiting.proofs.Holding.{released_over}
use Rattle.bf_waiting.proofs.class.SlotClass.on_tick.Goals as goal

pub returns-clause-keeps : goal.returns-clause-keeps
returns-clause-keeps c = λ class_of class.
    released_over c.args.core.now c.args.weights.now class_of class c.args.self.now c.batch_due_delays.new.self c.pass_over_unready.new.self c.args.now
    (rw (to_z-of_z w64 c.args.now c.ranges.now) at c.batch_due_delays.ensures.released) (rw (to_z-of_z w64 c.args.now c.ranges.now) at c.batch_due_delays.ensures.later) c.pass_over_unready.ensures.cleaned c.pass_over_unready.ensures.delays
