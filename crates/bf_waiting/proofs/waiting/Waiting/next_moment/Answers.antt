use Rattle.bf_waiting.proofs.NextTries.{next_moment}
use Rattle.bf_waiting.proofs.waiting.Waiting.next_moment.Goals as goal

pub returns : goal.returns
returns c = λ b kept. next_moment b c.args.self.now.weights.items c.args.self.now.class_of.items c.args.self.now.classes.items kept c.earliest_moment_of.result (rw c.as_slice.ensures.value at c.earliest_moment_of.ensures)
