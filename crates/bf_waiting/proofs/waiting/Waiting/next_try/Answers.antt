use Rattle.bf_waiting.proofs.NextTries.{next_is, none_next}
use Rattle.bf_waiting.proofs.waiting.Waiting.next_try.Goals as goal

pub returns-in-None : goal.returns-in-None
returns-in-None c = λ kept.
    none_next c.args.core.now c.args.self.now.weights.items c.args.self.now.class_of.items c.args.self.now.classes.items kept
    (rw (c.as_slice.ensures.value, c.in-None.is) at c.greatest_batch_of.ensures)

pub returns-in-Some : goal.returns-in-Some
returns-in-Some c = λ kept.
    next_is c.args.core.now c.args.self.now.weights.items c.args.self.now.class_of.items c.args.self.now.classes.items kept c.in-Some.batch
    (rw (c.as_slice.ensures.value, c.in-Some.is) at c.greatest_batch_of.ensures) c.first_try_of_batch.result c.first_try_of_batch.ensures
