use Rattle.bf_waiting.proofs.Taking.{take_all}
use Rattle.bf_waiting.proofs.class.SlotClass.batch_all.Goals as goal

pub returns-then-count-gt0-clause-taken : goal.returns-then-count-gt0-clause-taken
returns-then-count-gt0-clause-taken c =
    take_all c.args.core.now c.args.weights.now c.args.run c.args.task c.args.self.now.batches.items c.add_batch.new.self.batches.items c.instances_of-count.result.now c.instances_of-count.ensures.instances
    (rw (← c.batch_to_place.ensures) c.add_batch.ensures.gained)
