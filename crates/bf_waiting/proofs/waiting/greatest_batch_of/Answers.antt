use Rattle.bf_waiting.proofs.Each.{got}
use Rattle.bf_waiting.proofs.Leading.{all_best, best_more}
use Rattle.bf_waiting.proofs.waiting.greatest_batch_of.Goals as goal

pub loop-class-preserved : goal.loop-class-preserved
loop-class-preserved c =
    best_more c.args.core.now c.args.classes.now c.loop-class.class-index c.loop-class.best c.first_batch_with_room.result c.greater_batch-best.result c.class-item.result (got _ _ _ c.loop-class-test.true c.class-item.is)
    c.first_batch_with_room.ensures.some c.first_batch_with_room.ensures.first c.first_batch_with_room.ensures.none c.greater_batch-best.ensures c.loop-class.invariant

pub returns : goal.returns
returns c = all_best c.args.core.now c.args.classes.now c.loop-class.class-index c.loop-class.best c.loop-class-test.false c.loop-class.invariant
