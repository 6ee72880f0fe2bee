use Rattle.std.proofs.Common.{◌∙◌, ap, arith, length}
use Rattle.bf_waiting.proofs.Taking.{all_places, one_more_place}
use Rattle.bf_waiting.proofs.class.SlotClass.delay_all.Goals as goal

pub loop-place-preserved : goal.loop-place-preserved
loop-place-preserved c = record {
  task = c.delay_instance.ensures.task ∙ c.loop-place.invariant.task;
  batches = c.delay_instance.ensures.batches ∙ c.loop-place.invariant.batches;
  delayed = one_more_place c.args.core.now c.args.run c.args.task c.loop-place.place c.args.self.now.delays.items c.loop-place.self.delays.items c.delay_instance.new.self.delays.items c.loop-place.invariant.delayed c.in_ok-delay_instance.ensures.delayed;
}

pub returns-clause-delayed : goal.returns-clause-delayed
returns-clause-delayed c =
    all_places c.args.core.now c.args.run c.args.task c.loop-place.place c.args.self.now.delays.items c.loop-place.self.delays.items (omega (arith, c.loop-place-test.false, ap length c.instances_of.ensures.instances)) c.loop-place.invariant.delayed
