use Rattle.std.proofs.Common.{◌∙◌, List, sym, subst₂}
use Rattle.bf_waiting.specs.declared.batches.Batch.{Batch}
use Rattle.bf_waiting.specs.declared.delays.Delay.{Delay}
use Rattle.bf_waiting.specs.inner.Keeping.{Anywhere, HasDelayed, HasTakenUp}
use Rattle.bf_waiting.proofs.FillFacts.{fill_more}
use Rattle.bf_waiting.proofs.class.SlotClass.take_up_all.Goals as goal

pub returns-clause-keeps : goal.returns-clause-keeps
returns-clause-keeps c = λ class_of class own keeps.
    fill_more c.args.core.now c.args.weights.now class_of c.args.run c.args.task class c.args.self.now c.delay_all.new.self c.pass_over_unready.new.self own keeps
    (subst₂ (λ (old new : List Batch). HasTakenUp c.args.core.now c.args.weights.now c.args.run c.args.task Anywhere old new) c.make_room.ensures.batches (sym c.delay_all.ensures.batches) c.batch_all.ensures.taken)
    (subst₂ (λ (old new : List Delay). HasDelayed c.args.core.now c.args.run c.args.task Anywhere old new) (c.batch_all.ensures.delays ∙ c.make_room.ensures.delays) (λ i. c.delay_all.new.self.delays.items) c.in_ok-delay_all.ensures.delayed)
    c.pass_over_unready.ensures.cleaned c.pass_over_unready.ensures.delays
