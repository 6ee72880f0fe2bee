use Rattle.bf_waiting.proofs.Holding.{readmitted_over}
use Rattle.bf_waiting.proofs.class.SlotClass.on_end.Goals as goal

pub returns-clause-keeps : goal.returns-clause-keeps
returns-clause-keeps c = λ n o class_of class of own.
    readmitted_over c.args.core.now c.args.weights.now class_of class c.args.self.now c.take_up_instance.new.self c.pass_over_unready.new.self n o c.args.run c.args.task c.args.place of own
    c.take_up_instance.ensures.taken c.take_up_instance.ensures.delayed c.pass_over_unready.ensures.cleaned c.pass_over_unready.ensures.delays
