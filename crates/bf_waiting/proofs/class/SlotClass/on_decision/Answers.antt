use Rattle.bf_waiting.proofs.Holding.{admitted_over}
use Rattle.bf_waiting.proofs.class.SlotClass.on_decision.Goals as goal

pub returns-clause-keeps : goal.returns-clause-keeps
returns-clause-keeps c = λ expands class_of class own.
    admitted_over c.args.core.now c.args.weights.now class_of class c.args.self.now c.batch_all.new.self c.pass_over_unready.new.self expands c.args.run c.args.task own c.batch_all.ensures.taken c.batch_all.ensures.delays c.pass_over_unready.ensures.cleaned c.pass_over_unready.ensures.delays
