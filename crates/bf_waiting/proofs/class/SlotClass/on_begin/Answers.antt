use Rattle.bf_waiting.proofs.Holding.{begun_over}
use Rattle.bf_waiting.proofs.class.SlotClass.on_begin.Goals as goal

pub returns-clause-keeps : goal.returns-clause-keeps
returns-clause-keeps c = λ n weights class_of class. begun_over c.args.core.now weights class_of class c.args.self.now c.pass_over_unready.new.self n c.pass_over_unready.ensures.cleaned c.pass_over_unready.ensures.delays
