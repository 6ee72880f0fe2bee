use Rattle.std.proofs.Common.{sym}
use Rattle.bf_core.specs.Cores.{deciding}
use Rattle.bf_waiting.proofs.Each.{deciding_there, got, has_class, moves, of_deciding, one_over}
use Rattle.bf_waiting.proofs.Passing.{found_none}
use Rattle.bf_waiting.proofs.waiting.Waiting.on_decision.Goals as goal

pub returns-in-Some : goal.returns-in-Some
returns-in-Some c = λ expands.
    let found : _ = (c.in-Some.ensures {u = tt}).some in
    one_over c.args.self.now.weights.items c.args.self.now.class_of.items c.args.self.now.classes.items (deciding expands c.args.run c.args.task) c.args.core.now c.args.task c.in-Some.class _ c.on_decision.new.self
    (moves expands c.args.run c.args.task) (of_deciding expands c.args.run c.args.task) found.0 (got _ _ _ found.1 c.index_mut-class.ensures.value) c.on_decision.ensures.task
    (rw c.as_slice.ensures.value at (c.on_decision.ensures.keeps expands c.args.self.now.class_of.items c.in-Some.class (sym found.0)))

pub returns-in_default : goal.returns-in_default
returns-in_default c = λ expands b able at kept.
    absurd (has_class c.args.self.now.weights.items c.args.self.now.class_of.items c.args.self.now.classes.items b kept c.args.task (deciding_there b expands c.args.run c.args.task able) (found_none c.class_at.result _ c.in_default.not-Some c.class_at.ensures.none))
