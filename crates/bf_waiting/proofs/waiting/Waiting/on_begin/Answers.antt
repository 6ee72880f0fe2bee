use Rattle.std.proofs.Common.{◌∙◌}
use Rattle.bf_core.specs.declared.event.Event.{Event}
use Rattle.bf_waiting.proofs.Each.{begin_there, got, has_class, one_over}
use Rattle.bf_waiting.proofs.Passing.{found_none}
use Rattle.bf_waiting.proofs.waiting.Waiting.on_begin.Goals as goal

pub returns-in-Some : goal.returns-in-Some
returns-in-Some c = λ n same.
    let found : _ = (c.in-Some.ensures {u = tt}).some in
    one_over c.args.self.now.weights.items c.args.self.now.class_of.items c.args.self.now.classes.items (Event.Begin n) c.args.core.now c.args.task c.in-Some.class _ c.on_begin.new.self
    tt (λ u of. of ∙ same) found.0 (got _ _ _ found.1 c.index_mut-class.ensures.value) c.on_begin.ensures.task
    (c.on_begin.ensures.keeps n c.args.self.now.weights.items c.args.self.now.class_of.items c.in-Some.class)

pub returns-in_default : goal.returns-in_default
returns-in_default c = λ n same b able at kept.
    absurd (has_class c.args.self.now.weights.items c.args.self.now.class_of.items c.args.self.now.classes.items b kept c.args.task (rw (← same) (begin_there b kept.replayed n able)) (found_none c.class_at.result _ c.in_default.not-Some c.class_at.ensures.none))
