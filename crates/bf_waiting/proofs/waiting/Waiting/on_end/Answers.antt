use Rattle.std.proofs.Common.{◌∙◌, sym}
use Rattle.bf_core.specs.declared.event.Event.{Event}
use Rattle.bf_waiting.proofs.Each.{end_there, got, has_class, one_over}
use Rattle.bf_waiting.proofs.Passing.{found_none}
use Rattle.bf_waiting.proofs.waiting.Waiting.on_end.Goals as goal

pub returns-in-Some : goal.returns-in-Some
returns-in-Some c = λ n o of_place.
    let found : _ = (c.in-Some.ensures {u = tt}).some in
    one_over c.args.self.now.weights.items c.args.self.now.class_of.items c.args.self.now.classes.items (Event.End n o) c.args.core.now c.args.task c.in-Some.class _ c.on_end.new.self
    tt (λ u of. of ∙ of_place.1) found.0 (got _ _ _ found.1 c.index_mut-class.ensures.value) c.on_end.ensures.task
    (rw c.as_slice.ensures.value at (c.on_end.ensures.keeps n o c.args.self.now.class_of.items c.in-Some.class of_place (sym found.0)))

pub returns-in_default : goal.returns-in_default
returns-in_default c = λ n o of_place b able at kept.
    absurd (has_class c.args.self.now.weights.items c.args.self.now.class_of.items c.args.self.now.classes.items b kept c.args.task (rw (← of_place.1) (end_there b kept.replayed n o able)) (found_none c.class_at.result _ c.in_default.not-Some c.class_at.ensures.none))
