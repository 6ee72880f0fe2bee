use Rattle.std.proofs.Common.{Err, ap, ◌∙◌}
use Rattle.bf_try.proofs.Pushes.{graded_not_utf8, graded_pushed}
use Rattle.bf_try.proofs.grading.grade_line.Goals as goal

pub returns-then-may_push : goal.returns-then-may_push
returns-then-may_push c =
    graded_pushed c.args.plan.now.dag c.args.task c.args.line.now _ c.in-Ok.ensures.ok.0 (c.in_ok-pushed-in-Ok.ensures ∙ c.in-Ok.ensures.ok.1) c.if-may_push.ensures

pub returns-in-Err-NotUtf8 : goal.returns-in-Err-NotUtf8
returns-in-Err-NotUtf8 c = graded_not_utf8 c.args.plan.now.dag c.args.task c.args.line.now (c.in-Err-NotUtf8.ensures.not_utf8.0 (ap Err c.in-Err-NotUtf8.field-0-is))
