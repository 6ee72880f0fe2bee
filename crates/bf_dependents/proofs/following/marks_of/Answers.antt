use Rattle.std.proofs.Common.{ap, ◌∙◌, sym, subst, arith}
use Rattle.bf_dependents.specs.Marks.{follows_in}
use Rattle.bf_dependents.specs.inner.Marks.{AreMarksFor}
use Rattle.bf_dependents.proofs.RightMarks.{marks_more, marks_end}
use Rattle.bf_dependents.proofs.following.marks_of.Goals as goal

pub loop-task-preserved : goal.loop-task-preserved
loop-task-preserved c =
    marks_more c.args.dag.now c.args.order.now c.requires.by_rank c.requires.behind c.args.seeded.now c.args.before.now
    c.loop-task.task-index c.loop-task-test.true c.loop-task.marks.items c.loop-task.invariant c.follows-mark.result
    (c.follows-mark.ensures ∙ ap (follows_in c.args.dag.now _ c.args.seeded.now c.args.before.now) c.as_slice.ensures.value)

pub returns : goal.returns
returns c =
    subst (AreMarksFor c.args.dag.now c.args.seeded.now c.args.before.now) (sym c.from_vec.ensures)
    (marks_end c.args.dag.now c.args.order.now c.requires.by_rank c.requires.behind c.args.seeded.now c.args.before.now
    c.loop-task.marks.items c.loop-task.task-index (let end = c.loop-task.auto.task-index-end in let over = c.loop-task-test.false in omega (arith, end, over)) c.loop-task.invariant)
