use Rattle.bf_commands.proofs.Headings.{told_more}
use Rattle.bf_commands.proofs.heading.cleared_tasks_of.Goals as goal

pub loop-place-preserved : goal.loop-place-preserved
loop-place-preserved c =
    let places = c.args.places.now in
    let i = c.loop-place.place-index in
    told_more c.args.plan.now.dag c.args.runs.now places i _ _ _ c.loop-place-test.true c.loop-place.invariant
    (rw c.dag-dag.ensures.dag at c.in_ok-add_cleared_task.ensures)
