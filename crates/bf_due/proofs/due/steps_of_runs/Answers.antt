use Rattle.std.proofs.Common.{List, [], subst}
use Rattle.bf_due.specs.declared.agenda.Step.{Step}
use Rattle.bf_due.specs.Dues.{HasAdded}
use Rattle.bf_due.specs.inner.Dues.{IsOfRun}
use Rattle.bf_due.proofs.Adding.{one_run_more}
use Rattle.bf_due.proofs.due.steps_of_runs.Goals as goal

pub loop-run-preserved : goal.loop-run-preserved
loop-run-preserved c =
    one_run_more c.args.core.now c.loop-run.run [] c.loop-run.agenda.items c.add_steps_of_run.new.agenda.items c.loop-run.invariant
    (subst (λ (xs : List Step). HasAdded c.args.core.now (IsOfRun c.loop-run.run) xs c.add_steps_of_run.new.agenda.items) c.make_room.ensures.items (c.add_steps_of_run.ensures (c.unknown-row.ensures c.args.core.now c.loop-run.run)).1)
