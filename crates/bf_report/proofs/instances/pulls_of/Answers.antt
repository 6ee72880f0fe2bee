use Rattle.std.proofs.Common.{◌≡◌, inl, inr}
use Rattle.bf_report.specs.Dated.{pulls_in}
use Rattle.bf_report.proofs.DatedFacts.{no_pulls, no_values}
use Rattle.bf_report.proofs.ReportFacts.{all_came}
use Rattle.bf_report.proofs.instances.pulls_of.Goals as goal

pub returns-clause-pulls : goal.returns-clause-pulls
returns-clause-pulls c =
    let ps = c.loop-task.task-iterator.a.rest.now in
    let vs = c.loop-task.task-iterator.b.rest.now in
    let all : c.loop-task.pulls.items ≡ pulls_in c.args.dag.now c.args.tasks.now c.args.values.now =
    all_came _ _ _ c.loop-task.invariant.pulls (elim c.in-None.ensures.steps [ inl w ↦ no_pulls c.args.dag.now ps vs w.1.0 | inr w ↦ no_values c.args.dag.now ps vs w.1.0 ]) in
    cc
