use Rattle.std.proofs.Common.{IfSome, sym, ap, ◌∙◌, subst}
use Rattle.bf_mapped.proofs.FilterLemmas.{one_more, none_more}
use Rattle.bf_report.specs.Dated.{reported_instance}
use Rattle.bf_report.specs.Values.{IsSoundInstance, AreSoundInstances}
use Rattle.bf_report.proofs.DatedFacts.{all_more}
use Rattle.bf_report.proofs.instances.instance_reports.Goals as goal
use Rattle.bf_report.proofs.instances.instance_reports.Goals.{in-Some+in_ok-push, in_default}

pub loop-instance-preserved : goal.loop-instance-preserved
loop-instance-preserved c =
    let f = reported_instance c.args.dag.now c.args.task in
    elim c.match-branch-3.branch [
      | in-Some+in_ok-push w ↦
          let items = ap (λ v. v.items) w.found-is ∙ w.in_ok-push.ensures.items in
          let sound : IsSoundInstance w.in-Some.report = subst (λ o. IfSome o IsSoundInstance) w.in-Some.is c.in_ok-report.ensures.sound in
          record {
            reports = items ∙ one_more f c.args.instances.now c.loop-instance.instance-index c.instance-item.result _ _ c.loop-instance-test.true c.instance-item.is (sym c.in_ok-report.ensures.report ∙ w.in-Some.is) c.loop-instance.invariant.reports;
            sound = subst AreSoundInstances (sym items) (all_more IsSoundInstance _ _ c.loop-instance.invariant.sound sound);
          }
      | in_default w ↦
          let items = ap (λ v. v.items) w.found-is in
          record {
            reports = items ∙ none_more f c.args.instances.now c.loop-instance.instance-index c.instance-item.result _ c.loop-instance-test.true c.instance-item.is (sym c.in_ok-report.ensures.report ∙ w.in_default.is) c.loop-instance.invariant.reports;
            sound = subst AreSoundInstances (sym items) c.loop-instance.invariant.sound;
          }
    ]
