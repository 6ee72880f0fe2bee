use Rattle.std.proofs.Common.{false, [], sym, ap, ◌∙◌}
use Rattle.bf_mapped.proofs.FilterLemmas.{none_more}
use Rattle.bf_report.specs.Dated.{reported_instance, reported_instances}
use Rattle.bf_report.proofs.DatedFacts.{first_given}
use Rattle.bf_report.proofs.dated.report_of_first.Goals as goal

pub returns-in-Some-clause-report : goal.returns-in-Some-clause-report
returns-in-Some-clause-report c =
    ap (reported_instances false)
    (first_given (reported_instance c.args.dag.now c.args.task) c.args.instances.now c.loop-instance.instance-index c.instance-item.result c.in-Some.report
    c.loop-instance-test.true c.instance-item.is (sym c.in_ok-report.ensures.report ∙ c.in-Some.is) c.loop-instance.invariant)

pub loop-instance-preserved : goal.loop-instance-preserved
loop-instance-preserved c =
    none_more (reported_instance c.args.dag.now c.args.task) c.args.instances.now c.loop-instance.instance-index c.instance-item.result []
    c.loop-instance-test.true c.instance-item.is (sym c.in_ok-report.ensures.report ∙ c.in_default.is) c.loop-instance.invariant
