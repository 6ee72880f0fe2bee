use Rattle.std.proofs.Common.{◌∙◌, ap, ◌++◌, decimal}
use Rattle.bf_report.specs.Report.{instance_text}
use Rattle.bf_report.proofs.ReportFacts.{mapped_text_more}
use Rattle.bf_report.proofs.lines.push_mapped.Goals as goal

pub loop-index-preserved : goal.loop-index-preserved
loop-index-preserved c =
    let line = instance_text c.args.id.now (decimal c.loop-index.index) c.index-instances-index.result in
    c.in_ok-push_instance.ensures ∙ ap (λ t. t ++ line) c.loop-index.invariant
    ∙ mapped_text_more _ c.args.id.now c.args.instances.now c.loop-index.index c.index-instances-index.result c.loop-index-test.true c.index-instances-index.is
