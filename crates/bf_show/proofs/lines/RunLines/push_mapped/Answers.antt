use Rattle.std.proofs.Common.{◌++◌, ap, ◌∙◌}
use Rattle.serde_json.specs.Data.{unsigned}
use Rattle.bf_show.specs.JsonLines.{instance_members, line}
use Rattle.bf_show.proofs.LineFacts.{mapped_more}
use Rattle.bf_show.proofs.lines.RunLines.push_mapped.Goals as goal

pub loop-index-preserved : goal.loop-index-preserved
loop-index-preserved c =
    let run = c.args.self.now.run.now in
    let index = c.loop-index.index in
    let instance = c.index-instances-index.result in
    c.in_ok-push_instance.ensures ∙ ap (λ t. t ++ line (instance_members run c.args.id.now (unsigned index) instance)) c.loop-index.invariant
    ∙ mapped_more _ run c.args.id.now c.args.instances.now index instance c.loop-index-test.true c.index-instances-index.is
