use Rattle.std.proofs.Common.{sym, ◌∙◌}
use Rattle.bf_findings.proofs.Pulled.{told_unsettled}
use Rattle.bf_findings.proofs.listing.unsettled_pull_in.Goals as goal

pub returns-in-Ok-unsettled_pull : goal.returns-in-Ok-unsettled_pull
returns-in-Ok-unsettled_pull c =
    told_unsettled c.args.graph.now c.args.id.now c.in-Ok.draft c.in-Some.t c.in-Ok.ensures (sym c.number_of_task.ensures.number ∙ c.in-Some.is) _ c.in-Ok-unsettled_pull.ensures.found
