use Rattle.std.proofs.Common.{sym, ap, ◌∙◌}
use Rattle.std.specs.List.{list_any}
use Rattle.bf_findings.specs.Fitting.{has_id_in}
use Rattle.bf_findings.proofs.Lists.{any_viewed}
use Rattle.bf_findings.proofs.fitting.is_task_id.Goals as goal

pub returns : goal.returns
returns c =
    let id = c.args.id.now in
    c.any_has_id.ensures ∙ sym (any_viewed (has_id_in id) c.tasks_in.result.now) ∙ ap (list_any (has_id_in id)) c.tasks_in.ensures
