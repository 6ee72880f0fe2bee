use Rattle.std.proofs.Common.{map, take, sym, ap, ◌∙◌}
use Rattle.std.specs.List.{list_any}
use Rattle.serde_json.specs.View.{view}
use Rattle.bf_findings.specs.Fitting.{has_id_in}
use Rattle.bf_findings.proofs.Lists.{any_viewed, first_viewed}
use Rattle.bf_findings.proofs.fitting.is_task_id_before.Goals as goal

pub returns : goal.returns
returns c =
    let id = c.args.id.now in
    let tasks = c.tasks_in-tasks.result.now in
    let first = ap (λ k. map view (take k tasks)) c.min.ensures ∙ first_viewed c.args.n tasks ∙ ap (take c.args.n) c.tasks_in-tasks.ensures in
    c.any_has_id.ensures ∙ sym (any_viewed (has_id_in id) (take c.min.result tasks)) ∙ ap (list_any (has_id_in id)) first
