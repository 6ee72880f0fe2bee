use Rattle.std.proofs.Common.{◌++◌, ap, ap₂, ◌∙◌}
use Rattle.bf_grid.specs.Grid.{body_if}
use Rattle.bf_grid.specs.Summary.{head_line}
use Rattle.bf_grid.proofs.grid.text_of_grid.Goals as goal

pub returns : goal.returns
returns c =
    let view = c.args.view.now in
    let dag = c.args.dag.now in
    let runs = c.as_slice-runs.result.now in
    c.in_ok-push_body_if_runs.ensures
    ∙ ap (λ t. t ++ body_if view dag runs) (c.in_ok-push_head.ensures ∙ ap₂ (λ t id. t ++ head_line view.colored id runs) c.new-text.ensures.items c.as_str.ensures)
    ∙ ap (λ rs. head_line view.colored dag.id rs ++ body_if view dag rs) c.as_slice-runs.ensures
