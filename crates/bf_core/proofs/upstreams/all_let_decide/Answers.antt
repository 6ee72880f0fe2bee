use Rattle.std.proofs.Common.{◌==◌, ◌∙◌, sym, ap}
use Rattle.bf_core.specs.Events.{cell_at}
use Rattle.bf_core.proofs.Sums.{let_decide_where_none_is_unfinished}
use Rattle.bf_core.proofs.upstreams.all_let_decide.Goals as goal

pub returns-then-waits_until_settled : goal.returns-then-waits_until_settled
returns-then-waits_until_settled c =
    ap (λ counts. counts.unfinished == 0) c.requires
    ∙ let_decide_where_none_is_unfinished c.args.dag.now c.args.task.now (cell_at c.args.state.now c.args.run) (sym c.waits_until_settled.ensures ∙ c.if-waits_until_settled.true) c.args.upstreams.now
