use Rattle.std.proofs.Common.{sym, ap, ◌∙◌}
use Rattle.bf_core.specs.Terms.{verdict}
use Rattle.bf_core.specs.Events.{cell_at, seen_in}
use Rattle.bf_core.proofs.Branching.{ruling_blocks, ruling_rules, ruling_skips, ruling_waits}
use Rattle.bf_core.proofs.upstreams.upstream_verdict.Goals as goal

pub returns-then-not-all_let_decide : goal.returns-then-not-all_let_decide
returns-then-not-all_let_decide c =
    ruling_waits c.args.plan.now.dag (λ u. seen_in (cell_at c.args.state.now c.args.run u)) c.args.task c.dag-dag.result.now c.dag-dag.ensures.dag c.task-decided.result.now c.task-decided.ensures
    c.as_slice-upstreams.result.now c.as_slice-upstreams.ensures (sym c.if-not-all_let_decide.true ∙ c.all_let_decide.ensures)

pub returns-then-any_branch_skips : goal.returns-then-any_branch_skips
returns-then-any_branch_skips c =
    ruling_skips c.args.plan.now.dag (λ u. seen_in (cell_at c.args.state.now c.args.run u)) c.args.task c.dag-dag.result.now c.dag-dag.ensures.dag c.task-decided.result.now c.task-decided.ensures
    c.as_slice-upstreams.result.now c.as_slice-upstreams.ensures (sym c.if-not-all_let_decide.false ∙ c.all_let_decide.ensures) (sym c.if-any_branch_skips.true ∙ c.any_branch_skips.ensures)

pub returns-then-any_branch_is_blocked : goal.returns-then-any_branch_is_blocked
returns-then-any_branch_is_blocked c =
    ruling_blocks c.args.plan.now.dag (λ u. seen_in (cell_at c.args.state.now c.args.run u)) c.args.task c.dag-dag.result.now c.dag-dag.ensures.dag c.task-decided.result.now c.task-decided.ensures
    c.as_slice-upstreams.result.now c.as_slice-upstreams.ensures (sym c.if-not-all_let_decide.false ∙ c.all_let_decide.ensures) (sym c.if-any_branch_skips.false ∙ c.any_branch_skips.ensures)
    (sym c.if-any_branch_is_blocked.true ∙ c.any_branch_is_blocked.ensures)

pub returns-else-any_branch_is_blocked : goal.returns-else-any_branch_is_blocked
returns-else-any_branch_is_blocked c =
    c.verdict.ensures ∙ ap (verdict c.task-decided.result.now.rule) c.counts_of_upstreams-counts.ensures
    ∙ ruling_rules c.args.plan.now.dag (λ u. seen_in (cell_at c.args.state.now c.args.run u)) c.args.task c.dag-dag.result.now c.dag-dag.ensures.dag c.task-decided.result.now c.task-decided.ensures
    c.as_slice-upstreams.result.now c.as_slice-upstreams.ensures (sym c.if-not-all_let_decide.false ∙ c.all_let_decide.ensures) (sym c.if-any_branch_skips.false ∙ c.any_branch_skips.ensures)
    (sym c.if-any_branch_is_blocked.false ∙ c.any_branch_is_blocked.ensures)
