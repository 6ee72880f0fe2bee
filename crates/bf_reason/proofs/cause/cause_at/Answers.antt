use Rattle.std.proofs.Common.{sym, ap, ◌∙◌}
use Rattle.bf_core.specs.Terms.{verdict}
use Rattle.bf_reason.specs.Causes.{cause_of}
use Rattle.bf_reason.specs.Reasons.{cause_by_verdict_of}
use Rattle.bf_reason.specs.Settled.{before_among, seen_among}
use Rattle.bf_reason.proofs.CauseFacts.{cause_blocks, cause_rules, cause_skips}
use Rattle.bf_reason.proofs.cause.cause_at.Goals as goal

pub returns-then-has_skipping_branch : goal.returns-then-has_skipping_branch
returns-then-has_skipping_branch c =
    cause_skips c.args.plan.now.dag c.args.run c.args.settled.now (before_among c.args.before.now c.args.run c.args.task) c.args.task c.task_in-decided.result.now
    c.as_slice-upstreams.result.now c.task_in-decided.ensures.task c.as_slice-upstreams.ensures (sym c.has_skipping_branch.ensures ∙ c.if-has_skipping_branch.true)

pub returns-then-has_blocked_branch : goal.returns-then-has_blocked_branch
returns-then-has_blocked_branch c =
    cause_blocks c.args.plan.now.dag c.args.run c.args.settled.now (before_among c.args.before.now c.args.run c.args.task) c.args.task c.task_in-decided.result.now
    c.as_slice-upstreams.result.now c.task_in-decided.ensures.task c.as_slice-upstreams.ensures (sym c.has_skipping_branch.ensures ∙ c.if-has_skipping_branch.false) (sym c.has_blocked_branch.ensures ∙ c.if-has_blocked_branch.true)

pub returns : goal.returns
returns c =
    let dag = c.args.plan.now.dag in let run = c.args.run in let task = c.args.task in
    let seen = seen_among c.args.settled.now in
    let before = before_among c.args.before.now run task in
    c.cause_by_verdict.ensures ∙ ap (λ d. cause_of (cause_by_verdict_of d run seen before task c.verdict-verdict.result)) c.dag.ensures.dag
    ∙ ap (λ v. cause_of (cause_by_verdict_of dag run seen before task v)) (c.verdict-verdict.ensures ∙ ap (verdict c.task_in-decided.result.now.rule) c.counts_of_tasks-counts.ensures)
    ∙ cause_rules dag run c.args.settled.now before task c.task_in-decided.result.now c.as_slice-upstreams.result.now c.task_in-decided.ensures.task c.as_slice-upstreams.ensures
    (sym c.has_skipping_branch.ensures ∙ c.if-has_skipping_branch.false) (sym c.has_blocked_branch.ensures ∙ c.if-has_blocked_branch.false)
