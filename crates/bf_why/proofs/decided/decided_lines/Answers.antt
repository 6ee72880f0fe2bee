use Rattle.std.proofs.Common.{◌≡◌, sym, subst, IfOk}
use Rattle.std.specs.Prelude.{option_map}
use Rattle.bf_reason.specs.declared.cause.StateCause.{StateCause}
use Rattle.bf_why.specs.Decided.{decided_of}
use Rattle.bf_why.proofs.decided.decided_lines.Goals as goal

pub returns-in-NotFollowed : goal.returns-in-NotFollowed
returns-in-NotFollowed c =
    let before = option_map (λ run. run.now) c.args.before in
    subst (λ (cause : StateCause). IfOk c.lines_by_branches.result (λ lines. lines.items ≡ decided_of c.args.plan.now.dag c.args.settled.now before c.args.task cause)) (sym c.in-NotFollowed.is) (c.lines_by_branches.ensures before)

pub returns-in-BranchIsBlocked : goal.returns-in-BranchIsBlocked
returns-in-BranchIsBlocked c =
    let before = option_map (λ run. run.now) c.args.before in
    subst (λ (cause : StateCause). IfOk c.lines_by_blocked_branches.result (λ lines. lines.items ≡ decided_of c.args.plan.now.dag c.args.settled.now before c.args.task cause)) (sym c.in-BranchIsBlocked.is) (c.lines_by_blocked_branches.ensures before)

pub returns-in-UpstreamIsBlocked : goal.returns-in-UpstreamIsBlocked
returns-in-UpstreamIsBlocked c =
    let before = option_map (λ run. run.now) c.args.before in
    subst (λ (cause : StateCause). IfOk c.lines_by_blocked_tasks.result (λ lines. lines.items ≡ decided_of c.args.plan.now.dag c.args.settled.now before c.args.task cause)) (sym c.in-UpstreamIsBlocked.is) (c.lines_by_blocked_tasks.ensures before)
