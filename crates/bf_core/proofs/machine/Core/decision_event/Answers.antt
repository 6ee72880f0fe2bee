use Rattle.std.proofs.Common.{◌≡◌, true, false, refl, sym, ap, ◌∙◌}
use Rattle.bf_core.specs.Terms.{Dag, State}
use Rattle.bf_core.specs.Cores.{deciding}
use Rattle.bf_core.specs.Deciding.{after_verdict}
use Rattle.bf_core.specs.Events.{decision_in, goes_on_in, seen_in, cell_at}
use Rattle.bf_core.proofs.Kept.{replay_rows}
use Rattle.bf_core.proofs.Shape.{open_run_exists}
use Rattle.bf_core.proofs.Enabling.{decide_able, decision_by, goes_on_by, untimed}
use Rattle.bf_core.proofs.machine.Core.decision_event.Goals as goal

pub is_undecided-requires : goal.is_undecided-requires
is_undecided-requires c = rw c.dag-dag.ensures.dag (replay_rows _ c.self.invariant.replayed)

pub returns-then-not-is_undecided-clause-none : goal.returns-then-not-is_undecided-clause-none
returns-then-not-is_undecided-clause-none c =
    let is : _ = rw c.dag-dag.ensures.dag at c.is_undecided.ensures in
    rw (← c.self.view_is) (λ able.
    let yes : c.is_undecided.result ≡ true = is.1 ((open_run_exists c.self.inside.state c.args.run able.run_is_open, able.is_task), (able.run_is_open, able.undecided)) in
    let no : c.is_undecided.result ≡ false = c.if-not-is_undecided.true in
    let f : true ≡ false = sym yes ∙ no in
    cc)

pub returns-then-decides_to_wait-clause-none : goal.returns-then-decides_to_wait-clause-none
returns-then-decides_to_wait-clause-none c =
    let dag : Dag = c.self.inside.plan.now.dag in
    let s : State = c.self.inside.state in
    let is : after_verdict c.dag-dag.result.now (λ u. seen_in (cell_at s c.args.run u)) c.args.task c.task_verdict-verdict.result ≡ decision_in dag s c.args.run c.args.task =
    decision_by dag c.dag-dag.result.now s c.args.run c.args.task c.task_verdict-verdict.result _ c.dag-dag.ensures.dag c.task_verdict-verdict.ensures refl in
    rw (← c.self.view_is) (λ able. able.decides (sym is ∙ c.decides_to_wait.ensures.0 c.if-decides_to_wait.true))

pub returns-clause-may_come : goal.returns-clause-may_come
returns-clause-may_come c =
    let dag : Dag = c.self.inside.plan.now.dag in
    let s : State = c.self.inside.state in
    let now : _ = rw c.dag-dag.ensures.dag at (c.is_undecided.ensures.0 c.if-not-is_undecided.false) in
    let on : c.goes_on_to_expansion.result ≡ goes_on_in dag s c.args.run c.args.task = goes_on_by dag c.dag-dag.result.now s c.args.run c.args.task c.task_verdict-verdict.result c.goes_on_to_expansion.result c.dag-dag.ensures.dag c.task_verdict-verdict.ensures c.goes_on_to_expansion.ensures in
    let is : after_verdict c.dag-dag.result.now (λ u. seen_in (cell_at s c.args.run u)) c.args.task c.task_verdict-verdict.result ≡ decision_in dag s c.args.run c.args.task =
    decision_by dag c.dag-dag.result.now s c.args.run c.args.task c.task_verdict-verdict.result _ c.dag-dag.ensures.dag c.task_verdict-verdict.ensures refl in
    let named : c.deciding.result ≡ deciding (goes_on_in dag s c.args.run c.args.task) c.args.run c.args.task = c.deciding.ensures ∙ ap (λ g. deciding g c.args.run c.args.task) on in
    rw (← c.self.view_is, named) (
      decide_able dag c.self.inside.plan.now.limits s c.args.run c.args.task (goes_on_in dag s c.args.run c.args.task) _ now refl is
          (λ e. let f : true ≡ false = sym (c.decides_to_wait.ensures.1 e) ∙ c.if-decides_to_wait.false in cc),
      untimed c.self.inside.clock c.args.run c.args.task (goes_on_in dag s c.args.run c.args.task),
    )

pub returns-clause-decides : goal.returns-clause-decides
returns-clause-decides c =
    let dag : Dag = c.self.inside.plan.now.dag in
    let s : State = c.self.inside.state in
    let on : c.goes_on_to_expansion.result ≡ goes_on_in dag s c.args.run c.args.task = goes_on_by dag c.dag-dag.result.now s c.args.run c.args.task c.task_verdict-verdict.result c.goes_on_to_expansion.result c.dag-dag.ensures.dag c.task_verdict-verdict.ensures c.goes_on_to_expansion.ensures in
    rw (← c.self.view_is) (c.deciding.ensures ∙ ap (λ g. deciding g c.args.run c.args.task) on)
