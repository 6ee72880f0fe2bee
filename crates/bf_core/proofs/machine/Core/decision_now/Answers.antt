use Rattle.std.proofs.Common.{◌≡◌, Bool, true, false, not, refl, sym, ◌∙◌}
use Rattle.std.proofs.Math.Bool.{beq}
use Rattle.bf_core.specs.Terms.{Dag, Limits, State}
use Rattle.bf_core.specs.Events.{decision_in, goes_on_in}
use Rattle.bf_core.proofs.Kept.{replay_rows}
use Rattle.bf_core.proofs.Enabling.{decide_able, decision_by, goes_on_by, not_decided, untimed}
use Rattle.bf_core.proofs.machine.Core.decision_now.Goals as goal

equal-from : (a b : Bool) → not (beq a b) ≡ false → a ≡ b
equal-from true true e = refl
equal-from true false e = cc
equal-from false true e = cc
equal-from false false e = refl

other-from : (a b : Bool) → not (beq a b) ≡ true → a ≡ b → ⊥
other-from true true e h = cc
other-from true false e h = cc
other-from false true e h = cc
other-from false false e h = cc

pub refuse_unless_undecided-requires : goal.refuse_unless_undecided-requires
refuse_unless_undecided-requires c = rw c.dag-dag.ensures.dag (replay_rows _ c.self.invariant.replayed)

pub decision_after_verdict-requires-clause-rows : goal.decision_after_verdict-requires-clause-rows
decision_after_verdict-requires-clause-rows c = rw c.dag-dag.ensures.dag (replay_rows _ c.self.invariant.replayed)

pub returns-then-goes_on_to_expansion-expands-clause-err : goal.returns-then-goes_on_to_expansion-expands-clause-err
returns-then-goes_on_to_expansion-expands-clause-err c =
    let dag : Dag = c.self.inside.plan.now.dag in
    let s : State = c.self.inside.state in
    let now : _ = rw c.dag-dag.ensures.dag at c.in_ok-refuse_unless_undecided.ensures.ok in
    let on : c.goes_on_to_expansion.result ≡ goes_on_in dag s c.args.run c.args.task = goes_on_by dag c.dag-dag.result.now s c.args.run c.args.task c.task_verdict-verdict.result c.goes_on_to_expansion.result c.dag-dag.ensures.dag c.task_verdict-verdict.ensures c.goes_on_to_expansion.ensures in
    rw (← c.self.view_is) (not_decided dag c.self.inside.plan.now.limits s c.self.inside.clock c.args.run c.args.task c.args.expands now.0
    (λ able is. other-from c.goes_on_to_expansion.result c.args.expands c.if-goes_on_to_expansion-expands.true (on ∙ is)))

pub returns-then-waits-clause-err : goal.returns-then-waits-clause-err
returns-then-waits-clause-err c =
    let dag : Dag = c.self.inside.plan.now.dag in
    let s : State = c.self.inside.state in
    let now : _ = rw c.dag-dag.ensures.dag at c.in_ok-refuse_unless_undecided.ensures.ok in
    let is : c.in_ok-decision.decision ≡ decision_in dag s c.args.run c.args.task =
    decision_by dag c.dag-dag.result.now s c.args.run c.args.task c.task_verdict-verdict.result c.in_ok-decision.decision c.dag-dag.ensures.dag c.task_verdict-verdict.ensures c.in_ok-decision.ensures in
    rw (← c.self.view_is) (not_decided dag c.self.inside.plan.now.limits s c.self.inside.clock c.args.run c.args.task c.args.expands now.0
    (λ able on. able.decides (sym is ∙ c.waits.ensures.0 c.if-waits.true)))

pub returns-clause-ok : goal.returns-clause-ok
returns-clause-ok c =
    let dag : Dag = c.self.inside.plan.now.dag in
    let limits : Limits = c.self.inside.plan.now.limits in
    let s : State = c.self.inside.state in
    let now : _ = rw c.dag-dag.ensures.dag at c.in_ok-refuse_unless_undecided.ensures.ok in
    let on : c.goes_on_to_expansion.result ≡ goes_on_in dag s c.args.run c.args.task = goes_on_by dag c.dag-dag.result.now s c.args.run c.args.task c.task_verdict-verdict.result c.goes_on_to_expansion.result c.dag-dag.ensures.dag c.task_verdict-verdict.ensures c.goes_on_to_expansion.ensures in
    let is : c.in_ok-decision.decision ≡ decision_in dag s c.args.run c.args.task =
    decision_by dag c.dag-dag.result.now s c.args.run c.args.task c.task_verdict-verdict.result c.in_ok-decision.decision c.dag-dag.ensures.dag c.task_verdict-verdict.ensures c.in_ok-decision.ensures in
    let asked : goes_on_in dag s c.args.run c.args.task ≡ c.args.expands = sym on ∙ equal-from c.goes_on_to_expansion.result c.args.expands c.if-goes_on_to_expansion-expands.false in
    rw (← c.self.view_is) (
      (
        decide_able dag limits s c.args.run c.args.task c.args.expands c.in_ok-decision.decision now asked is (λ e. let f : true ≡ false = sym (c.waits.ensures.1 e) ∙ c.if-waits.false in cc),
        untimed c.self.inside.clock c.args.run c.args.task c.args.expands,
      ),
      is,
    )
