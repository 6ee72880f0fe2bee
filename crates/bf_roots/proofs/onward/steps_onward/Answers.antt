use Rattle.std.proofs.Common.{◌≤◌, List, length, slice_get, sym, subst}
use Rattle.std.proofs.lemmas.Result.{IfOk-weaker}
use Rattle.bf_plan.specs.Sound.{IsSound}
use Rattle.bf_roots.specs.declared.step.WalkStep.{WalkStep}
use Rattle.bf_roots.proofs.OnwardFacts.{few_if_told}
use Rattle.bf_roots.proofs.onward.steps_onward.Goals as goal

pub returns-clause-few : goal.returns-clause-few
returns-clause-few c =
    let dag = c.args.plan.now.dag in
    let sound : IsSound dag = c.dag-few.ensures.sound in
    let few = few_if_told dag sound c.args.settled.now c.args.before.now c.args.step.run c.args.step.task (slice_get c.args.settled.now c.args.step.task) in
    IfOk-weaker c.steps_from.result _ _ (λ steps is. subst (λ (s : List WalkStep). length s ≤ 20_000) (sym is) few) c.steps_from.ensures
