use Rattle.std.proofs.Common.{sym, subst}
use Rattle.bf_graph.specs.Shape.{Shape}
use Rattle.bf_plan.specs.declared.plan.Dag.{Dag}
use Rattle.bf_plan.specs.declared.plan.Limits.{Limits}
use Rattle.bf_check.specs.Checking.{dag_of, limits_in}
use Rattle.bf_plan.specs.Sound.{IsChecked}
use Rattle.bf_check.proofs.PlanLemmas.{is_checked}
use Rattle.bf_check.proofs.checking.plan_of_parts.Goals as goal

pub new-plan-requires : goal.new-plan-requires
new-plan-requires c =
    let draft = c.args.draft in
    let parts = c.args.parts in
    let are = c.requires in
    let checked = is_checked draft are.ok are.settled are.ranking in
    subst (λ (d : Dag). IsChecked d parts.limits parts.graph) (sym c.in_ok-dag.ensures)
    (subst (λ (l : Limits). IsChecked (dag_of draft) l parts.graph) (sym are.limits)
    (subst (λ (g : Shape). IsChecked (dag_of draft) (limits_in draft) g) (sym are.found.graph_is) checked))
