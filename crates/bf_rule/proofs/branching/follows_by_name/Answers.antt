use Rattle.std.proofs.Common.{sym, ap, ◌&&◌, ◌∙◌}
use Rattle.bf_rule.proofs.Following.{known_name, other_name, unknown_name}
use Rattle.bf_rule.proofs.branching.follows_by_name.Goals as goal

pub returns-then-is_direct_downstream : goal.returns-then-is_direct_downstream
returns-then-is_direct_downstream c =
    sym (ap (λ b. b && c.is_or_reaches.result) (sym c.is_direct_downstream.ensures ∙ c.if-is_direct_downstream.true))
    ∙ known_name c.args.graph.now c.tasks_have_ranks.ensures (sym c.len-tasks.ensures.ids ∙ c.len-tasks.ensures.tasks) c.args.branch c.args.task c.ids_are_distinct.ensures c.args.name.now c.in-Some.named
    (sym c.number_of.ensures ∙ c.in-Some.is) c.is_or_reaches.result c.is_or_reaches.ensures.0 c.is_or_reaches.ensures.1

pub returns-else-is_direct_downstream : goal.returns-else-is_direct_downstream
returns-else-is_direct_downstream c =
    c.if-is_direct_downstream.false
    ∙ sym (other_name c.args.graph.now c.tasks_have_ranks.ensures (sym c.len-tasks.ensures.ids ∙ c.len-tasks.ensures.tasks) c.args.branch c.args.task c.ids_are_distinct.ensures c.args.name.now c.in-Some.named
    (sym c.number_of.ensures ∙ c.in-Some.is) (sym c.is_direct_downstream.ensures ∙ c.if-is_direct_downstream.false))

pub returns-in-None : goal.returns-in-None
returns-in-None c =
    sym (unknown_name c.args.graph.now c.tasks_have_ranks.ensures (sym c.len-tasks.ensures.ids ∙ c.len-tasks.ensures.tasks) c.args.branch c.args.task c.args.name.now (sym c.number_of.ensures ∙ c.in-None.is))
