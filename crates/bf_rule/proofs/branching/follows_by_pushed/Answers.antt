use Rattle.std.proofs.Common.{Some, sym, ap, ◌∙◌}
use Rattle.std.specs.List.{list_any}
use Rattle.bf_value.specs.declared.xval.Xval.{Xval}
use Rattle.bf_rule.specs.Branches.{followed_at, name_in}
use Rattle.bf_rule.specs.inner.Branches.{followed_by_name}
use Rattle.bf_rule.proofs.Following.{list_follows, no_text_follows_nothing}
use Rattle.bf_rule.proofs.branching.follows_by_pushed.Goals as goal

pub returns-in-List : goal.returns-in-List
returns-in-List c =
    c.follows_by_values.ensures
    ∙ ap (list_any (λ v. followed_by_name c.args.graph.now c.args.branch c.args.task (name_in v))) c.as_slice.ensures.items
    ∙ list_follows c.args.graph.now c.tasks_have_ranks.ensures (sym c.len-tasks.ensures.ids ∙ c.len-tasks.ensures.tasks) c.args.branch c.args.task c.in-List.values
    ∙ ap (λ (v : Xval). followed_at c.args.graph.now c.args.branch (Some v) c.args.task) (sym c.in-List.is)

pub returns-in-Flag : goal.returns-in-Flag
returns-in-Flag c = no_text_follows_nothing c.args.graph.now c.args.branch c.args.task c.args.value.now c.in-Flag.is

pub returns-in-Flag-2 : goal.returns-in-Flag-2
returns-in-Flag-2 c = no_text_follows_nothing c.args.graph.now c.args.branch c.args.task c.args.value.now c.in-Flag.is

pub returns-in-Flag-3 : goal.returns-in-Flag-3
returns-in-Flag-3 c = no_text_follows_nothing c.args.graph.now c.args.branch c.args.task c.args.value.now c.in-Flag.is
