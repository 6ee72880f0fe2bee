use Rattle.std.proofs.Common.{None, option_map, refl, sym, ap, ◌∙◌}
use Rattle.bf_rule.specs.Branches.{followed_at}
use Rattle.bf_rule.proofs.Following.{nothing_followed}
use Rattle.bf_rule.proofs.branching.followed.Goals as goal

pub returns-in-None : goal.returns-in-None
returns-in-None c =
    sym (ap (λ o. followed_at c.args.graph.now c.args.branch (option_map (λ v. v.now) o) c.args.task) c.in-None.is ∙ nothing_followed c.args.graph.now c.args.branch None refl c.args.task)
