use Rattle.std.proofs.Common.{◌∙◌, sym, length}
use Rattle.bf_pool.proofs.WeightFacts.{descendants_are, ancestors_are, none_are, if_ok}
use Rattle.bf_pool.proofs.weights.tasks_counting_for.Goals as goal

pub returns-in-Downstream : goal.returns-in-Downstream
returns-in-Downstream c = rw c.in-Downstream.is (if_ok _ _ c.descendants.result (λ tasks is. descendants_are _ _ _ c.tasks_have_ranks.ensures is) c.descendants.ensures)

pub returns-in-Upstream : goal.returns-in-Upstream
returns-in-Upstream c = rw c.in-Upstream.is (if_ok _ _ c.ancestors.result (λ tasks is. ancestors_are _ _ _ c.tasks_have_ranks.ensures c.upstreams_are_in_range.ensures is) c.ancestors.ensures)

pub returns-in-Absolute : goal.returns-in-Absolute
returns-in-Absolute c = rw c.in-Absolute.is (c.new.ensures.items ∙ sym (none_are 0 (length c.args.graph.now.upstreams)))
