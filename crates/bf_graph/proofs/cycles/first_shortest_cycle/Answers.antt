use Rattle.std.proofs.Common.{◌-◌, ℕ, Vec, Global, ◌∙◌, arith}
use Rattle.std.proofs.lemmas.List.{length-map}
use Rattle.bf_graph.proofs.LevelLemmas.{level_at}
use Rattle.bf_graph.proofs.NamedLemmas.{one_back, some_above, walk_more, walk_ends}
use Rattle.bf_graph.proofs.cycles.first_shortest_cycle.Goals as goal

pub earliest_marked_downstream-last-requires-clause-same : goal.earliest_marked_downstream-last-requires-clause-same
earliest_marked_downstream-last-requires-clause-same c =
    let bound = c.along.invariant.bound in
    let level = level_at _ _ _ (c.along.left - 1) c.args.levels.now _ _ c.requires.levels (omega (arith, bound)) c.index-levels-left.is c.as_slice.ensures.value in
    level.len ∙ length-map c.args.edges.now (λ (v : Vec ℕ Global). v.items)

pub earliest_marked_downstream-last-requires-clause-some : goal.earliest_marked_downstream-last-requires-clause-some
earliest_marked_downstream-last-requires-clause-some c =
    let bound = c.along.invariant.bound in
    let level = level_at _ _ _ (c.along.left - 1) c.args.levels.now _ _ c.requires.levels (omega (arith, bound)) c.index-levels-left.is c.as_slice.ensures.value in
    some_above _ _ _ _ _ _ _ (one_back _ _ _ _ _ _ c.along-test.true c.along.invariant) level

pub along-preserved : goal.along-preserved
along-preserved c =
    let bound = c.along.invariant.bound in
    let level = level_at _ _ _ (c.along.left - 1) c.args.levels.now _ _ c.requires.levels (omega (arith, bound)) c.index-levels-left.is c.as_slice.ensures.value in
    rw c.in_ok-push.ensures.items (walk_more _ _ _ _ _ _ _ _ (one_back _ _ _ _ _ _ c.along-test.true c.along.invariant) level c.earliest_marked_downstream-last.ensures)

pub returns : goal.returns
returns c = walk_ends _ _ _ _ _ _ c.requires.levels.some (omega arith) c.along.invariant
