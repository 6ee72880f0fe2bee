use Rattle.std.proofs.Common.{◌<◌, suc, ℕ, length, Vec, Global, ◌∙◌, arith, add-one}
use Rattle.std.proofs.lemmas.List.{length-map}
use Rattle.bf_graph.specs.Edges.{lists}
use Rattle.bf_graph.proofs.LevelLemmas.{level_read, one_level, levels_more, levels_found}
use Rattle.bf_graph.proofs.cycles.levels_back_to.Goals as goal

pub marks_of_direct_upstreams-requires-clause-same : goal.marks_of_direct_upstreams-requires-clause-same
marks_of_direct_upstreams-requires-clause-same c =
    let level = level_read _ _ _ c.loop-n.levels.items _ _ c.loop-n.invariant c.index.ensures c.as_slice.ensures.value in
    level.len ∙ length-map c.args.edges.now (λ (v : Vec ℕ Global). v.items)

pub returns-then-is_last : goal.returns-then-is_last
returns-then-is_last c =
    let edges = c.args.edges.now in
    let within : c.args.task < length (lists edges) = omega (arith, c.requires.within, length-map edges (λ (v : Vec ℕ Global). v.items)) in
    let one = one_level _ _ _ c.loop-n.levels.items _ _ _ _ _ within c.loop-n.invariant c.index.ensures c.as_slice.ensures.value c.in_ok-above.ensures c.in_ok-push-2.ensures.items c.index-is_last.ensures in
    (suc c.loop-n.n, rw one.2 (levels_found _ _ _ _ _ within c.loop-n.invariant one.0 (one.1 ∙ c.if-is_last.true)))

pub loop-n-preserved : goal.loop-n-preserved
loop-n-preserved c =
    let edges = c.args.edges.now in
    let within : c.args.task < length (lists edges) = omega (arith, c.requires.within, length-map edges (λ (v : Vec ℕ Global). v.items)) in
    let one = one_level _ _ _ c.loop-n.levels.items _ _ _ _ _ within c.loop-n.invariant c.index.ensures c.as_slice.ensures.value c.in_ok-above.ensures c.in_ok-push-2.ensures.items c.index-is_last.ensures in
    rw (one.2, add-one) (levels_more _ _ _ _ _ within c.loop-n.invariant one.0 (one.1 ∙ c.if-is_last.false))

pub unreachable-requires : goal.unreachable-requires
unreachable-requires c =
    let back = c.requires.returns in
    c.loop-n.invariant.first (suc back.0) (omega arith) (omega (arith, back.1, c.loop-n-test.false)) back.2
