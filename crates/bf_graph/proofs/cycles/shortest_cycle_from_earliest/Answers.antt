use Rattle.std.proofs.Common.{ℕ, true≢false, below_more, sym, ◌∙◌, arith, Vec, Global}
use Rattle.std.proofs.lemmas.List.{length-map}
use Rattle.bf_graph.specs.Edges.{lists}
use Rattle.std.proofs.lemmas.Result.{IfOk-weaker}
use Rattle.bf_graph.proofs.NamedLemmas.{levels_again, is_named, none_left, returns_soon}
use Rattle.bf_graph.proofs.ReachLemmas.{mark_tells}
use Rattle.bf_graph.proofs.cycles.shortest_cycle_from_earliest.Goals as goal

pub levels_back_to-requires-clause-returns : goal.levels_back_to-requires-clause-returns
levels_back_to-requires-clause-returns c =
    let found = c.in_ok-reaching.ensures in
    let reached = (mark_tells _ _ _ _ _ _ found.marks c.loop-first-test.true c.index.ensures).0 c.if-index.true in
    returns_soon _ _ _ _ found.tasks (omega (arith, c.len.ensures)) (found.tasks.all _ reached)

pub first_shortest_cycle-requires-clause-levels : goal.first_shortest_cycle-requires-clause-levels
first_shortest_cycle-requires-clause-levels c = levels_again _ _ _ _ _ c.as_slice.ensures.value c.in_ok-levels.ensures.1

pub returns-then-index : goal.returns-then-index
returns-then-index c =
    let levels = levels_again _ _ _ _ _ c.as_slice.ensures.value c.in_ok-levels.ensures.1 in
    IfOk-weaker c.first_shortest_cycle.result _ _ (λ ts first. is_named _ _ _ _ _ c.loop-first.invariant levels first) c.first_shortest_cycle.ensures

pub loop-first-preserved : goal.loop-first-preserved
loop-first-preserved c =
    let marks = c.in_ok-reaching.ensures.marks in
    below_more _ _ c.loop-first.invariant (λ w. true≢false (sym ((mark_tells _ _ _ _ _ _ marks c.loop-first-test.true c.index.ensures).1 w) ∙ c.if-index.false))

pub unreachable-requires : goal.unreachable-requires
unreachable-requires c =
    let all = length-map c.args.edges.now (λ (v : Vec ℕ Global). v.items) in
    none_left (lists c.args.edges.now) c.loop-first.first (omega (arith, all, c.loop-first-test.false, c.loop-first.auto.first-end)) c.loop-first.invariant c.requires.some
