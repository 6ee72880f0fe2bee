use Rattle.std.proofs.Common.{ℕ, List, subst, arith, Contains}
use Rattle.bf_graph.proofs.LevelLemmas.{one_above, none_more_above}
use Rattle.bf_graph.proofs.RankLemmas.{upstreams_read}
use Rattle.bf_graph.proofs.cycles.marks_of_direct_upstreams.Goals as goal
use Rattle.bf_graph.proofs.cycles.marks_of_direct_upstreams.Goals.{then-level-t, else-level-t}

pub mark_all-requires : goal.mark_all-requires
mark_all-requires c = λ u one.
    let edges = c.args.edges.now in
    let read = upstreams_read edges c.loop-t.t _ _ c.loop-t-test.true c.index-edges-t.is c.as_slice.ensures.value in
    let Q : List ℕ → Type 0 = λ xs. Contains xs u in
    let below = c.requires.in_range c.loop-t.t u (subst Q read one) in
    let len = c.loop-t.invariant.len in
    omega (arith, below, len)

pub loop-t-preserved : goal.loop-t-preserved
loop-t-preserved c =
    elim c.if-level-t.branch [
      | then-level-t w ↦
          rw w.above-is (one_above _ _ _ _ c.loop-t.invariant _ _ w.if-level-t.true (upstreams_read c.args.edges.now c.loop-t.t _ _ c.loop-t-test.true w.index-edges-t.is w.as_slice.ensures.value) w.mark_all.ensures.len w.mark_all.ensures.marks)
      | else-level-t w ↦ rw w.above-is (none_more_above _ _ _ _ c.loop-t.invariant w.if-level-t.false)
    ]
