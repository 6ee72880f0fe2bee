use Rattle.std.proofs.Common.{get_or, arith}
use Rattle.std.proofs.lemmas.List.Elements.{Contains-get_or}
use Rattle.bf_graph.proofs.RankLemmas.{so_far_start, so_far_same, so_far_raised, next_rank_from_so_far}
use Rattle.bf_graph.proofs.ranking.rank_after_upstreams.Goals as goal
use Rattle.bf_graph.proofs.ranking.rank_after_upstreams.Goals.{then-rank-next, else-rank-next}

pub loop-u-init : goal.loop-u-init
loop-u-init c = so_far_start _ _

pub bounds-ranks-u : goal.bounds-ranks-u
bounds-ranks-u c = c.requires.in_range _ (Contains-get_or _ _ 0 c.loop-u-test.true)

pub overflow_add-next : goal.overflow_add-next
overflow_add-next c = let small = c.requires.below _ _ c.in-Some.is in omega (arith, small)

pub loop-u-preserved : goal.loop-u-preserved
loop-u-preserved c =
    elim c.if-rank-next.branch [
      | then-rank-next w ↦ rw w.next-is (so_far_raised _ _ _ _ _ c.loop-u-test.true c.loop-u.invariant c.in-Some.is w.if-rank-next.true)
      | else-rank-next w ↦ rw w.next-is (so_far_same _ _ _ _ _ c.loop-u.invariant c.in-Some.is w.if-rank-next.false)
    ]

pub returns : goal.returns
returns c = next_rank_from_so_far _ _ _ _ c.loop-u-test.false c.loop-u.invariant

pub returns-in_default : goal.returns-in_default
returns-in_default c = (get_or c.args.upstreams.now c.loop-u.u-index 0, Contains-get_or _ _ 0 c.loop-u-test.true, c.in_default.is)
