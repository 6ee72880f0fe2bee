use Rattle.bf_graph.specs.inner.Climbs.{AreRankedBetween}
use Rattle.bf_graph.proofs.climb.first_unranked_from.Given as goal

abbrev pub invariant-loop-place : goal.invariant-loop-place
invariant-loop-place l = AreRankedBetween l.ranks l.upstreams l.from l.place
