use Rattle.bf_graph.proofs.RankLemmas.{IsNextSoFar}
use Rattle.bf_graph.proofs.ranking.rank_after_upstreams.Given as goal

abbrev pub invariant-loop-u : goal.invariant-loop-u
invariant-loop-u l = IsNextSoFar l.ranks l.upstreams l.u-index l.next
