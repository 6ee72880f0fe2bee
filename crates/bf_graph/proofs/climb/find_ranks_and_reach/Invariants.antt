use Rattle.std.proofs.Common.{◌≢◌, ◌<◌, ℕ, None}
use Rattle.bf_graph.specs.inner.Climbs.{IsDown}
use Rattle.bf_graph.specs.inner.Ranks.{rank_at}
use Rattle.bf_graph.proofs.climb.find_ranks_and_reach.Given as goal

abbrev pub invariant-loop-t : goal.invariant-loop-t
invariant-loop-t l = record {
  down : IsDown l.edges l.climb;
  ranked : (k : ℕ) → k < l.t → rank_at l.climb.found.ranks.items k ≢ None;
}
