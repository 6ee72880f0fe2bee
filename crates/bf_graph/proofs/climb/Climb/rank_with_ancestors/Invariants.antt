use Rattle.std.proofs.Common.{◌≡◌, ◌+◌, true}
use Rattle.bf_graph.specs.inner.Climbs.{IsClimbing, KeepsRanks}
use Rattle.bf_graph.specs.inner.Cycles.{unmarked_in}
use Rattle.bf_graph.specs.inner.Ranks.{unranked}
use Rattle.bf_graph.specs.Reach.{is_marked_in}
use Rattle.bf_graph.proofs.climb.Climb.rank_with_ancestors.Given as goal

abbrev pub invariant-climb : goal.invariant-climb
invariant-climb l = record {
  climbing : IsClimbing l.edges l.self;
  kept : KeepsRanks l.fn.self.found.ranks.items l.self.found.ranks.items;
  started : is_marked_in l.self.seen.items l.start ≡ true;
}

abbrev pub decreases-climb : goal.decreases-climb
decreases-climb l = unmarked_in l.self.seen.items + unranked l.self.found.ranks.items
