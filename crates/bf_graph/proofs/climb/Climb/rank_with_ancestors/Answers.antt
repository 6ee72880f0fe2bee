use Rattle.std.proofs.Common.{◌≢◌, ◌<◌, List, Option, ℕ, None, false, length, get_or, ap, sym, ◌∙◌, subst, arith}
use Rattle.std.proofs.lemmas.List.{get_or_default}
use Rattle.bf_graph.specs.Edges.{lists}
use Rattle.bf_graph.specs.inner.Ranks.{rank_at, unranked}
use Rattle.bf_graph.specs.inner.Climbs.{IsClimb}
use Rattle.bf_graph.proofs.RankLemmas.{in_range_read, unranked_set}
use Rattle.bf_graph.proofs.ReachingLemmas.{unmarked_in_set}
use Rattle.bf_graph.proofs.ClimbLemmas.{keeps_rank, still_marked, none_unranked, taken_off, are_read, next_above, down_one, up_one, closes}
use Rattle.bf_graph.proofs.climb.Climb.rank_with_ancestors.Goals as goal

pub bounds-edges-task : goal.bounds-edges-task
bounds-edges-task c =
    (taken_off _ _ _ _ c.in-Some.ensures.items c.climb.invariant.climbing).within

pub index-passed-requires : goal.index-passed-requires
index-passed-requires c =
    let task = taken_off _ _ _ _ c.in-Some.ensures.items c.climb.invariant.climbing in
    omega (arith, task.in_passed)

pub first_unranked_from-found-requires : goal.first_unranked_from-found-requires
first_unranked_from-found-requires c =
    let task = taken_off _ _ _ _ c.in-Some.ensures.items c.climb.invariant.climbing in
    let read = are_read _ _ _ _ _ _ _ task c.index-edges-task.is c.as_slice-upstreams.ensures.value c.index-passed.ensures in
    in_range_read c.args.edges.now _ _ _ c.requires.in_range (ap length c.as_slice.ensures.value ∙ c.climb.invariant.climbing.found.right_ranks.len) read.upstreams

pub set_rank_of-requires-clause-within : goal.set_rank_of-requires-clause-within
set_rank_of-requires-clause-within c =
    (taken_off _ _ _ _ c.in-Some.ensures.items c.climb.invariant.climbing).within

pub set_rank_of-requires-clause-ready : goal.set_rank_of-requires-clause-ready
set_rank_of-requires-clause-ready c =
    let task = taken_off _ _ _ _ c.in-Some.ensures.items c.climb.invariant.climbing in
    let read = are_read _ _ _ _ _ _ _ task c.index-edges-task.is c.as_slice-upstreams.ensures.value c.index-passed.ensures in
    none_unranked _ _ _ _ _ _ c.as_slice.ensures.value read.upstreams read.passed_is (task.climb.passed_ranked _) c.in_default-found.ensures

pub climb-smaller-in_default-found : goal.climb-smaller-in_default-found
climb-smaller-in_default-found c =
    let task = taken_off _ _ _ _ c.in-Some.ensures.items c.climb.invariant.climbing in
    let set_there = c.in_ok-set_rank_of.ensures.set_there in
    omega (arith, ap unranked set_there, unranked_set c.climb.self.found.ranks.items _ c.in_ok-set_rank_of.ensures.rank task.in_ranks task.unranked)

pub climb-preserved-in_default-found : goal.climb-preserved-in_default-found
climb-preserved-in_default-found c =
    let rest = c.pop.new.self.items in
    let task = taken_off _ _ _ _ c.in-Some.ensures.items c.climb.invariant.climbing in
    let ranked = c.in_ok-set_rank_of.ensures in
    let Q : List (Option ℕ) → Type 0 = λ rs. IsClimb (lists c.args.edges.now) (length c.args.edges.now) rs rest c.climb.self.seen.items c.climb.self.passed.items in
    record {
      climbing = record { found = ranked.found; climb = subst Q (sym ranked.set_there) (down_one _ _ _ rest _ _ _ task.climb ranked.rank task.in_ranks) };
      kept = λ u some. (let R : List (Option ℕ) → Type 0 = λ rs. rank_at rs u ≢ None in subst R (sym ranked.set_there) (keeps_rank _ _ _ u task.in_ranks (c.climb.invariant.kept u some)));
      started = c.climb.invariant.started;
    }

pub index-requires : goal.index-requires
index-requires c =
    let task = taken_off _ _ _ _ c.in-Some.ensures.items c.climb.invariant.climbing in
    let read = are_read _ _ _ _ _ _ _ task c.index-edges-task.is c.as_slice-upstreams.ensures.value c.index-passed.ensures in
    let next = next_above _ _ _ _ _ _ _ _ c.requires.in_range task read c.as_slice.ensures.value c.in-Some-found.ensures in
    omega (arith, next.in_seen)

pub returns-then-index : goal.returns-then-index
returns-then-index c =
    let rest = c.pop.new.self.items in
    let task = taken_off _ _ _ _ c.in-Some.ensures.items c.climb.invariant.climbing in
    let read = are_read _ _ _ _ _ _ _ task c.index-edges-task.is c.as_slice-upstreams.ensures.value c.index-passed.ensures in
    let next = next_above _ _ _ _ _ _ _ _ c.requires.in_range task read c.as_slice.ensures.value c.in-Some-found.ensures in
    let mark = get_or_default c.climb.self.seen.items _ false c.index.result.now next.in_seen ∙ sym c.index.ensures ∙ c.if-index.true in
    closes _ _ _ rest _ _ _ task.climb _ _ next.is next.up next.unranked mark

pub index_mut-requires-in-Some : goal.index_mut-requires-in-Some
index_mut-requires-in-Some c =
    let task = taken_off _ _ _ _ c.in-Some.ensures.items c.climb.invariant.climbing in
    omega (arith, task.in_passed)

pub index_mut-requires-in-Some-2 : goal.index_mut-requires-in-Some-2
index_mut-requires-in-Some-2 c =
    let task = taken_off _ _ _ _ c.in-Some.ensures.items c.climb.invariant.climbing in
    let read = are_read _ _ _ _ _ _ _ task c.index-edges-task.is c.as_slice-upstreams.ensures.value c.index-passed.ensures in
    let next = next_above _ _ _ _ _ _ _ _ c.requires.in_range task read c.as_slice.ensures.value c.in-Some-found.ensures in
    omega (arith, next.in_seen)

pub climb-smaller : goal.climb-smaller
climb-smaller c =
    let task = taken_off _ _ _ _ c.in-Some.ensures.items c.climb.invariant.climbing in
    let read = are_read _ _ _ _ _ _ _ task c.index-edges-task.is c.as_slice-upstreams.ensures.value c.index-passed.ensures in
    let next = next_above _ _ _ _ _ _ _ _ c.requires.in_range task read c.as_slice.ensures.value c.in-Some-found.ensures in
    let clear = get_or_default c.climb.self.seen.items _ false c.index.result.now next.in_seen ∙ sym c.index.ensures ∙ c.if-index.false in
    omega (arith, unmarked_in_set c.climb.self.seen.items _ next.in_seen clear)

pub climb-preserved : goal.climb-preserved
climb-preserved c =
    let rest = c.pop.new.self.items in
    let task = taken_off _ _ _ _ c.in-Some.ensures.items c.climb.invariant.climbing in
    let read = are_read _ _ _ _ _ _ _ task c.index-edges-task.is c.as_slice-upstreams.ensures.value c.index-passed.ensures in
    let next = next_above _ _ _ _ _ _ _ _ c.requires.in_range task read c.as_slice.ensures.value c.in-Some-found.ensures in
    let clear = get_or_default c.climb.self.seen.items _ false c.index.result.now next.in_seen ∙ sym c.index.ensures ∙ c.if-index.false in
    let up = up_one _ _ _ rest _ _ _ task.climb _ _ next.is next.up next.unranked next.within clear next.before in
    record {
      climbing = record { found = c.climb.invariant.climbing.found; climb = rw (c.in_ok-push-3.ensures.items, c.in_ok-push-2.ensures.items) up };
      kept = c.climb.invariant.kept;
      started = still_marked c.climb.self.seen.items _ _ next.in_seen c.climb.invariant.started;
    }
