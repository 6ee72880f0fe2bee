use Rattle.std.proofs.Common.{List, Option, ℕ, length, refl, ap, sym, ◌∙◌, subst, arith}
use Rattle.std.proofs.lemmas.List.{length-set}
use Rattle.bf_graph.specs.inner.Ranks.{HasUnranked}
use Rattle.bf_graph.specs.Reach.{rows_of, row_at}
use Rattle.bf_graph.proofs.RankLemmas.{one_ranked, in_range_read, upstreams_read, is_upstream, next_read}
use Rattle.bf_graph.proofs.ReachLemmas.{joined_right, full_rows, more_rows, joins_read}
use Rattle.bf_graph.proofs.ranking.Found.set_rank_of.Goals as goal

pub rank_after_upstreams-found-requires-clause-in_range : goal.rank_after_upstreams-found-requires-clause-in_range
rank_after_upstreams-found-requires-clause-in_range c =
    in_range_read c.args.edges.now _ c.args.task _ c.requires.in_range (ap length c.as_slice.ensures.value ∙ c.requires.found.right_ranks.len) (upstreams_read _ _ _ _ c.requires.within c.index-edges-task.is c.as_slice-upstreams.ensures.value)

pub unreachable-requires : goal.unreachable-requires
unreachable-requires c =
    let read = upstreams_read _ _ _ _ c.requires.within c.index-edges-task.is c.as_slice-upstreams.ensures.value in
    let P : List (Option ℕ) → Type 0 = λ rs. HasUnranked rs c.as_slice-upstreams.result.now in
    c.requires.ready (subst (HasUnranked c.args.self.now.ranks.items) read (subst P c.as_slice.ensures.value c.in_default.ensures))

pub join_rows_at-requires-clause-in_range : goal.join_rows_at-requires-clause-in_range
join_rows_at-requires-clause-in_range c =
    in_range_read c.args.edges.now _ c.args.task _ c.requires.in_range (ap length c.as_slice-2.ensures.value ∙ c.requires.found.one_row_each) (upstreams_read _ _ _ _ c.requires.within c.index-edges-task.is c.as_slice-upstreams.ensures.value)

pub join_rows_at-requires-clause-full : goal.join_rows_at-requires-clause-full
join_rows_at-requires-clause-full c = λ u one.
    let found = c.requires.found in
    let read = upstreams_read _ _ _ _ c.requires.within c.index-edges-task.is c.as_slice-upstreams.ensures.value in
    let next = next_read _ _ _ _ _ c.as_slice.ensures.value read c.in-Some.ensures in
    let up = is_upstream c.args.edges.now _ u _ _ c.requires.within c.index-edges-task.is c.as_slice-upstreams.ensures.value one in
    let rows = c.as_slice-2.ensures.value in
    ap (λ xs. length (row_at (rows_of xs) u)) rows ∙ full_rows _ _ _ _ _ _ found.right_rows next u up ∙ sym (ap length rows ∙ found.one_row_each)

pub returns : goal.returns
returns c =
    let found = c.requires.found in
    let ranks = found.right_ranks in
    let len = ranks.len in
    let wide = found.one_row_each in
    let within = c.requires.within in
    let read = upstreams_read _ _ _ _ within c.index-edges-task.is c.as_slice-upstreams.ensures.value in
    let next = next_read _ _ _ _ _ c.as_slice.ensures.value read c.in-Some.ensures in
    let joins = joins_read c.args.self.now.rows.items _ _ _ _ _ c.as_slice-2.ensures.value read wide c.in_ok-row.ensures in
    record {
      found = record {
        right_ranks = one_ranked _ _ _ _ _ ranks within c.requires.unranked next;
        one_row_each = length-set c.args.self.now.rows.items c.args.task _ ∙ wide;
        right_rows = more_rows _ _ c.args.self.now.rows.items _ _ _ _ (omega (arith, within, wide)) (omega (arith, within, len)) found.right_rows (joined_right _ _ _ _ _ _ _ found.right_rows next joins);
      };
      rank = c.in-Some.rank;
      set_there = refl;
    }
