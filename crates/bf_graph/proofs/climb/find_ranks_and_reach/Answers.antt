use Rattle.std.proofs.Common.{◌≡◌, ◌≢◌, ◌<◌, Bool, true, false, true≢false, not, None, MatchBool, is_some, length, below_more, ap, sym, ◌∙◌, arith}
use Rattle.std.proofs.lemmas.List.{get_or_default}
use Rattle.bf_graph.specs.inner.Ranks.{rank_at}
use Rattle.bf_graph.proofs.climb.find_ranks_and_reach.Goals as goal
use Rattle.bf_graph.proofs.climb.find_ranks_and_reach.Goals.{else-is_none-via-then-is_none+in_ok-rank_with_ancestors+else-not-branch, else-is_none-via-else-is_none}

first_case : (b : Bool) (P Q : Type 0) → b ≡ true → MatchBool b P Q → P
first_case true P Q e m = m
first_case false P Q e m = absurd (true≢false (sym e))

pub loop-t-preserved : goal.loop-t-preserved
loop-t-preserved c =
    let k = c.loop-t.invariant in
    let len = k.down.climbing.found.right_ranks.len in
    let within : c.loop-t.t < length c.loop-t.climb.found.ranks.items = omega (arith, len, c.loop-t-test.true) in
    elim c.else-is_none.branch [
      | else-is_none-via-then-is_none+in_ok-rank_with_ancestors+else-not-branch w ↦
          let done = first_case _ _ _ w.if-not-branch.false w.in_ok-rank_with_ancestors.ensures in
          rw w.climb-is (record { down = done.all_down; ranked = below_more _ _ (λ j h. done.kept j (k.ranked j h)) done.ranked })
      | else-is_none-via-else-is_none w ↦
          let some : is_some c.index.result.now ≡ true = c.is_none.ensures ∙ ap not w.if-is_none.false in
          let ranked : rank_at c.loop-t.climb.found.ranks.items c.loop-t.t ≢ None = λ e. true≢false (sym some ∙ ap is_some (c.index.ensures ∙ get_or_default c.loop-t.climb.found.ranks.items c.loop-t.t c.index.result.now None within ∙ e)) in
          rw w.climb-is (record { down = k.down; ranked = below_more _ _ k.ranked ranked })
    ]
