use Rattle.std.proofs.Common.{◌≡◌, ◌≤◌, ◌*◌, drop}
use Rattle.bf_rule.specs.Verdicts.{total_of, add}
use Rattle.bf_core.specs.Events.{cell_at, seen_in}
use Rattle.bf_core.specs.Deciding.{counts_over}
use Rattle.bf_core.proofs.counting.counts_of_upstreams.Given as goal

abbrev pub invariant-loop-upstream : goal.invariant-loop-upstream
invariant-loop-upstream l = record {
  sum : add l.counts (counts_over (λ u. seen_in (cell_at l.state l.run u)) (drop l.upstream-index l.upstreams)) ≡ counts_over (λ u. seen_in (cell_at l.state l.run u)) l.upstreams;
  size : total_of l.counts ≤ 1_024 * l.upstream-index;
}
