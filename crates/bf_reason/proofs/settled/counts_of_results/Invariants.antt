use Rattle.std.proofs.Common.{◌≡◌, drop}
use Rattle.bf_rule.specs.Verdicts.{total_of, add}
use Rattle.bf_core.specs.Deciding.{counts_of_results_of}
use Rattle.bf_reason.proofs.settled.counts_of_results.Given as goal

abbrev pub invariant-loop-result : goal.invariant-loop-result
invariant-loop-result l = record {
  sum : add l.counts (counts_of_results_of (drop l.result-index l.results)) ≡ counts_of_results_of l.results;
  size : total_of l.counts ≡ l.result-index;
}
