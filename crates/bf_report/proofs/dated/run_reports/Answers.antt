use Rattle.std.proofs.Common.{ℕ, refl, ◌∙◌}
use Rattle.bf_core.specs.Events.{entry_in}
use Rattle.bf_core.proofs.Placing.{read_row}
use Rattle.bf_report.proofs.DatedFacts.{all_more, dated_next, outcome_reports}
use Rattle.bf_report.proofs.dated.run_reports.Goals as goal

pub loop-run-preserved : goal.loop-run-preserved
loop-run-preserved c = record {
  dated =
      let k : ℕ = c.loop-run.run in
      rw c.in_ok-push.ensures.items (dated_next c.args.dag.now (entry_in c.args.state.now.ledger) c.args.intervals.now k _ c.loop-run.runs.items _ c.loop-run-test.true c.index-intervals-run.is c.loop-run.invariant.dated
      refl
      (read_row c.args.states.now k _ _ (c.requires.run_states.1 k c.loop-run-test.true))
      (c.in_ok-task_reports.ensures.reports ∙ outcome_reports c.args.dag.now _ c.args.state.now c.requires.outcome k c.loop-run-test.true));
  sound = rw c.in_ok-push.ensures.items (all_more _ c.loop-run.runs.items _ c.loop-run.invariant.sound c.in_ok-task_reports.ensures.sound);
}
