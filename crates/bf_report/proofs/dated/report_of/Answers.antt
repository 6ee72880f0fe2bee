use Rattle.std.proofs.Common.{◌≡◌, ℕ, List, length, ap, ◌∙◌, subst, sym}
use Rattle.bf_plan.specs.declared.plan.Dag.{Dag}
use Rattle.bf_core.specs.Agreement.{AreRunStates, IsOutcome}
use Rattle.bf_core.specs.Events.{entry_in}
use Rattle.bf_report.proofs.dated.report_of.Goals as goal

pub run_reports-requires-clause-outcome : goal.run_reports-requires-clause-outcome
run_reports-requires-clause-outcome c =
    rw (c.dag-dag.ensures.dag, c.plan.ensures.dag, c.intervals-intervals.ensures.intervals, c.requires, c.into_state-state.ensures.state) c.into_state-state.ensures.end.outcome

pub run_reports-requires-clause-run_states : goal.run_reports-requires-clause-run_states
run_reports-requires-clause-run_states c =
    rw (c.dag-dag.ensures.dag, c.plan.ensures.dag, c.intervals-intervals.ensures.intervals, c.requires, c.into_state-state.ensures.state, c.as_slice.ensures, c.into_state-state.ensures.run_states) c.into_state-state.ensures.end.run_states
