use Rattle.std.proofs.Common.{take}
use Rattle.bf_core.specs.Events.{entry_in}
use Rattle.bf_report.specs.Dated.{AreDated}
use Rattle.bf_report.specs.Values.{AreSoundRuns}
use Rattle.bf_report.proofs.dated.run_reports.Given as goal

abbrev pub invariant-loop-run : goal.invariant-loop-run
invariant-loop-run l = record {
  dated : AreDated l.dag (entry_in l.state.ledger) 0 (take l.run l.intervals) l.runs.items;
  sound : AreSoundRuns l.runs.items;
}
