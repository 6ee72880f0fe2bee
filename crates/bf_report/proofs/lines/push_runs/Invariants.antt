use Rattle.std.proofs.Common.{◌≡◌, ◌++◌, take}
use Rattle.std.specs.List.{flat_map}
use Rattle.bf_report.specs.Report.{run_text}
use Rattle.bf_report.proofs.lines.push_runs.Given as goal

abbrev pub invariant-loop-run : goal.invariant-loop-run
invariant-loop-run l = l.text ≡ l.fn.text ++ flat_map (run_text l.ids) (take l.run-index l.runs)
