use Rattle.std.proofs.Common.{◌≡◌, ◌++◌, drop, string_bytes}
use Rattle.bf_report.specs.declared.report.Report.{Report}
use Rattle.bf_reason.specs.Runs.{tasks_in, tasks_before}
use Rattle.bf_cells.specs.Cells.{letters_from}
use Rattle.bf_cells.proofs.cells.push_letters.Given as goal

abbrev pub invariant-loop-task : goal.invariant-loop-task
invariant-loop-task l =
    (report : Report) → l.settled ≡ tasks_in report l.run → l.before ≡ tasks_before report l.run →
    string_bytes l.text ++ letters_from l.plan.dag report l.run l.task (drop l.task l.settled) ≡ string_bytes l.fn.text ++ letters_from l.plan.dag report l.run 0 l.settled
