use Rattle.std.proofs.Common.{◌≡◌, ◌++◌, drop, string_bytes}
use Rattle.std.specs.List.{enumerate_from, flat_map}
use Rattle.bf_reason.specs.Runs.{tasks_before}
use Rattle.bf_cells.specs.Cells.{row}
use Rattle.bf_cells.proofs.cells.push_rows.Given as goal

abbrev pub invariant-loop-number : goal.invariant-loop-number
invariant-loop-number l = record {
  before : l.before.items ≡ tasks_before l.report l.number;
  text : string_bytes l.text ++ flat_map (λ p. row l.plan.dag l.report p.0 p.1) (enumerate_from l.number (drop l.number l.report.runs))
      ≡ string_bytes l.fn.text ++ flat_map (λ p. row l.plan.dag l.report p.0 p.1) (enumerate_from 0 l.report.runs);
}
