use Rattle.std.proofs.Common.{ℕ, ◌+◌, ◌++◌, drop, sym, ap, ◌∙◌, append_assoc, string_bytes}
use Rattle.std.specs.List.{enumerate_from, flat_map}
use Rattle.bf_report.specs.declared.report.RunReport.{RunReport}
use Rattle.bf_cells.specs.Cells.{row}
use Rattle.bf_cells.proofs.RowFacts.{row_more, tasks_before_next, tasks_there}
use Rattle.bf_cells.proofs.cells.push_rows.Goals as goal

pub loop-number-preserved : goal.loop-number-preserved
loop-number-preserved c =
    let report = c.args.report.now in
    let number = c.loop-number.number in
    let run = c.run-item.result in
    let runs = c.as_slice-run-items.result.now in
    let one = λ (pair : ℕ × RunReport). row c.args.plan.now.dag report pair.0 pair.1 in
    let rest = flat_map one (enumerate_from (number + 1) (drop (number + 1) report.runs)) in
    let here = c.in_ok-settled.ensures ∙ c.as_slice.ensures ∙ tasks_there report runs number run c.as_slice-run-items.ensures c.loop-number-test.true c.run-item.is in
    let earlier = c.deref-in-loop-number.ensures.value ∙ c.loop-number.invariant.before in
    record {
      before = here ∙ tasks_before_next report number;
      text = ap (λ t. t ++ rest) (c.in_ok-push_row.ensures report (c.deref.ensures.value ∙ here) earlier)
          ∙ append_assoc (string_bytes c.loop-number.text) (one (number, run)) rest
          ∙ ap (λ rs. string_bytes c.loop-number.text ++ (one (number, run) ++ flat_map one (enumerate_from (number + 1) (drop (number + 1) rs)))) (sym c.as_slice-run-items.ensures)
          ∙ ap (λ t. string_bytes c.loop-number.text ++ t) (row_more one number runs run c.loop-number-test.true c.run-item.is)
          ∙ ap (λ rs. string_bytes c.loop-number.text ++ flat_map one (enumerate_from number (drop number rs))) c.as_slice-run-items.ensures
          ∙ c.loop-number.invariant.text;
    }
