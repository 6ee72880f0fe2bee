use Rattle.std.proofs.Common.{◌≤◌, ◌∙◌, ap, sym, subst, ℕ, List, get_or, length}
use Rattle.bf_plan.specs.declared.plan.Dag.{Dag}
use Rattle.bf_report.specs.declared.report.RunReport.{RunReport}
use Rattle.bf_explain.specs.Runs.{run_text}
use Rattle.bf_marks.specs.RowOrder.{order_of}
use Rattle.bf_views.proofs.ExplainFacts.{order_fits, told_run_at}
use Rattle.bf_views.proofs.explain.explain_run_at.Goals as goal

pub explain_run-requires-clause-short : goal.explain_run-requires-clause-short
explain_run-requires-clause-short c =
    subst (λ (order : List ℕ). length order ≤ 20_000) (sym (c.as_slice-2.ensures.value ∙ c.in_ok-order.ensures ∙ ap order_of c.dag-2.ensures.dag)) (order_fits c.args.plan.now.dag c.dag-2.ensures.sound)

pub returns-clause-text : goal.returns-clause-text
returns-clause-text c = λ paths clocks.
    let told_run = c.index-as_slice-run.result in
    record {
      run = c.in-Some.run';
      run_is = sym c.in-Some.ensures;
      told_run = told_run;
      told_run_is = told_run_at c.args.report.now c.args.start.nanosecond c.in-Some.run' told_run c.in-Some.ensures (c.index-as_slice-run.is ∙ ap (λ (runs : List RunReport). get_or runs c.in-Some.run' told_run) c.as_slice.ensures);
      text_is = c.in_ok-explain_run.ensures ∙ ap (run_text c.args.plan.now.dag told_run) (c.as_slice-2.ensures.value ∙ c.in_ok-order.ensures ∙ ap order_of c.dag-2.ensures.dag);
    }
