use Rattle.std.proofs.Common.{◌≡◌, map, ap, sym, ◌∙◌, subst}
use Rattle.std.specs.Prelude.{slice_index_or}
use Rattle.std.proofs.lemmas.Result.{IfOk-weaker}
use Rattle.bf_report.specs.declared.report.TaskReport.{TaskReport}
use Rattle.bf_explain.specs.Sections.{lines_text_of}
use Rattle.bf_explain.specs.Tasks.{AreTaskLines}
use Rattle.bf_explain.proofs.TaskFacts.{told_there}
use Rattle.bf_explain.proofs.task.explain_task.Goals as goal

pub returns : goal.returns
returns c =
    let tasks = c.args.told_run.now.tasks in let told = c.index-told.result.now in
    let read : told ≡ slice_index_or tasks c.args.task told =
    c.index-told.ensures ∙ ap (λ ts. slice_index_or ts c.args.task told) (c.in_ok-settled.ensures ∙ c.as_slice.ensures) in
    IfOk-weaker c.lines_text.result _ _
    (λ text is. λ wanted there. (
      c.in_ok-lines.lines.items,
      subst (λ (t : TaskReport). AreTaskLines c.args.paths.now c.args.plan.now.dag c.args.report.now (map (λ clock. clock.at.nanosecond) c.args.clocks.now) c.args.run c.args.told_run.now c.args.task t c.args.index c.in_ok-lines.lines.items)
          (sym (told_there tasks c.args.task wanted told there read)) c.in_ok-lines.ensures,
      is ∙ ap lines_text_of c.as_slice-2.ensures.value,
    )) c.lines_text.ensures
