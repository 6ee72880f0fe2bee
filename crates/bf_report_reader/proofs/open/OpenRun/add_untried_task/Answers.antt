use Rattle.std.proofs.Common.{◌≡◌, ◌∙◌, ◌∷◌, ◌++◌, [], Some, ap, sym, subst}
use Rattle.std.proofs.lemmas.Result.{on_ok_weaker}
use Rattle.bf_report.specs.declared.report.RunReport.{RunReport}
use Rattle.bf_report_reader.specs.Open.{RunSoFar}
use Rattle.bf_report_reader.specs.Parting.{run_so_far}
use Rattle.bf_report_reader.specs.Beginning.{never_report, put_task}
use Rattle.bf_report_reader.proofs.PartingFacts.{adds_never}
use Rattle.bf_report_reader.proofs.open.OpenRun.add_untried_task.Goals as goal

pub returns : goal.returns
returns c =
    let run = c.self.inside.run in
    on_ok_weaker c.push_task.result
    (λ pushed. subst (λ (o : RunSoFar). put_task (Some o) (never_report c.args.untried) ≡ Some (run_so_far c.push_task.new.run)) c.self.view_is
    (adds_never run c.args.untried ∙ ap (λ (r : RunReport). Some (run_so_far r)) (sym (pushed ∙ ap (λ t. record run { tasks = run.tasks ++ t ∷ [] }) c.report.ensures))))
    c.push_task.ensures
