use Rattle.std.proofs.Common.{◌≡◌, ◌∙◌, Some, ap, sym, subst}
use Rattle.std.proofs.lemmas.Result.{on_ok_weaker}
use Rattle.bf_report.specs.declared.report.RunReport.{RunReport}
use Rattle.bf_report_reader.specs.Open.{RunSoFar}
use Rattle.bf_report_reader.specs.Parting.{run_so_far}
use Rattle.bf_report_reader.specs.Beginning.{opened_by, put_open}
use Rattle.bf_report_reader.proofs.PartingFacts.{adds_open}
use Rattle.bf_report_reader.proofs.open.OpenRun.add_open_task.Goals as goal

pub returns : goal.returns
returns c =
    let run = c.self.inside.run in
    let task = opened_by c.args.is_expanded c.args.first in
    on_ok_weaker c.push_task.result
    (λ pushed. subst (λ (o : RunSoFar). put_open (Some o) task ≡ Some (run_so_far c.push_task.new.run)) c.self.view_is
    (adds_open run c.in_ok-open_task_of.field-0 task c.in_ok-open_task_of.ensures ∙ ap (λ (r : RunReport). Some (run_so_far r)) (sym pushed)))
    c.push_task.ensures
