use Rattle.std.proofs.Common.{◌≡◌, ◌∙◌, true, Some, ap, sym, subst}
use Rattle.std.proofs.lemmas.Result.{on_ok_weaker, on_err_weaker}
use Rattle.bf_report.specs.declared.report.RunReport.{RunReport}
use Rattle.bf_report_reader.specs.Open.{RunSoFar}
use Rattle.bf_report_reader.specs.Parting.{run_so_far, open_in}
use Rattle.bf_report_reader.specs.Beginning.{is_further_task, put_further}
use Rattle.bf_report_reader.proofs.PartingFacts.{further_seen}
use Rattle.bf_report_reader.proofs.open.OpenRun.add_instance.Goals as goal

pub returns-clause-ok : goal.returns-clause-ok
returns-clause-ok c =
    let run = c.self.inside.run in
    let next : is_further_task (open_in run.tasks) c.requires.0 ≡ true = subst (λ (o : RunSoFar). is_further_task o.task c.requires.0 ≡ true) (sym c.self.view_is) c.requires.1 in
    on_ok_weaker c.add_instance_to_run.result
    (λ went. subst (λ (o : RunSoFar). put_further (Some o) c.args.ended ≡ Some (run_so_far c.add_instance_to_run.new.run)) c.self.view_is
    (further_seen run c.requires.0 c.args.ended next ∙ ap (λ (r : RunReport). Some (run_so_far r)) (sym went)))
    c.add_instance_to_run.ensures.ok

pub returns-clause-err : goal.returns-clause-err
returns-clause-err c = on_err_weaker c.add_instance_to_run.result (λ kept. ap run_so_far kept ∙ c.self.view_is) c.add_instance_to_run.ensures.err
