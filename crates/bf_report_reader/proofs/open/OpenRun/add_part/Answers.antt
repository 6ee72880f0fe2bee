use Rattle.std.proofs.Common.{◌≡◌, ◌∙◌, Some, ap, sym, subst}
use Rattle.std.proofs.lemmas.Result.{on_ok_weaker, on_err_weaker}
use Rattle.bf_report.specs.declared.report.RunReport.{RunReport}
use Rattle.bf_report_reader.specs.Open.{RunSoFar}
use Rattle.bf_report_reader.specs.Parting.{run_so_far}
use Rattle.bf_report_reader.specs.inner.Beginning.{put_part}
use Rattle.bf_report_reader.proofs.PartingFacts.{told_seen}
use Rattle.bf_report_reader.proofs.open.OpenRun.add_part.Goals as goal

pub returns-clause-ok : goal.returns-clause-ok
returns-clause-ok c =
    let run = c.self.inside.run in
    on_ok_weaker c.add_part_to_run.result
    (λ told. subst (λ (o : RunSoFar). put_part (Some o) c.args.part ≡ Some (run_so_far c.add_part_to_run.new.run)) c.self.view_is
    (told_seen run c.args.part ∙ ap (λ (r : RunReport). Some (run_so_far r)) (sym told)))
    c.add_part_to_run.ensures.ok

pub returns-clause-err : goal.returns-clause-err
returns-clause-err c = on_err_weaker c.add_part_to_run.result (λ kept. ap run_so_far kept ∙ c.self.view_is) c.add_part_to_run.ensures.err
