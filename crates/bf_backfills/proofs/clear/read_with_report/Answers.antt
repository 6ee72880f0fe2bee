use Rattle.std.proofs.Common.{ℕ, List, Option, ◌∙◌, inr, string_bytes, subst}
use Rattle.bf_disk.specs.Files.{IsReadable}
use Rattle.bf_input.specs.Inputs.{IsReportFault}
use Rattle.bf_planning.proofs.Results.{handed_on}
use Rattle.bf_backfills.proofs.clear.read_with_report.Goals as goal

pub returns-in_err-report-clause-fault : goal.returns-in_err-report-clause-fault
returns-in_err-report-clause-fault g c =
    let ready = c.in_ok-ready.ensures in
    let said = ready.said in
    let path = string_bytes c.args.report in
    handed_on _ _ c.from_residual-in_err-report.ensures.1
    (inr (
      ready.readable,
      record { graph = said.graph; zone = said.zone; table = said.table; alike = said.alike; holds = record { dag = _; found = _; clocks = _; answers = _; prepared = said.holds } },
      (c.in_ok-ready.ready.what, ready.what),
      subst (λ (f : Option (Option (List ℕ))). IsReportFault path f c.in_err-report.field-0.0) (ready.stays path) c.in_err-report.ensures.fault,
    ))

pub returns-clause-report : goal.returns-clause-report
returns-clause-report g c =
    let read = c.in_ok-report.ensures in
    let stays = c.in_ok-ready.ensures.stays (string_bytes c.args.report) in
    record { readable = subst IsReadable stays read.readable; says = λ held told. read.says held (stays ∙ told) }
