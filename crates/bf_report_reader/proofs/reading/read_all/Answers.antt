use Rattle.std.proofs.Common.{[], arith}
use Rattle.std.proofs.lemmas.Result.{err_from_is_err_and}
use Rattle.bf_report.specs.Report.{report_text}
use Rattle.bf_report_reader.specs.inner.Beginning.{opening_text, so_far}
use Rattle.bf_report_reader.specs.inner.Held.{IsTallied}
use Rattle.bf_report_reader.proofs.LineFacts.{tells_on, reads_twice, ends_there}
use Rattle.bf_report_reader.proofs.reading.read_all.Goals as goal

pub returns-in_err-read_rest-clause-err : goal.returns-in_err-read_rest-clause-err
returns-in_err-read_rest-clause-err g c =
    let p = err_from_is_err_and c.from_residual-in_err-read_rest.result c.from_residual-in_err-read_rest.ensures.1 in
    rw (p.1, p.2) (tells_on (g.R.Read.left c.args.device.now) _ [] (opening_text (so_far c.in_ok-beginning.beginning)) c.in_err-read_rest.field-0.0 c.in_ok-beginning.ensures.ok c.in_err-read_rest.ensures.tells)

pub returns-in_err-read_rest-clause-io : goal.returns-in_err-read_rest-clause-io
returns-in_err-read_rest-clause-io g c =
    let p = err_from_is_err_and c.from_residual-in_err-read_rest.result c.from_residual-in_err-read_rest.ensures.1 in
    let base = g.R.Read.interruptions c.args.device.now in
    let failed = g.R.Read.failures c.args.device.now in
    let first : IsTallied base failed c.args.lines.now.held.interruptions base failed = (omega (arith, c.requires.tallied), omega arith) in
    rw (p.1, p.2) (λ io. c.in_err-read_rest.ensures.halted io base failed (c.in_ok-beginning.ensures.tallied base failed first))

pub returns-clause-ok : goal.returns-clause-ok
returns-clause-ok g c =
    let all = reads_twice (g.R.Read.left c.args.device.now) _ _ [] (opening_text (so_far c.in_ok-beginning.beginning)) (report_text (so_far c.read_rest.new.beginning)) c.in_ok-beginning.ensures.ok c.in_ok-read_rest.ensures.ok in
    rw c.in_ok-into_report.ensures (ends_there (g.R.Read.left c.args.device.now) _ (report_text (so_far c.read_rest.new.beginning)) all c.in_ok-read_rest.ensures.end)

pub returns-clause-went_on : goal.returns-clause-went_on
returns-clause-went_on g c =
    let base = g.R.Read.interruptions c.args.device.now in
    let failed = g.R.Read.failures c.args.device.now in
    let first : IsTallied base failed c.args.lines.now.held.interruptions base failed = (omega (arith, c.requires.tallied), omega arith) in
    let last = c.in_ok-read_rest.ensures.tallied base failed (c.in_ok-beginning.ensures.tallied base failed first) in
    let held = c.read_rest.new.lines.held in
    (last.1, (held.interruptions, held.few, last.0))
