use Rattle.std.proofs.Common.{◌++◌, ◌∷◌, [], ap, sym, subst, ◌≡◌, ◌+◌, ◌∙◌, arith}
use Rattle.std.proofs.lemmas.Result.{err_from_is_err_and}
use Rattle.bf_report.specs.Report.{report_text}
use Rattle.bf_report_reader.specs.declared.beginning.ReportSoFar.{ReportSoFar}
use Rattle.bf_report_reader.specs.inner.Beginning.{opening_text, so_far}
use Rattle.bf_report_reader.specs.Rules.{IsShownReport}
use Rattle.bf_report_reader.specs.Faults.{lines_in}
use Rattle.bf_report_reader.specs.inner.Lines.{line_in}
use Rattle.bf_report_reader.proofs.Chains.{known_next}
use Rattle.bf_report_reader.proofs.LineFacts.{one_line_more, read_stops, line_tells}
use Rattle.bf_report_reader.proofs.StepFacts.{reads_more}
use Rattle.bf_report_reader.proofs.Ruled.{report_ruled}
use Rattle.bf_report_reader.proofs.reading.read_lines.Goals as goal

pub loop-beginning-preserved : goal.loop-beginning-preserved
loop-beginning-preserved g c =
    let (keeps, known, reads, tallied, place, number) = c.loop-beginning.invariant in
    let next = rw (c.in-Taken.is, c.line.ensures) at c.in_ok-read_line.ensures in (
      next.kept,
      known_next c.loop-beginning.beginning c.read_line.new.beginning (line_in c.read.new.self) keeps known next,
      reads_more _ _ _ (opening_text (so_far c.args.beginning.now)) (opening_text (so_far c.loop-beginning.beginning)) (opening_text (so_far c.read_line.new.beginning)) (line_in c.read.new.self ++ 10 ∷ []) reads c.in_ok-read.ensures.line next.read,
      λ base failed t. c.in_ok-read.ensures.tallied base failed (tallied base failed t),
      omega (arith, c.in_ok-read.ensures.number, place, ap lines_in next.read, one_line_more (opening_text (so_far c.loop-beginning.beginning)) (line_in c.read.new.self) c.in_ok-read.ensures.in_line),
      omega (arith, number, next.shrinks, c.in_ok-read.ensures.number),
    )

pub returns-in-End-clause-ok : goal.returns-in-End-clause-ok
returns-in-End-clause-ok g c =
    let (keeps, known, reads, tallied, place, number) = c.loop-beginning.invariant in
    let ends = rw (c.in-End.is, c.line.ensures) at c.in_ok-read_line.ensures in
    reads_more _ _ _ (opening_text (so_far c.args.beginning.now)) (opening_text (so_far c.loop-beginning.beginning)) (report_text (so_far c.read_line.new.beginning)) (line_in c.read.new.self ++ 10 ∷ []) reads c.in_ok-read.ensures.line
    (ap (λ (b : ReportSoFar). report_text (so_far b)) ends.1 ∙ ap (λ l. opening_text (so_far c.loop-beginning.beginning) ++ (l ++ 10 ∷ [])) (sym ends.0.0))

pub returns-in-End-clause-rules : goal.returns-in-End-clause-rules
returns-in-End-clause-rules g c =
    let (keeps, known, reads, tallied, place, number) = c.loop-beginning.invariant in
    let ends = rw (c.in-End.is, c.line.ensures) at c.in_ok-read_line.ensures in
    subst (λ (b : ReportSoFar). IsShownReport (so_far b)) (sym ends.1) (report_ruled c.loop-beginning.beginning keeps ends.0.1)

pub returns-in_err-read-clause-tells : goal.returns-in_err-read-clause-tells
returns-in_err-read-clause-tells g c =
    let (keeps, known, reads, tallied, place, number) = c.loop-beginning.invariant in
    let p = err_from_is_err_and c.from_residual.result c.from_residual.ensures.1 in
    rw (p.1, p.2) (read_stops _ _ (opening_text (so_far c.args.beginning.now)) c.loop-beginning.beginning c.loop-beginning.lines.number c.in_err-read.field-0.0 reads keeps known place c.in_err-read.ensures.stops)

pub returns-in-End-clause-place : goal.returns-in-End-clause-place
returns-in-End-clause-place g c =
    let (keeps, known, reads, tallied, place, number) = c.loop-beginning.invariant in
    let ends = rw (c.in-End.is, c.line.ensures) at c.in_ok-read_line.ensures in
    let opening = opening_text (so_far c.loop-beginning.beginning) in
    let text : report_text (so_far c.read_line.new.beginning) ≡ opening ++ (line_in c.read.new.self ++ 10 ∷ []) =
    ap (λ (b : ReportSoFar). report_text (so_far b)) ends.1 ∙ ap (λ l. opening ++ (l ++ 10 ∷ [])) (sym ends.0.0) in
    omega (arith, c.in_ok-read.ensures.number, place, ap lines_in text, one_line_more opening (line_in c.read.new.self) c.in_ok-read.ensures.in_line)

pub returns-in-Refused-clause-tells : goal.returns-in-Refused-clause-tells
returns-in-Refused-clause-tells g c =
    let (keeps, known, reads, tallied, place, number) = c.loop-beginning.invariant in
    let none = rw (c.in-Refused.is, c.line.ensures) at c.in_ok-read_line.ensures in
    line_tells _ _ _ (opening_text (so_far c.args.beginning.now)) (line_in c.read.new.self) c.loop-beginning.beginning c.read.new.self.number reads keeps known none
    (c.in_ok-read.ensures.number ∙ ap (λ n. n + 1) place) c.in_ok-read.ensures.line c.in_ok-read.ensures.in_line c.in_ok-read.ensures.short
