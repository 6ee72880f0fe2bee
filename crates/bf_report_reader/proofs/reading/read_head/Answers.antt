use Rattle.std.proofs.Common.{◌++◌, ◌∷◌, [], ap, sym, subst, ◌∙◌}
use Rattle.std.proofs.lemmas.Result.{err_from_is_err_and}
use Rattle.bf_report_reader.specs.inner.Beginning.{opening_text, so_far}
use Rattle.bf_report_reader.specs.inner.Rules.{KeepsRules}
use Rattle.bf_report_reader.specs.inner.Extensions.{SaysHead, IsKnown}
use Rattle.bf_report_reader.specs.Faults.{lines_in}
use Rattle.bf_report_reader.specs.inner.Lines.{line_in}
use Rattle.bf_report_reader.proofs.LineFacts.{one_line_more, first_read, first_stops, first_told}
use Rattle.bf_report_reader.proofs.StepFacts.{head_opens}
use Rattle.bf_report_reader.proofs.Reports.{known_start, keeps_start}
use Rattle.bf_report_reader.proofs.reading.read_head.Goals as goal

pub returns-in_err-read-clause-tells : goal.returns-in_err-read-clause-tells
returns-in_err-read-clause-tells g c =
    let p = err_from_is_err_and c.from_residual.result c.from_residual.ensures.1 in
    rw (p.1, p.2) (first_stops (g.R.Read.left c.args.device.now) _ c.args.lines.now.number c.in_err-read.field-0.0 c.requires.nothing c.requires.first c.in_err-read.ensures.stops)

pub returns-in-Some-clause-ok : goal.returns-in-Some-clause-ok
returns-in-Some-clause-ok g c =
    let said = rw c.in-Some.is at c.in_ok-version.ensures.some in
    let opens = head_opens c.new.result (c.in-Some.version, c.in-Some.dag_id) c.line.result.now c.new.ensures said.1 ∙ ap (λ l. l ++ 10 ∷ []) c.line.ensures in
    first_read (g.R.Read.left c.args.device.now) _ _ (line_in c.read.new.self ++ 10 ∷ []) (opening_text (so_far c.new.result)) c.requires.nothing c.in_ok-read.ensures.line opens

pub returns-in-Some-clause-kept : goal.returns-in-Some-clause-kept
returns-in-Some-clause-kept g c =
    let said = rw c.in-Some.is at c.in_ok-version.ensures.some in
    subst KeepsRules (sym c.new.ensures) (keeps_start (c.in-Some.version, c.in-Some.dag_id) said.0)

pub returns-in-Some-clause-known : goal.returns-in-Some-clause-known
returns-in-Some-clause-known g c =
    let said = rw c.in-Some.is at c.in_ok-version.ensures.some in
    subst IsKnown (sym c.new.ensures) (known_start (c.in-Some.version, c.in-Some.dag_id) said.0)

pub returns-in-Some-clause-place : goal.returns-in-Some-clause-place
returns-in-Some-clause-place g c =
    let said = rw c.in-Some.is at c.in_ok-version.ensures.some in
    let opens = head_opens c.new.result (c.in-Some.version, c.in-Some.dag_id) c.line.result.now c.new.ensures said.1 in
    ap lines_in (opens ∙ ap (λ l. l ++ 10 ∷ []) c.line.ensures) ∙ one_line_more [] (line_in c.read.new.self) c.in_ok-read.ensures.in_line

pub returns-in-None-clause-tells : goal.returns-in-None-clause-tells
returns-in-None-clause-tells g c =
    first_told (g.R.Read.left c.args.device.now) _ _ (line_in c.read.new.self) c.requires.nothing c.in_ok-read.ensures.line c.in_ok-read.ensures.in_line c.in_ok-read.ensures.short
    (λ head says. let none = c.in_ok-version.ensures.every head (subst (λ l. SaysHead l head) (sym c.line.ensures) says) in absurd (cc none))
