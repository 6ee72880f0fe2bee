use Rattle.std.proofs.Common.{[], sym, ◌∙◌, append-nil}
use Rattle.bf_report.specs.Report.{report_text}
use Rattle.bf_report_reader.proofs.Reports.{one_text_each}
use Rattle.bf_report_reader.proofs.laws.no_two_reports_have_one_text.Goals as goal

pub returns : goal.returns
returns c = λ one two shown too is. one_text_each one two [] shown too (sym is ∙ sym (append-nil (report_text one)))
