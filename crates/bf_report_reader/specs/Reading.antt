-- What bytes are read as.
use Rattle.std.specs.Prelude.{◌≡◌, ℕ, List}
use Rattle.bf_report.specs.declared.report.Report.{Report}
use Rattle.bf_report.specs.Report.{report_text}
use Rattle.bf_report_reader.specs.Rules.{IsShownReport}

-- the bytes say a report, by the rules by which reports are read
pub record IsReadAs (bytes : List ℕ) (report : Report) : Type 0 where
  pub text_is : bytes ≡ report_text report
  pub shown : IsShownReport report
