use Rattle.bf_report_reader.proofs.Written as written
use Rattle.bf_report_reader.proofs.laws.reports_of_backfills_keep_the_rules.Goals as goal

pub returns : goal.returns
returns c = written.written_reports_are_shown
