use Rattle.bf_commands.proofs.OneReport as reports
use Rattle.bf_commands.proofs.laws.dry_reports_are_unique.Goals as goal

pub returns : goal.returns
returns c = reports.one_dry_report
