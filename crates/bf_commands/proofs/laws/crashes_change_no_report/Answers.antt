use Rattle.bf_commands.proofs.Crashes.{no_report_changes}
use Rattle.bf_commands.proofs.laws.crashes_change_no_report.Goals as goal

pub returns : goal.returns
returns g c dag intervals named are cleared = no_report_changes (g.R.TaskRunner.may_answer c.args.runner.now) dag intervals named are cleared
