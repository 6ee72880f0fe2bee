use Rattle.bf_program.proofs.Printing.{printed_again}
use Rattle.bf_program.proofs.laws.reports_are_printed_again.Goals as goal

pub returns : goal.returns
returns g c = printed_again c.tables_are_read_back.ensures c.reports_are_made_again.ensures (g.R.TaskRunner.may_answer c.args.runner.now)
