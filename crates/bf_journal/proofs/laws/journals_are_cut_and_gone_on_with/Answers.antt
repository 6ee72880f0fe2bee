use Rattle.bf_journal.proofs.Crashes.{begun, cut_again, gone_on}
use Rattle.bf_journal.proofs.laws.journals_are_cut_and_gone_on_with.Goals as goal

pub returns-clause-begun : goal.returns-clause-begun
returns-clause-begun g c dag intervals = begun (g.R.TaskRunner.may_answer c.args.runner.now) dag intervals

pub returns-clause-cut : goal.returns-clause-cut
returns-clause-cut g c dag intervals = cut_again (g.R.TaskRunner.may_answer c.args.runner.now) dag intervals

pub returns-clause-gone_on : goal.returns-clause-gone_on
returns-clause-gone_on g c dag intervals = gone_on (g.R.TaskRunner.may_answer c.args.runner.now) dag intervals
