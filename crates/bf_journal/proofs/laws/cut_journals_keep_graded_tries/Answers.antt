use Rattle.bf_journal.proofs.Crashes.{all_told, keeps_graded}
use Rattle.bf_journal.proofs.Naming.{are_told}
use Rattle.bf_journal.proofs.laws.cut_journals_keep_graded_tries.Goals as goal

pub returns-clause-told : goal.returns-clause-told
returns-clause-told g c dag intervals = all_told (g.R.TaskRunner.may_answer c.args.runner.now) dag intervals

pub returns-clause-graded : goal.returns-clause-graded
returns-clause-graded g c dag intervals named are = keeps_graded (g.R.TaskRunner.may_answer c.args.runner.now) dag intervals (are_told dag intervals named are)
