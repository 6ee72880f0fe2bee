use Rattle.std.proofs.Common.{inl, refl}
use Rattle.bf_journal.proofs.Left.{beginning}
use Rattle.bf_journal.proofs.laws.what_crashes_leave_may_be_cut.Goals as goal

pub returns-clause-nothing : goal.returns-clause-nothing
returns-clause-nothing g c dag intervals head = inl (head, refl)

pub returns-clause-cut : goal.returns-clause-cut
returns-clause-cut g c dag intervals head held n = beginning (g.R.TaskRunner.may_answer c.args.runner.now) dag intervals head n held
