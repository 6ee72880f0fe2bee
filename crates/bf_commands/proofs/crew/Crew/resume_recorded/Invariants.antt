use Rattle.bf_journal.specs.Recording.{IsRecordBy}
use Rattle.bf_commands.proofs.crew.Crew.resume_recorded.Given as goal

abbrev pub ghosts-resume_recorded_as : goal.ghosts-resume_recorded_as
ghosts-resume_recorded_as g a = record {
  base = g.D.Write.written a.record.device;
  may_record = IsRecordBy (g.R.TaskRunner.may_answer a.keeping.now.runner.now) a.plan.now.dag a.runs.now;
}
