use Rattle.bf_commands.proofs.FromKept.{end_from}
use Rattle.bf_commands.proofs.crew.Crew.resume_observed.Goals as goal

pub returns-clause-end : goal.returns-clause-end
returns-clause-end g c =
    end_from (g.K.KeptTries.kept c.args.keeping.now.kept.now) (g.R.TaskRunner.may_answer c.args.keeping.now.runner.now) c.args.plan.now.dag c.args.plan.now.limits _ c.args.self.now.workers
    c.resume.result c.resume.ensures.of c.resume.ensures.again c.resume.ensures.anew c.resume.ensures.all c.resume.ensures.workers
