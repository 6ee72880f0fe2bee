use Rattle.std.proofs.lemmas.Result.{IfOk-weaker}
use Rattle.bf_core.specs.Events.{entry_in}
use Rattle.bf_kept.proofs.Resumed.{kept_alike, graded_anew, graded_all}
use Rattle.bf_exec.proofs.resuming.resume.Goals as goal

pub returns-clause-again : goal.returns-clause-again
returns-clause-again g c =
    IfOk-weaker c.run_with_answers_at_once.result _ _ (λ ended graded. kept_alike c.args.plan.now.dag (g.K.KeptTries.kept c.args.keeping.now.kept.now) (entry_in ended.state.ledger) (g.R.TaskRunner.may_answer c.args.keeping.now.runner.now) c.requires graded) c.run_with_answers_at_once.ensures.graded

pub returns-clause-anew : goal.returns-clause-anew
returns-clause-anew g c =
    IfOk-weaker c.run_with_answers_at_once.result _ _ (λ ended graded. graded_anew c.args.plan.now.dag (g.K.KeptTries.kept c.args.keeping.now.kept.now) (entry_in ended.state.ledger) (g.R.TaskRunner.may_answer c.args.keeping.now.runner.now) c.requires graded) c.run_with_answers_at_once.ensures.graded

pub returns-clause-all : goal.returns-clause-all
returns-clause-all g c = λ before.
    IfOk-weaker c.run_with_answers_at_once.result _ _ (λ ended graded. graded_all c.args.plan.now.dag (g.K.KeptTries.kept c.args.keeping.now.kept.now) (entry_in ended.state.ledger) (g.R.TaskRunner.may_answer c.args.keeping.now.runner.now) c.requires graded before) c.run_with_answers_at_once.ensures.graded
