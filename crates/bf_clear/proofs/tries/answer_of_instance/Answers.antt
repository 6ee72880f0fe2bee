use Rattle.std.proofs.lemmas.Result.{IfOk-weaker}
use Rattle.bf_clear.proofs.Replies.{raw_answers}
use Rattle.bf_clear.proofs.tries.answer_of_instance.Goals as goal

pub returns : goal.returns
returns c = IfOk-weaker c.answer_of_try.result _ _ (λ o is. raw_answers c.args.plan.now.dag _ c.args.instance.now c.args.name c.args.given.now o (c.in_ok-was_given.ensures.0 c.if-not-was_given.false) is) (rw c.in_ok-ended.ensures at c.answer_of_try.ensures)
