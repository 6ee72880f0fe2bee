use Rattle.std.proofs.Common.{◌∙◌, sym, ap, option_copied}
use Rattle.std.proofs.lemmas.Result.{IfOk-weaker}
use Rattle.std.specs.FinMap as map
use Rattle.bf_journal.specs.Retrying.{without_failed}
use Rattle.bf_journal.proofs.Answering.{answered_at}
use Rattle.bf_journal.proofs.Leaving.{left_is_kept}
use Rattle.bf_journal.proofs.retrying.WithoutFailedKeptTries.answer.Goals as goal

pub returns-in-Some : goal.returns-in-Some
returns-in-Some c =
    let dag = c.args.self.now.plan.now.dag in
    let tries = map.get c.args.self.now.tries.now in
    let left = sym c.entry.ensures ∙ ap option_copied c.in-Some.is in
    let same = left_is_kept dag tries c.args.name c.in-Some.field-0.now left ∙ sym left in
    IfOk-weaker c.answer.result _ _ (answered_at tries (without_failed dag tries) c.args.name same c.args.given.now) c.answer.ensures
