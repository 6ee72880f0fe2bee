use Rattle.std.proofs.Common.{◌∙◌, sym, ap, option_copied}
use Rattle.std.proofs.lemmas.Result.{IfOk-weaker}
use Rattle.std.specs.FinMap as map
use Rattle.bf_journal.specs.Since.{left_of, since}
use Rattle.bf_journal.proofs.Answering.{answered_at, part_of, since_first}
use Rattle.bf_journal.proofs.since.SinceKeptTries.answer.Goals as goal

pub returns-in-Some : goal.returns-in-Some
returns-in-Some g c =
    let dag = c.args.self.now.plan.now.dag in
    let retry = c.args.self.now.retry_failed in
    let tries = map.get c.args.self.now.tries.now in
    let before = g.K.KeptTries.kept c.args.self.now.before.now in
    let entry = c.in-Some.field-0.now in
    let left = sym c.entry.ensures ∙ ap option_copied c.in-Some.is in
    let same = part_of retry dag tries c.args.name entry left ∙ sym (since_first (left_of retry dag tries) before c.args.name entry left) in
    IfOk-weaker c.answer.result _ _ (answered_at tries (since (left_of retry dag tries) before) c.args.name same c.args.given.now) c.answer.ensures
