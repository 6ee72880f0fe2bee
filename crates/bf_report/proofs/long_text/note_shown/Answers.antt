use Rattle.std.proofs.Common.{arith}
use Rattle.std.proofs.lemmas.List.Elements.{All-push, All-set}
use Rattle.bf_report.proofs.LongTexts.{set_there}
use Rattle.bf_report.specs.LongTexts.{IsShownIn}
use Rattle.bf_report.proofs.long_text.note_shown.Goals as goal

pub loop-shown-preserved : goal.loop-shown-preserved
loop-shown-preserved c = λ held old is. rw c.in_ok-push.ensures.items (All-push (IsShownIn held) c.loop-shown.shown.items c.args.last (c.loop-shown.invariant held old is) is)

pub returns-in_err-push-clause-held : goal.returns-in_err-push-clause-held
returns-in_err-push-clause-held c = λ held old is. rw c.in_err-push.ensures.items (c.loop-shown.invariant held old is)

pub returns-clause-noted : goal.returns-clause-noted
returns-clause-noted c = set_there c.loop-shown.shown.items c.args.number c.args.last (omega (arith, c.loop-shown-test.false, c.len.ensures, c.loop-shown.shown.ok.0))

pub returns-clause-held : goal.returns-clause-held
returns-clause-held c = λ held old is. All-set (IsShownIn held) c.loop-shown.shown.items c.args.number c.args.last is (c.loop-shown.invariant held old is)
