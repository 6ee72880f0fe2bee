use Rattle.bf_report.proofs.LongTexts.{grown, text_grown}
use Rattle.bf_report.proofs.long_text.LongText.push_str.Goals as goal

pub invariant_of-self : goal.invariant_of-self
invariant_of-self c = grown c.hold.result _ _ c.args.text.now _ _ _ _ c.hold.ensures.held c.hold.ensures.counted c.hold.ensures.same c.self.invariant

pub returns : goal.returns
returns c = text_grown c.hold.result _ _ _ _ _ _ _ c.self.view_is c.hold.ensures.held c.self.invariant
