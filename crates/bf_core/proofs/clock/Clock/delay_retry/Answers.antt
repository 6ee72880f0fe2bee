use Rattle.std.proofs.Common.{rules, sym, ◌∙◌, w64, SFits}
use Rattle.std.proofs.lemmas.Int.{to_z-of_z}
use Rattle.bf_core.proofs.Timing.{made_not, waits_for, waits_not, not_yes, not_no}
use Rattle.bf_core.proofs.clock.Clock.delay_retry.Goals.{then-not-retry-via-then-not-retry, then-not-retry-via-else-not-retry+then-not-is_before}
use Rattle.bf_core.proofs.clock.Clock.delay_retry.Goals as goal

pub returns-then-not-retry-clause-ok : goal.returns-then-not-retry-clause-ok
returns-then-not-retry-clause-ok c = elim c.then-not-retry.branch [
  | then-not-retry-via-then-not-retry w ↦ made_not c.args.self.now c.args.retry.next c.args.retry.again c.args.retry.delay (not_yes _ w.if-not-retry.true)
  | then-not-retry-via-else-not-retry+then-not-is_before w ↦
      let fits : SFits w64 c.moment_after-moment.result = search rules in
      let later : _ = rw (to_z-of_z w64 c.moment_after-moment.result fits) at w.is_before.ensures in
      waits_not c.args.self.now c.args.retry.next c.args.retry.again c.args.retry.delay c.moment_after-moment.result c.moment_after-moment.ensures (sym later ∙ w.if-not-is_before.true)
]

pub returns-clause-ok : goal.returns-clause-ok
returns-clause-ok c =
    let fits : SFits w64 c.moment_after-moment.result = search rules in
    let later : _ = rw (to_z-of_z w64 c.moment_after-moment.result fits) at c.is_before.ensures in
    let noted : _ = rw (to_z-of_z w64 c.moment_after-moment.result fits) at c.in_ok-note.ensures.ok in
    waits_for c.args.self.now c.args.retry.next c.args.retry.again c.args.retry.delay c.moment_after-moment.result c.note.new.self (not_no _ c.if-not-retry.false) c.moment_after-moment.ensures (sym later ∙ c.if-not-is_before.false) noted
