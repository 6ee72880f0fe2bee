use Rattle.std.proofs.Common.{arith, string_bytes}
use Rattle.bf_report.specs.declared.long_text.Again.{Again}
use Rattle.bf_report.proofs.LongTexts.{first_within, ends_within, read_as}
use Rattle.bf_report.proofs.SentTexts.{sent_first, sent_last, stretch_sent, part_of, handed_on, if_err, if_ok, gone_on, counted_more}
use Rattle.bf_report.proofs.long_text.LongText.send.Goals as goal

abbrev none : Again
none = record { at = 0; from = 0; to = 0 }

pub slice_bounds-send_stretch-end : goal.slice_bounds-send_stretch-end
slice_bounds-send_stretch-end g c =
    let within = first_within _ _ _ _ none c.loop-again-test.true c.loop-again.invariant.0 in
    omega (arith, within.0, ends_within _ _ _ within.3)

pub returns-in_err-send_stretch-clause-part : goal.returns-in_err-send_stretch-clause-part
returns-in_err-send_stretch-clause-part g c =
    let text = read_as _ (string_bytes c.self.inside.held) _ c.self.inside.again.items _ c.self.view_is c.as_bytes-held.ensures.value c.as_slice-again-items.ensures.value in
    handed_on _ c.from_residual.result _ c.from_residual.ensures.1
    (part_of _ _ _ _ _ _ _ _ _ text (sent_first _ _ _ _ _ none _ _ _ c.loop-again-test.true c.loop-again.invariant.2) c.in_err-send_stretch.ensures.part)

pub returns-in_err-send_stretch-2-clause-part : goal.returns-in_err-send_stretch-2-clause-part
returns-in_err-send_stretch-2-clause-part g c =
    let text = read_as _ (string_bytes c.self.inside.held) _ c.self.inside.again.items _ c.self.view_is c.as_bytes-held.ensures.value c.as_slice-again-items.ensures.value in
    let first = sent_first _ _ _ _ _ none _ _ _ c.loop-again-test.true c.loop-again.invariant.2 in
    let second = stretch_sent _ _ _ _ _ _ _ _ first c.in_ok-send_stretch.ensures.rises c.in_ok-send_stretch.ensures.ok in
    handed_on _ c.from_residual-in_err-send_stretch-2.result _ c.from_residual-in_err-send_stretch-2.ensures.1
    (part_of _ _ _ _ _ _ _ _ _ text second c.in_err-send_stretch-2.ensures.part)

pub loop-again-preserved : goal.loop-again-preserved
loop-again-preserved g c =
    let within = first_within _ _ _ _ none c.loop-again-test.true c.loop-again.invariant.0 in
    let first = sent_first _ _ _ _ _ none _ _ _ c.loop-again-test.true c.loop-again.invariant.2 in
    let second = stretch_sent _ _ _ _ _ _ _ _ first c.in_ok-send_stretch.ensures.rises c.in_ok-send_stretch.ensures.ok in
    let counted = counted_more _ _ _ _ _ _ _ _ c.loop-again.invariant.3 c.in_ok-send_stretch.ensures.counted in (
      within.3,
      c.loop-again.invariant.1,
      stretch_sent _ _ _ _ _ _ _ _ second c.in_ok-send_stretch-2.ensures.rises c.in_ok-send_stretch-2.ensures.ok,
      counted_more _ _ _ _ _ _ _ _ counted c.in_ok-send_stretch-2.ensures.counted,
    )

pub returns-clause-part : goal.returns-clause-part
returns-clause-part g c =
    let text = read_as _ (string_bytes c.self.inside.held) _ c.self.inside.again.items _ c.self.view_is c.as_bytes-held.ensures.value c.as_slice-again-items.ensures.value in
    if_err _ _ c.send_stretch-2.result (λ fault part. part_of _ _ _ _ _ _ _ _ _ text (sent_last _ _ _ _ _ _ _ _ c.loop-again-test.false c.loop-again.invariant.2) part) c.send_stretch-2.ensures.part

pub returns-clause-went_on : goal.returns-clause-went_on
returns-clause-went_on g c = if_ok c.send_stretch-2.result (λ counted. gone_on _ _ _ _ _ (counted_more _ _ _ _ _ _ _ _ c.loop-again.invariant.3 counted)) c.send_stretch-2.ensures.counted
