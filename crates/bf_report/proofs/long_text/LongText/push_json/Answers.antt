use Rattle.std.proofs.Common.{string_bytes, ◌∙◌, ap, refl}
use Rattle.bf_value.specs.Json.{json_of}
use Rattle.bf_report.proofs.LongTexts.{is_held, held_last, held_with, grown_again, text_grown_again, text_with, on_ok}
use Rattle.bf_report.proofs.long_text.LongText.push_json.Goals as goal

pub repeat-requires : goal.repeat-requires
repeat-requires c = (is_held _ _ _ _ (rw c.as_slice.ensures.value at ((c.in-Some.ensures c.in-Some.shown).0 refl).0) c.self.invariant.are_shown).rises

pub invariant_of-self : goal.invariant_of-self
invariant_of-self c =
    let found = (c.in-Some.ensures c.in-Some.shown).0 refl in
    let shown = is_held _ _ _ _ (rw c.as_slice.ensures.value at found.0) c.self.invariant.are_shown in
    grown_again c.repeat.result _ _ _ _ _ _ _ (c.len-at.ensures ∙ c.self.inside.held.bytes.ok.0) shown.rises shown.within c.repeat.ensures.added c.repeat.ensures.counted c.repeat.ensures.same c.self.invariant

pub returns-in-Some : goal.returns-in-Some
returns-in-Some c =
    let found = (c.in-Some.ensures c.in-Some.shown).0 refl in
    let shown = is_held _ _ _ _ (rw c.as_slice.ensures.value at found.0) c.self.invariant.are_shown in
    text_grown_again c.repeat.result _ _ _ _ _ _ _ _ c.self.view_is (shown.is_word ∙ ap json_of found.1) (c.len-at.ensures ∙ c.self.inside.held.bytes.ok.0) c.repeat.ensures.added c.self.invariant

pub invariant_of-self-then-len-lt-LONG : goal.invariant_of-self-then-len-lt-LONG
invariant_of-self-then-len-lt-LONG c = held_with _ _ _ _ _ _ _ c.in_ok-hold.ensures.held c.in_ok-hold.ensures.counted c.self.invariant

pub returns-then-len-lt-LONG : goal.returns-then-len-lt-LONG
returns-then-len-lt-LONG c = text_with _ _ _ _ _ _ _ _ c.self.view_is c.in_ok-hold.ensures.held (c.as_str.ensures.value ∙ c.in_ok-word.ensures.text) c.self.invariant

pub invariant_of-self-2 : goal.invariant_of-self-2
invariant_of-self-2 c =
    let now = held_with _ _ _ _ _ _ _ c.in_ok-hold.ensures.held c.in_ok-hold.ensures.counted c.self.invariant in record {
      within = now.within;
      are_shown = c.note_shown.ensures.held (string_bytes c.hold.new.held) now.are_shown (held_last _ c.as_str.result.now _ _ c.in_ok-hold.ensures.held (c.as_str.ensures.value ∙ c.in_ok-word.ensures.text) (c.len-at.ensures ∙ c.self.inside.held.bytes.ok.0) (c.len-2.ensures ∙ c.hold.new.held.bytes.ok.0));
      counted = now.counted;
      fits = now.fits;
    }

pub returns : goal.returns
returns c = on_ok c.note_shown.result (text_with _ _ _ _ _ _ _ _ c.self.view_is c.in_ok-hold.ensures.held (c.as_str.ensures.value ∙ c.in_ok-word.ensures.text) c.self.invariant)
