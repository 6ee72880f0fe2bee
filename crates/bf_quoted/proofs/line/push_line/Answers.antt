use Rattle.std.proofs.Common.{◌++◌, ◌∙◌, ap, string_bytes}
use Rattle.bf_quoted.specs.Words.{quoted}
use Rattle.bf_quoted.specs.inner.Lines.{gap}
use Rattle.bf_quoted.proofs.LineFacts.{line_more}
use Rattle.bf_quoted.proofs.line.push_line.Goals as goal

pub loop-place-preserved : goal.loop-place-preserved
loop-place-preserved c =
    let i = c.loop-place.place in
    let word = c.index-words-place.result in
    c.in_ok-push_quoted.ensures ∙ ap (λ w. string_bytes c.push_gap.new.text ++ quoted w) c.as_str.ensures
    ∙ ap (λ t. t ++ quoted word) (c.in_ok-push_gap.ensures ∙ ap (λ t. t ++ gap i) c.loop-place.invariant)
    ∙ line_more (string_bytes c.args.text.now) c.args.words.now i word c.loop-place-test.true c.index-words-place.is
