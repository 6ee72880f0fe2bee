use Rattle.std.proofs.Common.{◌++◌, string_bytes, option_copied, sym, ap, ◌∙◌}
use Rattle.bf_value.specs.Json.{json_of}
use Rattle.bf_show.specs.JsonLines.{value_members}
use Rattle.bf_show.specs.Pieces.{key_word}
use Rattle.bf_show.specs.inner.Pieces.{line_end}
use Rattle.bf_show.proofs.LineFacts.{value_more}
use Rattle.bf_show.proofs.members.push_value.Goals as goal

pub returns : goal.returns
returns c = λ members.
    let before = string_bytes c.args.text.now in
    let value = c.in-Some.value.now in
    ap (λ t. t ++ line_end members) (c.in_ok-push_str.ensures.bytes ∙ ap (λ json. string_bytes c.push_key.new.text ++ json) (c.as_str.ensures.value ∙ c.in_ok-text_of.ensures.text) ∙ ap (λ t. t ++ json_of value) c.in_ok-push_key.ensures)
    ∙ value_more before c.args.key value members
    ∙ ap (λ v. before ++ line_end (value_members (key_word c.args.key) (option_copied v) members)) (sym c.in-Some.is)
