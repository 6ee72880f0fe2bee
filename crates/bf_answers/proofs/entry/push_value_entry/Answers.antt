use Rattle.std.proofs.Common.{◌++◌, ◌∷◌, string_bytes, codes, sym, ap, ◌∙◌}
use Rattle.json.specs.Print.{quoted}
use Rattle.serde_json.specs.Data.{object, string, member, no_members}
use Rattle.serde_json.specs.Written.{compact_text}
use Rattle.bf_value.specs.Json.{json_of}
use Rattle.bf_answers.specs.inner.Answers.{number_of}
use Rattle.bf_answers.specs.inner.Pieces.{named_members}
use Rattle.bf_answers.specs.TableText.{optional}
use Rattle.bf_answers.proofs.Texts.{out_made}
use Rattle.bf_answers.proofs.Ends.{out_there}
use Rattle.bf_answers.proofs.entry.push_value_entry.Goals as goal

pub returns : goal.returns
returns c =
    let before = string_bytes c.args.text.now in
    let name = c.args.name.now in
    let value = c.args.value.now in
    let text = json_of value in
    let quoted_text = c.in_ok-push_string.ensures ∙ ap (λ s. string_bytes c.push_str.new.self ++ quoted s) (c.as_str.ensures.value ∙ c.in_ok-text_of.ensures.text) ∙ ap (λ t. t ++ quoted text) c.in_ok-push_str.ensures.bytes in
    c.in_ok-push_str-2.ensures.bytes ∙ ap (λ t. t ++ codes "}") quoted_text
    ∙ out_made (string_bytes c.push_entry_start.new.text) text
    ∙ c.in_ok-push_entry_start.ensures (member (codes "out") (string text) no_members)
    ∙ ap (λ o. before ++ 44 ∷ 10 ∷ compact_text (object (named_members name.run.now name.task.now (number_of name.index) c.args.attempt (optional (codes "out") o no_members)))) (sym (out_there value))
