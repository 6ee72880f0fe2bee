use Rattle.std.proofs.Common.{◌++◌, string_bytes, codes, ap, ◌∙◌}
use Rattle.std.proofs.Common.{decimal}
use Rattle.json.specs.Print.{quoted}
use Rattle.serde_json.specs.Find.{of_integer}
use Rattle.serde_json.specs.Written.{members_text, number_text}
use Rattle.std.proofs.Common.{true}
use Rattle.bf_answers.specs.inner.Answers.{number_of}
use Rattle.bf_answers.proofs.Texts.{named_made}
use Rattle.bf_answers.proofs.entry.push_entry_start.Goals as goal

pub returns : goal.returns
returns c = λ members.
    let before = string_bytes c.args.text.now in
    let run = c.args.name.now.run.now in
    let id = c.args.name.now.task.now in
    let index = number_of c.args.name.now.index in
    let task = c.in_ok-push_string.ensures ∙ ap (λ t. t ++ quoted id) c.in_ok-push_str.ensures.bytes in
    let numbered = c.in_ok-push_index.ensures ∙ ap (λ t. t ++ number_text (of_integer index)) (c.in_ok-push_str-2.ensures.bytes ∙ ap (λ t. t ++ codes ",\"index\":") task) in
    let dated = c.in_ok-push_string-2.ensures ∙ ap (λ t. t ++ quoted run) (c.in_ok-push_str-3.ensures.bytes ∙ ap (λ t. t ++ codes ",\"run\":") numbered) in
    let tried = c.in_ok-write.ensures.bytes ∙ ap (λ t. t ++ decimal c.args.attempt) (c.in_ok-push_str-4.ensures.bytes ∙ ap (λ t. t ++ codes ",\"try\":") dated) in
    ap (λ t. t ++ members_text true members) tried ∙ named_made before run id index c.args.attempt members
