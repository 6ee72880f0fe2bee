use Rattle.std.proofs.Common.{◌++◌, string_bytes, sym, ap, ◌∙◌}
use Rattle.serde_json.specs.Find.{of_integer}
use Rattle.serde_json.specs.Written.{number_text}
use Rattle.bf_answers.specs.inner.Answers.{number_of}
use Rattle.bf_answers.proofs.Texts.{minus_one}
use Rattle.bf_answers.proofs.entry.push_index.Goals as goal

pub returns-in_ok-push_str-in-None : goal.returns-in_ok-push_str-in-None
returns-in_ok-push_str-in-None c =
    let before = string_bytes c.args.text.now in
    c.in_ok-push_str-in-None.ensures.bytes ∙ ap (λ s. before ++ s) minus_one ∙ ap (λ index. before ++ number_text (of_integer (number_of index))) (sym c.in-None.is)
