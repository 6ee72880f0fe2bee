use Rattle.std.proofs.Common.{◌∷◌, [], ◌++◌, string_bytes, ap, ◌∙◌}
use Rattle.bf_show.proofs.LineFacts.{key_written}
use Rattle.bf_show.proofs.key.push_key.Goals as goal

pub returns : goal.returns
returns c =
    let before = string_bytes c.args.text.now in
    c.in_ok-write.ensures.bytes ∙ ap (λ word. before ++ 44 ∷ 34 ∷ (word ++ 34 ∷ 58 ∷ [])) c.word-word.ensures ∙ ap (λ t. before ++ t) (key_written c.args.key)
