use Rattle.std.proofs.Common.{◌≡◌, ◌++◌, ◌∷◌, true, codes, length, string_bytes, sym, ap, ◌∙◌, rules}
use Rattle.json.specs.Print.{quoted}
use Rattle.serde_json.specs.Written.{compact_text, members_text}
use Rattle.bf_show.specs.JsonLines.{pulled_data, pull_members, pulls_members}
use Rattle.bf_show.specs.inner.Pieces.{line_end}
use Rattle.bf_show.proofs.LineFacts.{pulls_more, no_pulls_end}
use Rattle.bf_show.proofs.members.push_pulls.Goals as goal

pub returns-in_default : goal.returns-in_default
returns-in_default c =
    let none : length c.args.pulls.now ≡ 0 = search rules in
    c.in_ok-push_str.ensures.bytes ∙ ap (λ t. string_bytes c.args.text.now ++ t) (no_pulls_end c.args.pulls.now none)

pub returns : goal.returns
returns c =
    let before = string_bytes c.args.text.now in
    let first = c.in-Some.first.now in
    let further = c.in-Some.further.now in
    let all : c.args.pulls.now ≡ first ∷ further = search rules in
    let value = quoted first.task ++ 58 ∷ compact_text (pulled_data first.value) in
    c.in_ok-push_str-3.ensures.bytes
    ∙ ap (λ t. t ++ codes "}\n")
    (c.in_ok-push_further.ensures
    ∙ ap (λ t. t ++ members_text true (pull_members further)) (c.in_ok-push_pull.ensures ∙ ap (λ t. t ++ value) (c.in_ok-push_str-2.ensures.bytes ∙ ap (λ t. t ++ codes "{") c.in_ok-push_key.ensures)))
    ∙ pulls_more before first further
    ∙ ap (λ pulls. before ++ line_end (pulls_members pulls)) (sym all)
