use Rattle.std.proofs.Common.{◌≡◌, ℕ, List, ◌++◌, OnOk, string_bytes, codes, decimal, option_copied, ap, ◌∙◌, subst}
use Rattle.json.specs.Print.{quoted}
use Rattle.bf_report.specs.Report.{state_word}
use Rattle.bf_xcom.specs.declared.values.TaskResult.{TaskResult}
use Rattle.serde_json.specs.Data.{Members, member, string, number, unsigned}
use Rattle.bf_show.specs.JsonLines.{value_members, pulls_members, ended_members}
use Rattle.bf_show.specs.declared.key.Key.TheVariants.{State, Tries, Value, Item}
use Rattle.bf_show.specs.Pieces.{key_word, key_text}
use Rattle.bf_show.specs.inner.Pieces.{line_end}
use Rattle.bf_show.proofs.LineFacts.{ended_more, ended_by}
use Rattle.bf_show.proofs.members.push_ended.Goals as goal

pub returns : goal.returns
returns c =
    let before = string_bytes c.args.text.now in
    let ended = c.in_ok-ended.ended in
    let word = state_word ended.outcome in
    let pulls = c.pulls.result.now in
    let given : Members = value_members (key_word Item) (option_copied c.item.result) (pulls_members pulls) in
    let told : Members = value_members (key_word Value) (option_copied c.pushed.result) given in
    let state : string_bytes c.push_str.new.self ≡ (before ++ key_text State) ++ quoted word =
    c.in_ok-push_str.ensures.bytes ∙ ap (λ s. string_bytes c.push_key.new.text ++ s) c.state_string.ensures ∙ ap (λ t. t ++ quoted word) c.in_ok-push_key.ensures in
    let tries : string_bytes c.write.new.self ≡ (((before ++ key_text State) ++ quoted word) ++ key_text Tries) ++ decimal ended.tries =
    c.in_ok-write.ensures.bytes ∙ ap (λ t. t ++ decimal ended.tries) (c.in_ok-push_key-2.ensures ∙ ap (λ t. t ++ key_text Tries) state) in
    let whole : string_bytes c.push_value-2.new.text ++ line_end (pulls_members pulls) ≡ before ++ line_end (ended_members c.args.instance.now) =
    c.in_ok-push_value-2.ensures (pulls_members pulls) ∙ c.in_ok-push_value.ensures given ∙ ap (λ t. t ++ line_end told) tries ∙ ended_more before word ended.tries told
    ∙ ap (λ v. before ++ line_end (member (codes "state") (string word) (member (codes "tries") (number (unsigned ended.tries)) (value_members (codes "value") v given)))) c.pushed.ensures
    ∙ ap (λ i. before ++ line_end (ended_by ended i pulls)) c.item.ensures
    ∙ ap (λ p. before ++ line_end (ended_by ended c.args.instance.now.item p)) c.pulls.ensures
    ∙ ap (λ (r : TaskResult). before ++ line_end (ended_by r c.args.instance.now.item c.args.instance.now.pulls)) c.in_ok-ended.ensures in
    subst (λ (s : List ℕ). OnOk c.push_pulls.result (string_bytes c.push_pulls.new.text ≡ s)) whole c.push_pulls.ensures
