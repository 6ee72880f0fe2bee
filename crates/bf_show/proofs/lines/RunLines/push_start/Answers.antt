use Rattle.std.proofs.Common.{◌≡◌, ℕ, List, ◌++◌, OnOk, string_bytes, ap, ◌∙◌, subst}
use Rattle.json.specs.Print.{quoted}
use Rattle.bf_show.specs.declared.key.Key.TheVariants.{Task}
use Rattle.bf_show.specs.Pieces.{key_text, run_start}
use Rattle.bf_show.proofs.LineFacts.{three_in_a_row}
use Rattle.bf_show.proofs.lines.RunLines.push_start.Goals as goal

pub returns : goal.returns
returns c =
    let before = string_bytes c.args.text.now in
    let start = run_start c.args.self.now.run.now in
    let id = quoted c.args.id.now in
    let whole : string_bytes c.push_key.new.text ++ id ≡ before ++ (start ++ (key_text Task ++ id)) =
    ap (λ t. t ++ id) (c.in_ok-push_key.ensures ∙ ap (λ t. t ++ key_text Task) (c.in_ok-push_str.ensures.bytes ∙ ap (λ s. before ++ s) (c.as_str.ensures.value ∙ c.args.self.now.begins)))
    ∙ three_in_a_row before start (key_text Task) id in
    subst (λ (s : List ℕ). OnOk c.push_string.result (string_bytes c.push_string.new.text ≡ s)) whole c.push_string.ensures
