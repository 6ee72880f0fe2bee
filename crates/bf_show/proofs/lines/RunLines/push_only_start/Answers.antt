use Rattle.std.proofs.Common.{◌++◌, sym, ap, ◌∙◌, append_assoc, string_bytes}
use Rattle.json.specs.Print.{quoted}
use Rattle.serde_json.specs.Written.{number_text}
use Rattle.bf_show.specs.JsonLines.{no_index}
use Rattle.bf_show.specs.declared.key.Key.TheVariants.{Index, Task}
use Rattle.bf_show.specs.Pieces.{key_text, run_start}
use Rattle.bf_show.proofs.LineFacts.{minus_one}
use Rattle.bf_show.proofs.lines.RunLines.push_only_start.Goals as goal

pub returns : goal.returns
returns c =
    let start = string_bytes c.args.text.now ++ (run_start c.args.self.now.run.now ++ (key_text Task ++ quoted c.args.id.now)) in
    c.in_ok-push_str.ensures.bytes ∙ ap (λ s. string_bytes c.push_key.new.text ++ s) minus_one
    ∙ ap (λ t. t ++ number_text no_index) (c.in_ok-push_key.ensures ∙ ap (λ t. t ++ key_text Index) c.in_ok-push_start.ensures)
    ∙ append_assoc start (key_text Index) (number_text no_index)
