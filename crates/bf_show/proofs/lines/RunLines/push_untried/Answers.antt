use Rattle.std.proofs.Common.{◌++◌, codes, string_bytes, ap, ◌∙◌}
use Rattle.json.specs.Print.{quoted}
use Rattle.bf_show.specs.declared.key.Key.TheVariants.{State, Tries}
use Rattle.bf_show.specs.Pieces.{key_text}
use Rattle.bf_show.proofs.LineFacts.{untried_more}
use Rattle.bf_show.proofs.lines.RunLines.push_untried.Goals as goal

pub returns : goal.returns
returns c = λ word same.
    let state = c.in_ok-push_str.ensures.bytes ∙ ap (λ s. string_bytes c.push_key.new.text ++ s) same ∙ ap (λ t. t ++ quoted word) (c.in_ok-push_key.ensures ∙ ap (λ t. t ++ key_text State) c.in_ok-push_only_start.ensures) in
    c.in_ok-push_str-2.ensures.bytes
    ∙ ap (λ t. t ++ codes "0}\n") (c.in_ok-push_key-2.ensures ∙ ap (λ t. t ++ key_text Tries) state)
    ∙ untried_more (string_bytes c.args.text.now) c.args.self.now.run.now c.args.id.now word
