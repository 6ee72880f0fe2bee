use Rattle.std.proofs.Common.{ℕ, List, ◌++◌, Option, codes, ap, sym, ◌∙◌}
use Rattle.bf_explain.specs.Clearing.{option_words, zone_words}
use Rattle.bf_explain.proofs.clear_line.add_zone.Goals as goal

pub returns : goal.returns
returns c =
    let words = c.args.words.now.items in
    c.in_ok-add_option.ensures ∙ ap (λ (path : List ℕ). words ++ option_words (codes "--zone-file") path) c.as_str.ensures
    ∙ ap (λ (zone : Option (List ℕ)). words ++ zone_words zone) (sym c.in-Some.is)
