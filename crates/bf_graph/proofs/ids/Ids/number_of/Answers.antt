use Rattle.std.proofs.Common.{◌≡◌, position, option_copied, ap, ◌∙◌, rules}
use Rattle.std.specs.Str.{bytes_eq}
use Rattle.bf_graph.proofs.ids.Ids.number_of.Goals as goal

pub returns : goal.returns
returns c =
    let found = c.get.ensures.value ∙ c.self.invariant c.args.id.now ∙ ap (position (bytes_eq c.args.id.now)) c.self.view_is in
    let same : c.copied.result ≡ option_copied c.get.result = search rules in
    same ∙ found
