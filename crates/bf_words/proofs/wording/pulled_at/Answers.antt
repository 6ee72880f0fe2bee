use Rattle.std.proofs.Common.{None, ap, ◌∙◌}
use Rattle.std.proofs.lemmas.Option.{unwrap_or-slice_get}
use Rattle.std.specs.Prelude.{unwrap_or}
use Rattle.bf_words.proofs.wording.pulled_at.Goals as goal

pub returns-in-None : goal.returns-in-None
returns-in-None c = ap (λ o. unwrap_or o None) c.in-None.ensures ∙ unwrap_or-slice_get c.args.given.now.pulled c.args.place None
