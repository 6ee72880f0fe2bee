use Rattle.std.proofs.Common.{◌∙◌, sym, ap}
use Rattle.bf_value.specs.Views.{xvals_of}
use Rattle.bf_value.proofs.ValueLemmas.{xvals_of_plains_of}
use Rattle.bf_value.proofs.xval.Values.into_vec.Goals as goal

pub returns-clause-items : goal.returns-clause-items
returns-clause-items c = sym (xvals_of_plains_of c.self.inside.items.items) ∙ ap xvals_of c.self.view_is
