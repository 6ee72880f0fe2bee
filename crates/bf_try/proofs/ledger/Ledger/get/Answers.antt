use Rattle.std.proofs.Common.{◌∙◌}
use Rattle.bf_try.proofs.Maps.{get_is, find_is}
use Rattle.bf_try.proofs.ledger.Ledger.get.Goals as goal

pub returns : goal.returns
returns c = rw (← c.self.view_is, get_is) (c.get.ensures.value ∙ find_is c.self.inside.entries.entries c.args.name)
