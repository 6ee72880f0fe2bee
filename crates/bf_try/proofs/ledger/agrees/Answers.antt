use Rattle.std.proofs.Common.{refl, ap, option_copied}
use Rattle.bf_try.proofs.Maps.{agree_where_same}
use Rattle.bf_try.proofs.ledger.agrees.Goals as goal

pub returns-else-not-is_same : goal.returns-else-not-is_same
returns-else-not-is_same c = agree_where_same c.args.entry.now c.in-Some.other.now _ _ (ap option_copied c.in-Some.is) (c.if-not-is_same.ensures.0 refl) c.is_same-else-not-is_same.ensures
