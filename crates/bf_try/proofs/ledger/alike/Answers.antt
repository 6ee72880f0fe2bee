use Rattle.bf_try.proofs.Maps.{alike_where_all}
use Rattle.bf_try.proofs.ledger.alike.Goals as goal

pub returns : goal.returns
returns c = rw (← c.one.view_is) (alike_where_all c.one.inside.entries c.args.other.now c.all_agree.result c.all_agree.ensures.ordered c.all_agree.ensures.all)
