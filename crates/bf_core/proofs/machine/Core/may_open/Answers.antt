use Rattle.bf_core.proofs.Coming.{some_test}
use Rattle.bf_core.proofs.machine.Core.may_open.Goals as goal

pub returns : goal.returns
returns c = rw c.is_some.ensures (some_test _ _ c.next_to_open.result c.next_to_open.ensures.some c.next_to_open.ensures.none)
