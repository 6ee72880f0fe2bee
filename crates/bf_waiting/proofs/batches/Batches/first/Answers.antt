use Rattle.bf_waiting.specs.Heaps.{batch_cmp}
use Rattle.bf_waiting.specs.inner.Heaps.{Leads}
use Rattle.bf_waiting.proofs.HeapFacts.{bounded, leads}
use Rattle.bf_waiting.proofs.batches.Batches.first.Goals as goal

pub returns-in-Some-clause-first : goal.returns-in-Some-clause-first
returns-in-Some-clause-first c = rw (← c.self.view_is) (bounded batch_cmp Leads leads c.in-Some.top.now _ ((c.in-Some.ensures {u = tt}).greatest c.self.invariant))
