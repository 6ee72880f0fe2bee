use Rattle.std.proofs.Common.{◌≤ℤ◌}
use Rattle.bf_waiting.specs.declared.delays.Delay.{Delay}
use Rattle.bf_waiting.specs.Heaps.{delay_cmp}
use Rattle.bf_waiting.proofs.HeapFacts.{bounded, no_later}
use Rattle.bf_waiting.proofs.delays.Delays.first.Goals as goal

pub returns-in-Some-clause-first : goal.returns-in-Some-clause-first
returns-in-Some-clause-first c = rw (← c.self.view_is) (bounded delay_cmp (λ (x y : Delay). x.moment.0 ≤ℤ y.moment.0) no_later c.in-Some.top.now _ ((c.in-Some.ensures {u = tt}).greatest c.self.invariant))
