use Rattle.bf_due.proofs.AgendaFacts.{bounded}
use Rattle.bf_due.proofs.agenda.Agenda.first.Goals as goal

pub returns-in-Some-clause-first : goal.returns-in-Some-clause-first
returns-in-Some-clause-first c = rw (← c.self.view_is) (bounded c.in-Some.top.now _ ((c.in-Some.ensures {u = tt}).greatest c.self.invariant))
