use Rattle.bf_due.proofs.AgendaFacts.{unwrapped_alike}
use Rattle.bf_due.proofs.agenda.Agenda.take_first.Goals as goal

pub returns-clause-lost : goal.returns-clause-lost
returns-clause-lost c = rw (← c.self.view_is) (unwrapped_alike _ _ (c.in_ok-top.ensures {u = tt}).permutation)
