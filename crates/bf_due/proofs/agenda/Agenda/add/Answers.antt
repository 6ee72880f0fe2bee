use Rattle.bf_due.proofs.AgendaFacts.{unwrapped_alike}
use Rattle.bf_due.proofs.agenda.Agenda.add.Goals as goal

pub returns-clause-gained : goal.returns-clause-gained
returns-clause-gained c = rw (← c.self.view_is) (unwrapped_alike _ _ (c.in-Ok.ensures {u = tt}).permutation)
