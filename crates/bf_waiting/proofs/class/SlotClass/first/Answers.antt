use Rattle.bf_waiting.proofs.class.SlotClass.first.Goals as goal

pub returns-clause-first : goal.returns-clause-first
returns-clause-first c = rw (← c.self.view_is) c.first.ensures.first
