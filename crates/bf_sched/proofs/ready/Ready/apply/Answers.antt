use Rattle.bf_sched.proofs.ready.Ready.apply.Goals as goal

pub returns-clause-ok : goal.returns-clause-ok
returns-clause-ok c = rw (← c.self.view_is) c.in_ok-apply.ensures.ok
