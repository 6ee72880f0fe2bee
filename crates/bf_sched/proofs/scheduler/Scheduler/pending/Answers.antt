use Rattle.bf_sched.proofs.scheduler.Scheduler.pending.Goals as goal

pub returns : goal.returns
returns c = rw (← c.self.view_is) c.next_moment.ensures
