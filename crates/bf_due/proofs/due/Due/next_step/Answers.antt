use Rattle.bf_due.proofs.Keeping.{first_next, none_next}
use Rattle.bf_due.proofs.due.Due.next_step.Goals as goal

pub returns : goal.returns
returns c = rw (← c.self.view_is) (λ b is. rw c.event.ensures (first_next b _ is c.in_ok-step.step (c.in_ok-step.ensures {u = tt}).top (c.in_ok-step.ensures {u = tt}).first))

pub returns-in_err-step : goal.returns-in_err-step
returns-in_err-step c = rw (← c.self.view_is) (λ b is. rw c.from_residual.ensures (none_next b _ is (c.in_err-step.ensures {u = tt}).top))
