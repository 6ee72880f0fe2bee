use Rattle.std.proofs.Common.{refl}
use Rattle.bf_due.proofs.Keeping.{room_made}
use Rattle.bf_due.proofs.due.Due.make_room.Goals as goal

pub returns-in_err-make_rows_for-clause-kept : goal.returns-in_err-make_rows_for-clause-kept
returns-in_err-make_rows_for-clause-kept c = rw (← c.self.view_is) (λ b is. room_made b _ _ refl (c.make_rows_for.ensures.reached b) is)

pub returns-clause-kept : goal.returns-clause-kept
returns-clause-kept c = rw (← c.self.view_is) (λ b is. room_made b _ _ c.make_room.ensures.items (c.make_rows_for.ensures.reached b) is)
