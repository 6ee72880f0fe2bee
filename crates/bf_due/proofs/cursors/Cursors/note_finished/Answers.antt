use Rattle.std.proofs.Common.{refl}
use Rattle.bf_due.proofs.Reached.{finished_noted}
use Rattle.bf_due.proofs.cursors.Cursors.note_finished.Goals as goal

pub returns-then-task-len-clause-reached : goal.returns-then-task-len-clause-reached
returns-then-task-len-clause-reached c = λ b k is here. finished_noted b k c.args.task c.args.finished c.args.self.now _ is here refl refl refl refl
