use Rattle.bf_due.proofs.Reached.{row_put}
use Rattle.bf_due.proofs.due.forget_closed.Goals as goal

pub returns-then-run-len : goal.returns-then-run-len
returns-then-run-len c = λ b reached. row_put b c.args.rows.now.items c.in-Close.run' c.unknown.result reached (c.unknown.ensures b c.in-Close.run')
