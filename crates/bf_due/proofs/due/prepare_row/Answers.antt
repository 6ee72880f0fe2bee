use Rattle.bf_due.proofs.Reached.{row_put}
use Rattle.bf_due.proofs.due.prepare_row.Goals as goal

pub returns-in_ok-row-clause-reached : goal.returns-in_ok-row-clause-reached
returns-in_ok-row-clause-reached c = λ b reached. row_put b c.args.rows.now.items c.args.run c.in_ok-row.row reached ((c.in_ok-row.ensures {u = tt}) b c.args.run)
