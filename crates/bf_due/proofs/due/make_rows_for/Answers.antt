use Rattle.bf_due.proofs.due.make_rows_for.Goals as goal

pub returns-in-Some-clause-reached : goal.returns-in-Some-clause-reached
returns-in-Some-clause-reached c = λ b reached. c.prepare_row.ensures.reached b (c.make_rows.ensures.reached b reached)
