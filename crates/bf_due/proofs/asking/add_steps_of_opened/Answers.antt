use Rattle.std.proofs.Common.{arith}
use Rattle.bf_due.proofs.Adding.{no_run, row_asked, skipped}
use Rattle.bf_due.proofs.asking.add_steps_of_opened.Goals as goal

pub returns-then-run-len : goal.returns-then-run-len
returns-then-run-len c = row_asked c.args.core.now c.args.run _ c.args.rows.now.items c.index_mut-row.result.now _ _ _ (omega (arith, c.if-run-len.true, c.len.ensures, c.args.rows.now.ok.0)) c.index_mut-row.ensures.value c.add_steps_of_run.ensures

pub returns-else-run-len : goal.returns-else-run-len
returns-else-run-len c = skipped c.args.core.now _ _ _ (no_run c.args.core.now c.args.run _ c.requires.rows (omega (arith, c.if-run-len.false, c.len.ensures, c.args.rows.now.ok.0)))
