use Rattle.std.proofs.Common.{List, length, sym, ap, subst, arith}
use Rattle.bf_due.specs.declared.cursors.Cursors.{Cursors}
use Rattle.bf_due.specs.Cursors.{AreNoted}
use Rattle.bf_due.proofs.Reached.{length_pushed, row_pushed}
use Rattle.bf_due.proofs.due.make_rows.Goals as goal

pub loop-run-preserved : goal.loop-run-preserved
loop-run-preserved c = record {
  reached = λ b reached. subst (λ (rows : List Cursors). AreNoted b rows) (sym (c.in_ok-push.ensures {u = tt}).items) (row_pushed b _ c.unknown.result (c.loop-run.invariant.reached b reached) (c.unknown.ensures b));
  len = omega (arith, c.loop-run.invariant.len, ap (λ (rows : List Cursors). length rows) (c.in_ok-push.ensures {u = tt}).items, length_pushed c.loop-run.rows.items c.unknown.result);
}
