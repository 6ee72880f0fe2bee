use Rattle.std.proofs.Common.{◌≡◌, length}
use Rattle.bf_core.specs.Cores.{Backfill}
use Rattle.bf_due.specs.Cursors.{AreNoted}
use Rattle.bf_due.proofs.due.make_rows.Given as goal

abbrev pub invariant-loop-run : goal.invariant-loop-run
invariant-loop-run l = record {
  reached : (b : Backfill) → AreNoted b l.initial.rows.items → AreNoted b l.rows.items;
  len : length l.rows.items ≡ l._run;
}
