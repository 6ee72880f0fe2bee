use Rattle.bf_dependents.specs.inner.Marks.{AreUnmarked}
use Rattle.bf_dependents.proofs.marks.unmarked_rows.Given as goal

abbrev pub invariant-loop : goal.invariant-loop
invariant-loop l = AreUnmarked l.counter l.tasks l.rows.items
