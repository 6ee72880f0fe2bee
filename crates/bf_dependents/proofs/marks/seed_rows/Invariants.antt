use Rattle.std.proofs.Common.{take}
use Rattle.bf_dependents.specs.inner.Marks.{AreSeeded}
use Rattle.bf_dependents.proofs.marks.seed_rows.Given as goal

abbrev pub invariant-loop-seed : goal.invariant-loop-seed
invariant-loop-seed l = AreSeeded (take l.seed-index l.seeds) l.runs l.tasks l.rows.items
