use Rattle.bf_core.specs.declared.state.Cell.{Cell}
use Rattle.bf_due.specs.Cursors.{AreFinished}
use Rattle.bf_due.proofs.cursors.first_unfinished.Given as goal

abbrev pub invariant-loop-place : goal.invariant-loop-place
invariant-loop-place l = AreFinished (Cell.Ran l.instances) l.from → AreFinished (Cell.Ran l.instances) l.place
