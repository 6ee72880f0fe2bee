use Rattle.bf_due.specs.Cursors.{ArePassed, IsNoted}
use Rattle.bf_due.proofs.cursors.Cursors.first_awaited.Given as goal

abbrev pub invariant-loop-place : goal.invariant-loop-place
invariant-loop-place l = record {
  passed : IsNoted l.core l.run l.initial.self → ArePassed l.early l.core.dag l.core.state l.run l.task l.from → ArePassed l.early l.core.dag l.core.state l.run l.task l.place;
  reached : IsNoted l.core l.run l.initial.self → IsNoted l.core l.run l.self;
}
