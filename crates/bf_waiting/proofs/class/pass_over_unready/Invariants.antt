use Rattle.std.proofs.Common.{◌≤◌, length}
use Rattle.std.specs.List.{sum_by}
use Rattle.bf_waiting.specs.Keeping.{ArePassed}
use Rattle.bf_waiting.proofs.Passing.{places_left}
use Rattle.bf_waiting.proofs.class.pass_over_unready.Given as goal

abbrev pub invariant-loop-batch : goal.invariant-loop-batch
invariant-loop-batch l = record {
  passed : ArePassed l.core l.initial.batches.items l.batches.items;
  fewer : length l.batches.items ≤ length l.initial.batches.items;
  room : l.initial.batches.room ≤ l.batches.room;
}

abbrev pub decreases-loop-batch : goal.decreases-loop-batch
decreases-loop-batch l = sum_by places_left l.batches.items
