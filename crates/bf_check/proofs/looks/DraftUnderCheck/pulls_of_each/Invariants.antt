use Rattle.std.proofs.Common.{◌≡◌, ℕ, length, Option, Some, slice_get}
use Rattle.bf_read.specs.declared.draft.TaskDraft.{TaskDraft}
use Rattle.bf_check.specs.declared.pulls.Pulls.{Pulls}
use Rattle.bf_check.specs.inner.Looks.{IsFoundOfPulls}
use Rattle.bf_check.proofs.looks.DraftUnderCheck.pulls_of_each.Given as goal

abbrev pub invariant-loop-t : goal.invariant-loop-t
invariant-loop-t l = record {
  one_each : length l.found.items ≡ l.t;
  each : (s : ℕ) (task : TaskDraft) (one : Option Pulls) → slice_get l.self.draft.now.tasks s ≡ Some task → slice_get l.found.items s ≡ Some one → IsFoundOfPulls l.self.draft.now s task one;
}
