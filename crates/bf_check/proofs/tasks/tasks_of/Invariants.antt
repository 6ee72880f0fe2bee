use Rattle.std.proofs.Common.{◌≡◌, ◌++◌, map}
use Rattle.std.specs.List.{zip}
use Rattle.std.specs.Vec.Iter.{into_iter_items}
use Rattle.bf_read.specs.declared.draft.TaskDraft.{TaskDraft}
use Rattle.bf_check.specs.declared.pulls.Pulls.{Pulls}
use Rattle.bf_check.specs.Checking.{ids_of, task_in}
use Rattle.bf_check.proofs.tasks.tasks_of.Given as goal

abbrev pub invariant-loop-draft : goal.invariant-loop-draft
invariant-loop-draft l = record {
  made : l.tasks.items ≡ map (λ (both : TaskDraft × Pulls). task_in (ids_of l.fn.drafts) both.0) l.yielded;
  left : l.yielded ++ zip (into_iter_items l.draft-iterator.a) (into_iter_items l.draft-iterator.b) ≡ zip l.fn.drafts l.fn.pulls.items;
}
