use Rattle.std.proofs.Common.{◌≡◌, ◌++◌, map}
use Rattle.std.specs.List.{zip}
use Rattle.bf_read.specs.declared.draft.TaskDraft.{TaskDraft}
use Rattle.bf_check.specs.declared.pools.TaskPool.{TaskPool}
use Rattle.bf_check.specs.inner.Looks.{demand_from}
use Rattle.bf_check.proofs.pools.demands_of.Given as goal

abbrev pub invariant-loop-task : goal.invariant-loop-task
invariant-loop-task l =
    let made = λ (both : TaskDraft × TaskPool). demand_from both.1 both.0 in
    l.demands.items ++ map made (zip l.task-iterator.a.rest.now l.task-iterator.b.rest.now) ≡ map made (zip l.tasks l.pools)
