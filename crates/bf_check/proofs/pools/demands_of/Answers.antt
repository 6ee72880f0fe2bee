use Rattle.std.proofs.Common.{inl, inr, List, [], ◌∷◌, ◌++◌, map, sym, ap, ◌∙◌}
use Rattle.std.proofs.lemmas.List.{append_assoc, append-nil}
use Rattle.std.specs.List.{zip}
use Rattle.bf_read.specs.declared.draft.TaskDraft.{TaskDraft}
use Rattle.bf_plan.specs.declared.plan.Demand.{Demand}
use Rattle.bf_check.specs.declared.pools.TaskPool.{TaskPool}
use Rattle.bf_check.specs.inner.Looks.{demand_from}
use Rattle.bf_check.proofs.ListLemmas.{zip_ended}
use Rattle.bf_check.proofs.pools.demands_of.Goals as goal

abbrev made : TaskDraft × TaskPool → Demand
made both = demand_from both.1 both.0

pub loop-task-preserved : goal.loop-task-preserved
loop-task-preserved c =
    let before = c.loop-task.demands.items in
    let rest = zip c.next.new.self.a.rest.now c.next.new.self.b.rest.now in
    ap (λ (demands : List Demand). demands ++ map made rest) c.in_ok-push.ensures.items
    ∙ append_assoc before (demand_from c.in-Some.pool.now c.in-Some.task.now ∷ []) (map made rest)
    ∙ ap (λ (pairs : List (TaskDraft × TaskPool)). before ++ map made pairs) (sym (λ i. zip (c.in-Some.ensures.steps.0 i) (c.in-Some.ensures.steps.1 i)))
    ∙ c.loop-task.invariant

pub returns : goal.returns
returns c =
    let before = c.loop-task.demands.items in
    sym (append-nil before) ∙ ap (λ (pairs : List (TaskDraft × TaskPool)). before ++ map made pairs) (sym (zip_ended _ _ (elim c.in-None.ensures.steps [ inl none ↦ inl none.1.0 | inr none ↦ inr none.1.0 ]))) ∙ c.loop-task.invariant
