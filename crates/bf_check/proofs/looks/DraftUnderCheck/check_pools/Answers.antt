use Rattle.std.proofs.Common.{List, is_none, map, ap, ◌∙◌}
use Rattle.std.proofs.lemmas.List.{map-id}
use Rattle.bf_read.specs.declared.draft.PoolDraft.{PoolDraft}
use Rattle.bf_read.specs.declared.draft.TaskDraft.{TaskDraft}
use Rattle.bf_check.specs.declared.fault.TaskFault.TheVariants.{UnknownPool}
use Rattle.bf_check.specs.Checking.{pool_number, pools_in}
use Rattle.bf_check.specs.inner.Looks.{pool_named_of, with_size}
use Rattle.bf_check.specs.Refusals.{has_unknown_pool}
use Rattle.bf_check.proofs.FaultLemmas.{told_by_each}
use Rattle.bf_check.proofs.ListLemmas.{none_mapped}
use Rattle.bf_check.proofs.looks.DraftUnderCheck.check_pools.Goals as goal

pub unwrap_or_refuse-requires-clause-first : goal.unwrap_or_refuse-requires-clause-first
unwrap_or_refuse-requires-clause-first c =
    let draft = c.args.self.now.draft.now in
    let pools = pools_in draft.pools in
    let named = c.in_ok-found.ensures ∙ ap (λ (ps : List PoolDraft). map (λ (task : TaskDraft). pool_named_of (pools_in ps) task.pool) c.as_slice.result.now) c.as_slice-pools.ensures ∙ ap (map (λ (task : TaskDraft). pool_named_of pools task.pool)) c.as_slice.ensures in
    told_by_each draft UnknownPool (has_unknown_pool pools) (λ t task is. is) (λ t task is. is) is_none (λ one. one) (λ (task : TaskDraft). pool_named_of pools task.pool) c.in_ok-found.found.items (map-id _ ∙ named)
    (λ task one is. ap is_none is ∙ none_mapped (with_size pools) (pool_number pools task.pool))
