use Rattle.std.proofs.Common.{List, Bool, map, nat_lt, position, ap, sym, ◌∙◌, subst}
use Rattle.std.specs.List.{zip}
use Rattle.bf_read.specs.declared.draft.TaskDraft.{TaskDraft}
use Rattle.bf_check.specs.declared.fault.TaskFault.TheVariants.{SlotsBeyondPool}
use Rattle.bf_check.specs.declared.pools.TaskPool.{TaskPool}
use Rattle.bf_check.specs.Checking.{demand_in, pools_in}
use Rattle.bf_check.specs.inner.Looks.{demand_from, pool_named_of, IsPlaceOfFirst}
use Rattle.bf_check.specs.Refusals.{takes_too_much}
use Rattle.bf_check.proofs.FaultLemmas.{told_by_pairs}
use Rattle.bf_check.proofs.ListLemmas.{each_made}
use Rattle.bf_check.proofs.PoolLemmas.{named_pool}
use Rattle.bf_check.proofs.looks.DraftUnderCheck.check_demands.Goals as goal

abbrev takes_more : TaskDraft × TaskPool → Bool
takes_more both = nat_lt both.1.slots both.0.pool_slots

pub refuse_at-requires-clause-first : goal.refuse_at-requires-clause-first
refuse_at-requires-clause-first c =
    let draft = c.args.self.now.draft.now in
    let pools = pools_in draft.pools in
    let told = told_by_pairs draft SlotsBeyondPool (takes_too_much pools) (λ t task is. is) (λ t task is. is) takes_more (λ task. pool_named_of pools task.pool) c.args.pools.now c.requires.pools
    (λ task pool is. ap (λ n. nat_lt n task.pool_slots) (named_pool pools task.pool pool is).1) in
    subst (IsPlaceOfFirst draft SlotsBeyondPool) (sym (c.first_beyond_pool-beyond.ensures ∙ ap (λ (tasks : List TaskDraft). position takes_more (zip tasks c.args.pools.now)) c.as_slice-tasks.ensures)) told

pub returns-clause-demands : goal.returns-clause-demands
returns-clause-demands c =
    let draft = c.args.self.now.draft.now in
    let pools = pools_in draft.pools in
    c.in_ok-demands_of.ensures ∙ ap (λ (tasks : List TaskDraft). map (λ (both : TaskDraft × TaskPool). demand_from both.1 both.0) (zip tasks c.args.pools.now)) c.as_slice-tasks.ensures
    ∙ each_made (λ task. pool_named_of pools task.pool) (λ (both : TaskDraft × TaskPool). demand_from both.1 both.0) (demand_in pools) draft.tasks c.args.pools.now c.requires.pools
    (λ task pool is i. record { pool = (named_pool pools task.pool pool is).0 i; slots = task.pool_slots; weight = task.priority_weight; weight_rule = task.weight_rule; retry_delay = task.retry_delay })
