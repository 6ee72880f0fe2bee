use Rattle.std.proofs.Common.{ℕ, List, Global, Vec, Some, is_none, map, option_map, ap, sym, ◌∙◌}
use Rattle.std.proofs.lemmas.Result.{IfOk-weaker}
use Rattle.bf_graph.specs.Edges.{lists}
use Rattle.bf_read.specs.declared.draft.TaskDraft.{TaskDraft}
use Rattle.bf_check.specs.declared.fault.TaskFault.TheVariants.{UnknownUpstream}
use Rattle.bf_check.specs.Checking.{ids_of, number_or_0}
use Rattle.bf_check.specs.inner.Looks.{numbers_in}
use Rattle.bf_check.specs.Refusals.{has_unknown_upstream}
use Rattle.bf_check.proofs.FaultLemmas.{told_by_each}
use Rattle.bf_check.proofs.ListLemmas.{each_found, map_then, none_by_test, none_mapped}
use Rattle.bf_check.proofs.NumberLemmas.{all_known}
use Rattle.bf_check.proofs.looks.DraftUnderCheck.check_upstreams.Goals as goal

abbrev items : Vec ℕ Global → List ℕ
items v = v.items

pub unwrap_or_refuse-requires-clause-first : goal.unwrap_or_refuse-requires-clause-first
unwrap_or_refuse-requires-clause-first c =
    let draft = c.args.self.now.draft.now in
    let ids = ids_of draft.tasks in
    let numbers = c.in_ok-found.ensures ∙ ap (map (λ (task : TaskDraft). numbers_in c.args.self.now.ids.now task.upstreams)) c.as_slice.ensures ∙ ap (λ (xs : List (List ℕ)). map (λ (task : TaskDraft). numbers_in xs task.upstreams) draft.tasks) c.args.self.now.of_draft in
    told_by_each draft UnknownUpstream (has_unknown_upstream ids) (λ t task is. is) (λ t task is. is) is_none (option_map items) (λ (task : TaskDraft). numbers_in ids task.upstreams) c.in_ok-found.found.items numbers
    (λ task one is. sym (none_mapped items one) ∙ ap is_none is ∙ none_by_test (has_unknown_upstream ids task) (map (number_or_0 ids) task.upstreams))

pub returns-clause-upstreams : goal.returns-clause-upstreams
returns-clause-upstreams c =
    let draft = c.args.self.now.draft.now in
    let ids = ids_of draft.tasks in
    let numbers = c.in_ok-found.ensures ∙ ap (map (λ (task : TaskDraft). numbers_in c.args.self.now.ids.now task.upstreams)) c.as_slice.ensures ∙ ap (λ (xs : List (List ℕ)). map (λ (task : TaskDraft). numbers_in xs task.upstreams) draft.tasks) c.args.self.now.of_draft in
    IfOk-weaker _ _ _ (λ (each : Vec (Vec ℕ Global) Global) found. each_found (λ (task : TaskDraft). numbers_in ids task.upstreams) (λ (task : TaskDraft). map (number_or_0 ids) task.upstreams) draft.tasks (lists each.items)
    (map_then items Some each.items ∙ sym (map_then Some (option_map items) each.items) ∙ ap (map (option_map items)) found ∙ numbers)
    (λ task row is. (all_known ids task.upstreams row is).1)) c.unwrap_or_refuse.ensures.found
