use Rattle.std.proofs.Common.{ℕ, Global, Option, Vec, is_none, ap, ◌∙◌}
use Rattle.std.proofs.lemmas.List.{map-id}
use Rattle.std.proofs.lemmas.Result.{IfOk-weaker}
use Rattle.bf_check.specs.declared.fault.TaskFault.TheVariants.{ExpandSource}
use Rattle.bf_check.specs.inner.Looks.{source_found, source_in}
use Rattle.bf_check.specs.Refusals.{expands_no_upstream}
use Rattle.bf_check.proofs.FaultLemmas.{told_by_each}
use Rattle.bf_check.proofs.ListLemmas.{each_found, given_by_test, none_by_test}
use Rattle.bf_check.proofs.looks.DraftUnderCheck.check_sources.Goals as goal

pub unwrap_or_refuse-requires-clause-first : goal.unwrap_or_refuse-requires-clause-first
unwrap_or_refuse-requires-clause-first c =
    let ids = c.args.self.now.ids.now in
    told_by_each c.args.self.now.draft.now ExpandSource expands_no_upstream (λ t task is. is) (λ t task is. is) is_none (λ one. one) (source_found ids) c.in_ok-found.found.items (map-id _ ∙ c.in_ok-found.ensures)
    (λ task one is. ap is_none is ∙ none_by_test (expands_no_upstream task) (source_in ids task))

pub returns-clause-sources : goal.returns-clause-sources
returns-clause-sources c =
    let ids = c.args.self.now.ids.now in
    IfOk-weaker _ _ _ (λ (each : Vec (Option ℕ) Global) found. each_found (source_found ids) (source_in ids) c.args.self.now.draft.now.tasks each.items (found ∙ c.in_ok-found.ensures) (λ task source is. given_by_test (expands_no_upstream task) (source_in ids task) source is)) c.unwrap_or_refuse.ensures.found
