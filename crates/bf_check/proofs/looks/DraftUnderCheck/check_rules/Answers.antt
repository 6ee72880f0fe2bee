use Rattle.std.proofs.Common.{Global, Vec, is_none, map, unwrap_or, ap, sym, ◌∙◌}
use Rattle.std.proofs.lemmas.List.{map-id}
use Rattle.std.proofs.lemmas.Result.{IfOk-weaker}
use Rattle.bf_read.specs.declared.draft.TaskDraft.{TaskDraft}
use Rattle.bf_rule.specs.declared.rule.Rule.{Rule}
use Rattle.bf_rule.specs.Names.{rule_named}
use Rattle.bf_check.specs.declared.fault.TaskFault.TheVariants.{BadRule}
use Rattle.bf_check.specs.Checking.{rule_of}
use Rattle.bf_check.specs.Refusals.{has_bad_rule}
use Rattle.bf_check.proofs.FaultLemmas.{told_by_each}
use Rattle.bf_check.proofs.ListLemmas.{each_found}
use Rattle.bf_check.proofs.looks.DraftUnderCheck.check_rules.Goals as goal

pub unwrap_or_refuse-requires-clause-first : goal.unwrap_or_refuse-requires-clause-first
unwrap_or_refuse-requires-clause-first c =
    let named = c.in_ok-found.ensures ∙ ap (map (λ (task : TaskDraft). rule_named task.rule)) c.as_slice.ensures in
    told_by_each c.args.self.now.draft.now BadRule has_bad_rule (λ t task is. is) (λ t task is. is) is_none (λ one. one) (λ (task : TaskDraft). rule_named task.rule) c.in_ok-found.found.items (map-id _ ∙ named) (λ task one is. ap is_none is)

pub returns-clause-rules : goal.returns-clause-rules
returns-clause-rules c =
    let named = c.in_ok-found.ensures ∙ ap (map (λ (task : TaskDraft). rule_named task.rule)) c.as_slice.ensures in
    IfOk-weaker _ _ _ (λ (each : Vec Rule Global) found. each_found (λ (task : TaskDraft). rule_named task.rule) rule_of c.args.self.now.draft.now.tasks each.items (found ∙ named) (λ task rule is. sym (ap (λ one. unwrap_or one Rule.AllSuccess) is))) c.unwrap_or_refuse.ensures.found
