use Rattle.std.proofs.Common.{◌&&◌, List, not, is_some, Some, map, position, ap, sym, ◌∙◌, subst}
use Rattle.std.specs.List.{zip}
use Rattle.bf_read.specs.declared.draft.TaskDraft.{TaskDraft}
use Rattle.bf_rule.specs.declared.rule.Rule.{Rule}
use Rattle.bf_rule.specs.Verdicts.{is_waiting}
use Rattle.bf_check.specs.declared.fault.TaskFault.TheVariants.{ExpandRule}
use Rattle.bf_check.specs.Checking.{rule_of}
use Rattle.bf_check.specs.inner.Looks.{IsPlaceOfFirst}
use Rattle.bf_check.specs.Refusals.{expands_early}
use Rattle.bf_check.proofs.FaultLemmas.{told_by_pairs}
use Rattle.bf_plan.proofs.ListLemmas.{some_same}
use Rattle.bf_check.proofs.ListLemmas.{map_then}
use Rattle.bf_check.proofs.looks.DraftUnderCheck.refuse_early_expansions.Goals as goal

pub refuse_at-requires-clause-first : goal.refuse_at-requires-clause-first
refuse_at-requires-clause-first c =
    let draft = c.args.self.now.draft.now in
    let told = told_by_pairs draft ExpandRule expands_early (λ t task is. is) (λ t task is. is) (λ (both : TaskDraft × Rule). is_some both.0.expand && not (is_waiting both.1)) (λ task. Some (rule_of task)) c.args.rules.now
    (ap (map Some) c.requires.rules ∙ map_then rule_of Some draft.tasks)
    (λ task rule same. ap (λ r. is_some task.expand && not (is_waiting r)) (sym (some_same same))) in
    subst (IsPlaceOfFirst draft ExpandRule) (sym (c.first_expanded_early-early.ensures ∙ ap (λ (tasks : List TaskDraft). position (λ (both : TaskDraft × Rule). is_some both.0.expand && not (is_waiting both.1)) (zip tasks c.args.rules.now)) c.as_slice.ensures)) told
