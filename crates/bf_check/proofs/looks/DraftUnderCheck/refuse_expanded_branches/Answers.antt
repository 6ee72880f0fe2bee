use Rattle.std.proofs.Common.{position, ap, refl, sym, ◌∙◌, subst}
use Rattle.std.proofs.lemmas.Result.{IfOk-weaker}
use Rattle.bf_check.specs.declared.fault.TaskFault.TheVariants.{BranchMisuse}
use Rattle.bf_check.specs.inner.Looks.{IsPlaceOfFirst}
use Rattle.bf_check.specs.Refusals.{expands_branch}
use Rattle.bf_check.proofs.FaultLemmas.{told_by_each, no_fault}
use Rattle.bf_check.proofs.looks.DraftUnderCheck.refuse_expanded_branches.Goals as goal

pub refuse_at-requires-clause-first : goal.refuse_at-requires-clause-first
refuse_at-requires-clause-first c =
    let draft = c.args.self.now.draft.now in
    let told = told_by_each draft BranchMisuse expands_branch (λ t task is. is) (λ t task is. is) expands_branch (λ task. task) (λ task. task) draft.tasks refl (λ task other same. ap expands_branch same) in
    subst (IsPlaceOfFirst draft BranchMisuse) (sym (c.first_expanded_branch-branch.ensures ∙ ap (position expands_branch) c.as_slice.ensures)) told

pub returns-clause-ok : goal.returns-clause-ok
returns-clause-ok c = IfOk-weaker _ _ _ (λ _ below. no_fault c.args.self.now.draft.now below) c.refuse_at.ensures.ok
