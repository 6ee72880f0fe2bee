use Rattle.std.proofs.Common.{◌≡◌, ℕ, [], ◌∷◌, List, Option, Some, length, slice_get, refl, ap, sym, ◌∙◌, subst, arith}
use Rattle.std.proofs.lemmas.List.{length-append}
use Rattle.std.proofs.lemmas.Option.{slice_get_read}
use Rattle.bf_read.specs.declared.draft.TaskDraft.{TaskDraft}
use Rattle.bf_check.specs.declared.pulls.Pulls.{Pulls}
use Rattle.bf_check.specs.inner.Looks.{IsFoundOfPulls}
use Rattle.bf_check.proofs.ListLemmas.{each_pushed}
use Rattle.bf_check.proofs.looks.DraftUnderCheck.pulls_of_each.Goals as goal

pub loop-t-preserved : goal.loop-t-preserved
loop-t-preserved c =
    let draft = c.args.self.now.draft.now in
    let t = c.loop-t.t in
    let one = c.in_ok-pulls_of_task.field-0 in
    let tasks : List TaskDraft = c.as_slice-task-items.result.now in
    let item : slice_get tasks t ≡ Some c.task-item.result = slice_get_read tasks (length tasks) t c.task-item.result refl c.loop-t-test.true c.task-item.is in
    let here : slice_get draft.tasks t ≡ Some c.task-item.result = ap (λ (xs : List TaskDraft). slice_get xs t) (sym c.as_slice-task-items.ensures) ∙ item in
    let long = length-append c.loop-t.found.items (one ∷ []) in
    record {
      one_each = omega (arith, ap length c.in_ok-push.ensures.items, long, c.loop-t.invariant.one_each);
      each = subst (λ (found : List (Option Pulls)). (s : ℕ) (task : TaskDraft) (o : Option Pulls) → slice_get draft.tasks s ≡ Some task → slice_get found s ≡ Some o → IsFoundOfPulls draft s task o) (sym {A = List (Option Pulls)} c.in_ok-push.ensures.items)
          (each_pushed (IsFoundOfPulls draft) draft.tasks c.loop-t.found.items t c.task-item.result one c.loop-t.invariant.one_each here c.loop-t.invariant.each c.in_ok-pulls_of_task.ensures);
    }
