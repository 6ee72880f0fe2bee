-- Which task is pulled from.
use Rattle.std.proofs.Common.{◌≡◌, ℕ, suc, List, [], ◌∷◌, if◌then◌else◌, Option, Some, None, Ok, IfSome, option_map, refl, ap, ◌∙◌, sym}
use Rattle.std.specs.List.{position}
use Rattle.std.specs.Str.{bytes_eq}
use Rattle.bf_read.specs.declared.draft.Draft.{Draft}
use Rattle.bf_read.specs.declared.draft.TaskDraft.{TaskDraft}
use Rattle.bf_read.specs.Reading.{graph_in, graph_file_of}
use Rattle.bf_check.specs.Checking.{ids_of, number_of}
use Rattle.bf_check.specs.Refusals.{IsUnsettledPull}
use Rattle.bf_plan.proofs.ListLemmas.{position_cons}
use Rattle.bf_findings.specs.Findings.{PullsUnsettledIn}

-- the place of an id is that of its task
pub number_is : (id : List ℕ) (tasks : List TaskDraft) → number_of (ids_of tasks) id ≡ position (λ (task : TaskDraft). bytes_eq id task.id) tasks
number_is id [] = refl
number_is id (task ∷ tasks) =
    position_cons (bytes_eq id) task.id (ids_of tasks)
    ∙ (ap (λ (o : Option ℕ). if bytes_eq id task.id then Some 0 else option_map suc o) (number_is id tasks)
    ∙ sym (position_cons (λ (t : TaskDraft). bytes_eq id t.id) task tasks))

pub told_unsettled : (graph id : List ℕ) (draft : Draft) (number : ℕ) → graph_in graph ≡ Ok (graph_file_of draft) → position (λ (task : TaskDraft). bytes_eq id task.id) draft.tasks ≡ Some number → (found : Option (List ℕ)) → IfSome found (IsUnsettledPull draft number) → IfSome found (PullsUnsettledIn graph id)
told_unsettled graph id draft number says is None told = tt
told_unsettled graph id draft number says is (Some pulled) told = record { draft = draft; says = says; number = number; is_task = number_is id draft.tasks ∙ is; unsettled = told }
