-- Tasks without downstreams.
use Rattle.std.proofs.Common.{◌≡◌, ℕ, ◌<◌, ◌==◌, true, not, List, [], ◌∷◌, length, Contains, refl, sym, ap, ◌∙◌, subst, inl, inr, arith}
use Rattle.std.specs.List.{list_any}
use Rattle.std.proofs.lemmas.Bool.{cases_Bool, eqb-true, eq-eqb}
use Rattle.bf_graph.specs.Edges.{IsUpstream}
use Rattle.bf_graph.specs.Lookups.{IsRisingListOf}
use Rattle.bf_graph.proofs.PathLemmas.{task_within}
use Rattle.bf_plan.specs.declared.plan.Task.{Task}
use Rattle.bf_plan.specs.declared.plan.Dag.{Dag}
use Rattle.bf_plan.specs.Plans.{no_task, task_of, shape_of}
use Rattle.bf_plan.proofs.PlanLemmas.{upstreams_of_task}
use Rattle.bf_plan.proofs.ListLemmas.{any_contained}
use Rattle.bf_pool.proofs.WeightFacts.{tasks_there, any_of}
use Rattle.bf_core.specs.Recursion.{is_leaf_in}
use Rattle.bf_core.proofs.Placing.{any_default}

named : (dag : Dag) (t d : ℕ) → IsUpstream (shape_of dag).upstreams t d → list_any (λ task. list_any (λ u. u == t) task.upstreams) dag.tasks ≡ true
unfolding task_of
named dag t d up =
    let within : d < length dag.tasks = omega (arith, task_within (shape_of dag).upstreams t d up, tasks_there dag) in
    let task : Task = task_of dag d in
    let up' : Contains task.upstreams t = subst (λ (us : List ℕ). Contains us t) (sym (upstreams_of_task dag d)) up in
    any_contained (λ task. list_any (λ u. u == t) task.upstreams) dag.tasks task (d, within, any_default dag.tasks d task no_task within)
    (any_contained (λ u. u == t) task.upstreams t up' (eq-eqb t t refl))

namer : (dag : Dag) (t : ℕ) → list_any (λ task. list_any (λ u. u == t) task.upstreams) dag.tasks ≡ true → (d : ℕ) × IsUpstream (shape_of dag).upstreams t d
unfolding task_of
namer dag t e =
    let (task, (d, within, at), names) = any_of (λ task. list_any (λ u. u == t) task.upstreams) dag.tasks e in
    let (u, held, same) = any_of (λ u. u == t) task.upstreams names in
    let is : task ≡ task_of dag d = sym at ∙ any_default dag.tasks d task no_task within in
    let one : Contains task.upstreams t = subst (λ (v : ℕ). Contains task.upstreams v) (eqb-true u t same) held in
    (d, subst (λ (us : List ℕ). Contains us t) (ap (λ (x : Task). x.upstreams) is ∙ upstreams_of_task dag d) one)

-- a task is a leaf where the list of its downstreams is empty
pub no_downstreams : (dag : Dag) (t : ℕ) (ds : List ℕ) → IsRisingListOf (IsUpstream (shape_of dag).upstreams t) ds → (length ds == 0) ≡ is_leaf_in dag t
no_downstreams dag t [] are =
    elim (cases_Bool (list_any (λ task. list_any (λ u. u == t) task.upstreams) dag.tasks)) [
      | inl e ↦ let (d, up) = namer dag t e in let (k, within, at) = (are.exact d).1 up in absurd (omega (arith, within))
      | inr e ↦ eq-eqb 0 0 refl ∙ sym (ap not e)
    ]
no_downstreams dag t (d ∷ ds) are =
    elim (cases_Bool (length (d ∷ ds) == 0)) [
      | inl e ↦ absurd (omega (arith, eqb-true (length (d ∷ ds)) 0 e))
      | inr e ↦ e ∙ sym (ap not (named dag t d ((are.exact d).0 (0, omega arith, refl))))
    ]

-- a task has its place in the list of edges
pub has_edges : (dag : Dag) (t : ℕ) → t < length dag.tasks → t < length (shape_of dag).upstreams
has_edges dag t within = omega (arith, within, tasks_there dag)
