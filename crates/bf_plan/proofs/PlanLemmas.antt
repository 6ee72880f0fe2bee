-- The ids and the upstreams of a plan's tasks, as the graph has them.
use Rattle.std.proofs.Common.{◌≡◌, ◌<◌, inl, inr, ℕ, zero, suc, List, [], ◌∷◌, map, length, get_or, position, slice_get, Contains, None, Some, option_map, true, false, if◌then◌else◌, subst, refl, sym, ap, ◌∙◌, arith}
use Rattle.std.specs.Str.{bytes_eq}
use Rattle.std.specs.Cmp.Lexicographic.{bytes_decides}
use Rattle.std.proofs.lemmas.Bool.{cases_Bool}
use Rattle.std.proofs.lemmas.List.{length-map, get_or-map}
use Rattle.std.specs.List.{slice_index_or}
use Rattle.std.proofs.Math.ListN.{get_or-map as get_or-map_default}
use Rattle.bf_graph.specs.Edges.{upstreams_of, IsUpstream}
use Rattle.bf_value.specs.Distinct.{AreDistinct}
use Rattle.bf_plan.specs.declared.plan.Task.{Task}
use Rattle.bf_plan.specs.declared.plan.Dag.{Dag}
use Rattle.bf_plan.specs.Plans.{no_task, task_of, shape_of}
use Rattle.bf_plan.specs.Sound.{IsNamed, IsOneOf}
use Rattle.bf_plan.proofs.ListLemmas.{position_cons}

-- ---- one of a list

pub contains_one : (us : List ℕ) (u : ℕ) → IsOneOf us u → Contains us u
contains_one [] u one = absurd one
contains_one (x ∷ us) u (inl is) = (0, omega arith, sym is)
contains_one (x ∷ us) u (inr one) = let rest = contains_one us u one in (suc rest.0, omega (arith, rest.1), rest.2)

pub one_contained : (us : List ℕ) (u : ℕ) → Contains us u → IsOneOf us u
one_contained [] u (k, h, is) = absurd (omega (arith, h))
one_contained (x ∷ us) u (zero, h, is) = inl (sym is)
one_contained (x ∷ us) u (suc k, h, is) = inr (one_contained us u (k, omega (arith, h), is))

pub upstreams_of_task : (dag : Dag) (t : ℕ) → (task_of dag t).upstreams ≡ upstreams_of (shape_of dag).upstreams t
unfolding task_of
upstreams_of_task dag t = sym (get_or-map_default (λ (task : Task). task.upstreams) dag.tasks t no_task)

-- an upstream of a task is one in the graph
pub is_upstream : (dag : Dag) (t u : ℕ) → IsOneOf (task_of dag t).upstreams u → IsUpstream (shape_of dag).upstreams u t
is_upstream dag t u one = contains_one _ u (subst (λ (us : List ℕ). IsOneOf us u) (upstreams_of_task dag t) one)

no_task_there : (tasks : List Task) (t : ℕ) → None ≡ slice_get tasks t → slice_index_or tasks t no_task ≡ no_task
no_task_there [] t none = refl
no_task_there (task ∷ tasks) zero none = cc
no_task_there (task ∷ tasks) (suc t) none = no_task_there tasks t none

pub task_beyond : (dag : Dag) (t : ℕ) → None ≡ slice_get dag.tasks t → task_of dag t ≡ no_task
unfolding task_of
task_beyond dag t none = no_task_there dag.tasks t none

-- ---- ids

-- of distinct texts the one at a place stands nowhere before it
place_of : (ids : List (List ℕ)) (id : List ℕ) (t : ℕ) → AreDistinct ids → t < length ids → get_or ids t [] ≡ id → position (bytes_eq id) ids ≡ Some t
place_of [] id t distinct within is = absurd (omega (arith, within))
place_of (x ∷ xs) id zero distinct within is =
    let same : bytes_eq id x ≡ true = (bytes_decides id x).1 (sym is) in
    position_cons (bytes_eq id) x xs ∙ ap (λ b. if b then Some 0 else option_map suc (position (bytes_eq id) xs)) same
place_of (x ∷ xs) id (suc t) distinct within is =
    let other : bytes_eq id x ≡ false = elim (cases_Bool (bytes_eq id x)) [
      | inl same ↦ absurd (distinct 0 (suc t) [] (omega arith) within (sym ((bytes_decides id x).0 same) ∙ sym is))
      | inr not_same ↦ not_same
    ] in
    let rest : position (bytes_eq id) xs ≡ Some t = place_of xs id t (λ i j d below inside. distinct (suc i) (suc j) d (omega arith) (omega arith)) (omega arith) is in
    position_cons (bytes_eq id) x xs ∙ ap (λ b. if b then Some 0 else option_map suc (position (bytes_eq id) xs)) other ∙ ap (option_map suc) rest

-- the id of a task stands in its place
pub own_place : (tasks : List Task) → AreDistinct (map (λ task. task.id) tasks) → (t : ℕ) → t < length tasks → position (bytes_eq (get_or tasks t no_task).id) (map (λ task. task.id) tasks) ≡ Some t
own_place tasks distinct t within =
    let ids : List (List ℕ) = map (λ (task : Task). task.id) tasks in
    place_of ids (get_or tasks t no_task).id t distinct (omega (arith, within, length-map tasks (λ (task : Task). task.id)))
    (get_or-map (λ (task : Task). task.id) tasks t no_task [] within)

pub task_found : (dag : Dag) (t : ℕ) → IsNamed dag → t < length dag.tasks → position (bytes_eq (task_of dag t).id) (shape_of dag).ids ≡ Some t
unfolding task_of
task_found dag t named within = own_place dag.tasks named.distinct t within
