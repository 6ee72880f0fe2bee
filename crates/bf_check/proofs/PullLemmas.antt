-- What is settled when a task is decided, by paths.
use Rattle.std.proofs.Common.{◌≡◌, ℕ, zero, suc, ◌<◌, ◌+◌, ◌++◌, List, [], ◌∷◌, length, map, take, get_or, slice_get, Contains, Bool, true, false, true≢false, cond, Option, Some, None, is_none, option_map, refl, sym, ap, ◌∙◌, subst, arith}
use Rattle.std.proofs.lemmas.List.{length-map, get_or-map}
use Rattle.std.proofs.lemmas.Option.{get_or_from_slice_get, slice_get-map, slice_get_within}
use Rattle.std.specs.List.{position, slice_index_or}
use Rattle.bf_graph.specs.Edges.{upstreams_of, IsUpstream}
use Rattle.bf_graph.specs.Reach.{IsPath, Reaches}
use Rattle.bf_read.specs.declared.draft.Draft.{Draft}
use Rattle.bf_read.specs.declared.draft.TaskDraft.{TaskDraft}
use Rattle.bf_read.specs.Drafts.{pulled_in}
use Rattle.bf_rule.specs.declared.rule.Rule.{Rule}
use Rattle.bf_rule.specs.Verdicts.{is_waiting}
use Rattle.bf_check.specs.declared.fault.TaskFault.TheVariants.{PullNotSettled}
use Rattle.bf_plan.specs.declared.plan.Dag.{Dag}
use Rattle.bf_check.specs.declared.pulls.Pulls.{Pulls}
use Rattle.bf_plan.specs.Plans.{no_task, task_of}
use Rattle.bf_plan.specs.Sound.{IsOneOf, IsSettledAncestor, Direct, Above}
use Rattle.bf_check.specs.Checking.{ids_of, number_or_0, rule_of, task_in, dag_of, shape_in}
use Rattle.bf_check.specs.inner.Looks.{numbers_in, pulls_in, settling_upstreams, settling_edges_of, AllMayPull, IsFoundOfPulls, IsPlaceOfFirst}
use Rattle.bf_check.specs.Refusals.{MayPull, PullsUnsettled}
use Rattle.bf_plan.proofs.PlanLemmas.{contains_one, one_contained}
use Rattle.bf_check.proofs.FaultLemmas.{first_told}
use Rattle.bf_check.proofs.ListLemmas.{each_by_place, item_at, map_more}
use Rattle.bf_check.proofs.NumberLemmas.{all_known, one_unknown, known_number, unknown_id, mapped_from, contains_mapped}

-- ---- the edges along which upstreams are settled

module _ (draft : Draft) where
  abbrev dag : Dag
  dag = dag_of draft

  abbrev edges : List (List ℕ)
  edges = settling_edges_of draft.tasks

  settling_at : (t : ℕ) → upstreams_of edges t ≡ cond (is_waiting (task_of dag t).rule) (task_of dag t).upstreams []
  unfolding task_of
  settling_at t = go draft.tasks t
    where
      ids : List (List ℕ)
      ids = ids_of draft.tasks

      go : (ds : List TaskDraft) (t : ℕ) → slice_index_or (map (settling_upstreams ids) ds) t [] ≡ cond (is_waiting (slice_index_or (map (task_in ids) ds) t no_task).rule) (slice_index_or (map (task_in ids) ds) t no_task).upstreams []
      go [] t = refl
      go (d ∷ ds) zero = refl
      go (d ∷ ds) (suc t) = go ds t

  split_upstream : (w : Bool) (us : List ℕ) (u : ℕ) → Contains (cond w us []) u → (w ≡ true) × IsOneOf us u
  split_upstream true us u up = (refl, one_contained us u up)
  split_upstream false us u (k, h, is) = absurd (omega (arith, h))

  -- such an edge leads from an upstream to a task of a waiting rule
  settling_edge : (t u : ℕ) → IsUpstream edges u t → (is_waiting (task_of dag t).rule ≡ true) × IsOneOf (task_of dag t).upstreams u
  settling_edge t u up = split_upstream _ _ u (subst (λ (us : List ℕ). Contains us u) (settling_at t) up)

  edge_settles : (t u : ℕ) → is_waiting (task_of dag t).rule ≡ true → IsOneOf (task_of dag t).upstreams u → IsUpstream edges u t
  edge_settles t u waits one = subst (λ (us : List ℕ). Contains us u) (sym (settling_at t)) (rw waits (contains_one _ u one))

  -- what a path along such edges leads from is settled
  path_settles : (n t a : ℕ) → IsPath edges a (suc n) t → IsSettledAncestor dag t a
  path_settles zero t a (u, up, is) = let edge = settling_edge t u up in Direct edge.0 (subst (IsOneOf (task_of dag t).upstreams) (sym is) edge.1)
  path_settles (suc n) t a (u, up, path) = let edge = settling_edge t u up in Above edge.0 edge.1 (path_settles n u a path)

  pub reaching_settles : (t a : ℕ) → Reaches edges a t → IsSettledAncestor dag t a
  reaching_settles t a (n, path) = path_settles n t a path

  pub settled_reaches : (t a : ℕ) → IsSettledAncestor dag t a → Reaches edges a t
  settled_reaches t a (Direct w one) = (0, (a, edge_settles t a w one, refl))
  settled_reaches t a (Above {u = u} w one above) = let rest = settled_reaches u a above in (suc rest.0, (u, edge_settles t u w one, rest.1))

  -- ---- the edges of the graph

  pub shape_at : (t : ℕ) → upstreams_of (shape_in draft.tasks).upstreams t ≡ (task_of dag t).upstreams
  unfolding task_of
  shape_at t = go draft.tasks t
    where
      ids : List (List ℕ)
      ids = ids_of draft.tasks

      go : (ds : List TaskDraft) (t : ℕ) → slice_index_or (map (λ (task : TaskDraft). map (number_or_0 ids) task.upstreams) ds) t [] ≡ (slice_index_or (map (task_in ids) ds) t no_task).upstreams
      go [] t = refl
      go (d ∷ ds) zero = refl
      go (d ∷ ds) (suc t) = go ds t

  pub edge_there : (t u : ℕ) → IsUpstream edges u t → IsUpstream (shape_in draft.tasks).upstreams u t
  edge_there t u up = let edge = settling_edge t u up in subst (λ (us : List ℕ). Contains us u) (sym (shape_at t)) (contains_one _ u edge.1)

  -- one task more
  pub settling_more : (t : ℕ) (made : List (List ℕ)) (row ups : List ℕ) (rule d : Rule) → t < length draft.tasks → made ≡ map (settling_upstreams (ids_of draft.tasks)) (take t draft.tasks) → rule ≡ get_or (map rule_of draft.tasks) t d → ups ≡ upstreams_of (shape_in draft.tasks).upstreams t → row ≡ cond (is_waiting rule) ups [] → made ++ row ∷ [] ≡ map (settling_upstreams (ids_of draft.tasks)) (take (t + 1) draft.tasks)
  settling_more t made row ups rule d within so_far rule_is ups_are row_is =
      let ids = ids_of draft.tasks in
      let one = item_at draft.tasks t within in
      let task = one.0 in
      let here : get_or draft.tasks t task ≡ task = get_or_from_slice_get draft.tasks t task task one.1 in
      let ruled : rule ≡ rule_of task = rule_is ∙ get_or-map rule_of draft.tasks t task d within ∙ ap rule_of here in
      let above : ups ≡ map (number_or_0 ids) task.upstreams = ups_are ∙ get_or-map (λ (d : TaskDraft). map (number_or_0 ids) d.upstreams) draft.tasks t task [] within ∙ ap (λ (d : TaskDraft). map (number_or_0 ids) d.upstreams) here in
      map_more (settling_upstreams ids) draft.tasks t task made row within so_far (row_is ∙ ap (λ r. cond (is_waiting r) ups []) ruled ∙ ap (λ us. cond (is_waiting (rule_of task)) us []) above ∙ ap (settling_upstreams ids) (sym here))

  -- ---- pulls

  module _ (t : ℕ) (task : TaskDraft) where
    abbrev pulled : List (List ℕ)
    pulled = pulled_in task.command

    abbrev ids : List (List ℕ)
    ids = ids_of draft.tasks

    -- where the numbers are found and paths lead from all of them to it, a task may pull from all
    pub may_pull_all : (numbers : List ℕ) → numbers_in ids pulled ≡ Some numbers → ((u : ℕ) → Contains numbers u → Reaches edges u t) → (id : List ℕ) → Contains pulled id → MayPull draft t id
    may_pull_all numbers e all id one =
        let known = all_known ids pulled numbers e in
        let there : Contains numbers (number_or_0 ids id) = subst (λ (us : List ℕ). Contains us (number_or_0 ids id)) (sym known.1) (contains_mapped (number_or_0 ids) pulled id one) in
        (number_or_0 ids id, known_number ids pulled known.0 id one, reaching_settles t _ (all _ there))

    -- where an id is that of none, or no path leads from one of them, it may not pull from that
    pub unknown_unsettled : numbers_in ids pulled ≡ None → PullsUnsettled draft t task
    unknown_unsettled e =
        let one = unknown_id ids pulled (one_unknown ids pulled e) in
        (one.0, one.1, λ (a, is, settled). absurd (let found : None ≡ Some a = sym one.2 ∙ is in cc))

    pub unreaching_unsettled : (numbers : List ℕ) → numbers_in ids pulled ≡ Some numbers → (u : ℕ) → Contains numbers u → ¬ (Reaches edges u t) → PullsUnsettled draft t task
    unreaching_unsettled numbers e u one no_path =
        let known = all_known ids pulled numbers e in
        let from = mapped_from (number_or_0 ids) pulled u (subst (λ (us : List ℕ). Contains us u) known.1 one) in
        let number = known_number ids pulled known.0 from.0 from.1 in
        (from.0, from.1, λ (a, is, settled). no_path (subst (λ (v : ℕ). Reaches edges v t) (let both : Some (number_or_0 ids from.0) ≡ Some a = sym number ∙ is in let same : number_or_0 ids from.0 ≡ a = cc in sym same ∙ from.2) (settled_reaches t a settled)))

  -- what is found of the pulls of all tasks tells which may not pull from one
  module _ (found : List (Option Pulls)) (one_each : length found ≡ length draft.tasks) (each : (t : ℕ) (task : TaskDraft) (one : Option Pulls) → slice_get draft.tasks t ≡ Some task → slice_get found t ≡ Some one → IsFoundOfPulls draft t task one) where
    pub pulls_told : IsPlaceOfFirst draft PullNotSettled (position is_none found)
    pulls_told = first_told draft PullNotSettled is_none found (record { one_each = one_each; has = λ t task one there at. has t task one (each t task one there at); has_not = λ t task one there at. has_not t task one (each t task one there at) })
      where
        has : (t : ℕ) (task : TaskDraft) (one : Option Pulls) → IsFoundOfPulls draft t task one → is_none one ≡ true → PullsUnsettled draft t task
        has t task None is none = is
        has t task (Some pulls) is none = absurd (true≢false (sym none))

        has_not : (t : ℕ) (task : TaskDraft) (one : Option Pulls) → IsFoundOfPulls draft t task one → is_none one ≡ false → ¬ (PullsUnsettled draft t task)
        has_not t task None is some = absurd (true≢false some)
        has_not t task (Some pulls) is some = λ (id, among, cannot). cannot (is.1 id among)

    module _ (all : List Pulls) (are : map Some all ≡ found) where
      at : (t : ℕ) (task : TaskDraft) (pulls : Pulls) → slice_get draft.tasks t ≡ Some task → slice_get all t ≡ Some pulls → IsFoundOfPulls draft t task (Some pulls)
      at t task pulls there is = each t task (Some pulls) there (ap (λ (ones : List (Option Pulls)). slice_get ones t) (sym are) ∙ slice_get-map Some all t ∙ ap (option_map Some) is)

      same : length all ≡ length draft.tasks
      same = sym (length-map all Some) ∙ ap length are ∙ one_each

      pub pulls_are : all ≡ map (pulls_in (ids_of draft.tasks)) draft.tasks
      pulls_are = each_by_place (pulls_in (ids_of draft.tasks)) draft.tasks all same (λ t task pulls there is. (at t task pulls there is).0)

      pub all_may_pull : AllMayPull draft
      all_may_pull t task there =
          let within = slice_get_within draft.tasks t task there in
          let one = item_at all t (omega (arith, within, same)) in
          (at t task one.0 there one.1).1
