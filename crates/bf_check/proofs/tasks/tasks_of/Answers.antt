use Rattle.std.proofs.Common.{◌≡◌, ℕ, inl, inr, arith, List, [], ◌∷◌, ◌++◌, length, map, refl, sym, subst, ap, ◌∙◌}
use Rattle.std.proofs.lemmas.List.{append_assoc, append-nil, length-map, map_push}
use Rattle.std.proofs.lemmas.Option.{get_or_from_slice_get, slice_get_within}
use Rattle.std.proofs.lemmas.Slice.Zip.{firsts-zip}
use Rattle.std.specs.List.{zip}
use Rattle.std.specs.Vec.Iter.{into_iter_items}
use Rattle.bf_read.specs.Drafts.{IsTask}
use Rattle.bf_read.specs.declared.draft.TaskDraft.{TaskDraft}
use Rattle.bf_plan.specs.declared.plan.Task.{Task}
use Rattle.bf_check.specs.declared.pulls.Pulls.{Pulls}
use Rattle.bf_check.specs.Checking.{ids_of, task_in}
use Rattle.bf_check.specs.inner.Looks.{pulls_in}
use Rattle.bf_check.proofs.ListLemmas.{map_then, pair_at, zip_ended}
use Rattle.bf_check.proofs.TaskLemmas.{comes_next, has_links, links_are, pulls_found}
use Rattle.bf_check.proofs.tasks.tasks_of.Goals as goal

abbrev made : List TaskDraft → TaskDraft × Pulls → Task
made drafts both = task_in (ids_of drafts) both.0

-- as many tasks are made as drafts came
place : (drafts : List TaskDraft) (came : List (TaskDraft × Pulls)) (tasks : List Task) (t : ℕ) → t ≡ length tasks → tasks ≡ map (made drafts) came → t ≡ length came
place drafts came tasks t len are = len ∙ ap length are ∙ length-map came (made drafts)

pub overflow_cast-t : goal.overflow_cast-t
overflow_cast-t c =
    let drafts = c.args.drafts in
    let steps = c.in-Some.ensures.steps in
    let there = comes_next drafts c.args.pulls.items c.loop-draft.yielded _ _ _ _ c.in-Some.draft c.in-Some.pulls steps.0.0 steps.1.0 c.loop-draft.invariant.left c.len-t.result (place drafts c.loop-draft.yielded _ _ (c.len-t.ensures ∙ c.loop-draft.tasks.ok.0) c.loop-draft.invariant.made) in
    let within = slice_get_within drafts c.len-t.result c.in-Some.draft (pair_at drafts c.args.pulls.items c.len-t.result c.in-Some.draft c.in-Some.pulls there).0 in
    omega (arith, within, c.requires.few)

pub links_of-requires : goal.links_of-requires
links_of-requires c =
    let drafts = c.args.drafts in
    let steps = c.in-Some.ensures.steps in
    let there = comes_next drafts c.args.pulls.items c.loop-draft.yielded _ _ _ _ c.in-Some.draft c.in-Some.pulls steps.0.0 steps.1.0 c.loop-draft.invariant.left c.len-t.result (place drafts c.loop-draft.yielded _ _ (c.len-t.ensures ∙ c.loop-draft.tasks.ok.0) c.loop-draft.invariant.made) in
    has_links drafts c.args.graph.now c.args.rules.now c.args.pulls.items c.args.sources.now c.requires.found c.len-t.result c.in-Some.draft c.in-Some.pulls there

pub task_of-requires-clause-task : goal.task_of-requires-clause-task
task_of-requires-clause-task c =
    let drafts = c.args.drafts in
    let steps = c.in-Some.ensures.steps in
    let there = comes_next drafts c.args.pulls.items c.loop-draft.yielded _ _ _ _ c.in-Some.draft c.in-Some.pulls steps.0.0 steps.1.0 c.loop-draft.invariant.left c.len-t.result (place drafts c.loop-draft.yielded _ _ (c.len-t.ensures ∙ c.loop-draft.tasks.ok.0) c.loop-draft.invariant.made) in
    let at = (pair_at drafts c.args.pulls.items c.len-t.result c.in-Some.draft c.in-Some.pulls there).0 in
    subst IsTask (get_or_from_slice_get drafts c.len-t.result c.in-Some.draft c.in-Some.draft at) (c.requires.tasks c.len-t.result c.in-Some.draft (slice_get_within drafts c.len-t.result c.in-Some.draft at))

pub task_of-requires-clause-pulled : goal.task_of-requires-clause-pulled
task_of-requires-clause-pulled c =
    let drafts = c.args.drafts in
    let steps = c.in-Some.ensures.steps in
    let there = comes_next drafts c.args.pulls.items c.loop-draft.yielded _ _ _ _ c.in-Some.draft c.in-Some.pulls steps.0.0 steps.1.0 c.loop-draft.invariant.left c.len-t.result (place drafts c.loop-draft.yielded _ _ (c.len-t.ensures ∙ c.loop-draft.tasks.ok.0) c.loop-draft.invariant.made) in
    let pulled = pulls_found drafts c.args.graph.now c.args.rules.now c.args.pulls.items c.args.sources.now c.requires.found c.len-t.result c.in-Some.draft c.in-Some.pulls there in
    ap (λ links. links.pulls.ids) c.in_ok-links.ensures ∙ ap (λ (pulls : Pulls). pulls.ids) pulled

pub loop-draft-preserved : goal.loop-draft-preserved
loop-draft-preserved c =
    let drafts = c.args.drafts in
    let yielded = c.loop-draft.yielded in
    let next : TaskDraft × Pulls = (c.in-Some.draft, c.in-Some.pulls) in
    let steps = c.in-Some.ensures.steps in
    let rest = zip (into_iter_items c.next.new.self.a) (into_iter_items c.next.new.self.b) in
    let split : yielded ++ next ∷ rest ≡ zip drafts c.args.pulls.items = ap (λ (pairs : List (TaskDraft × Pulls)). yielded ++ pairs) (sym (λ i. zip (steps.0.0 i) (steps.1.0 i))) ∙ c.loop-draft.invariant.left in
    let there = comes_next drafts c.args.pulls.items yielded _ _ _ _ c.in-Some.draft c.in-Some.pulls steps.0.0 steps.1.0 c.loop-draft.invariant.left c.len-t.result (place drafts yielded _ _ (c.len-t.ensures ∙ c.loop-draft.tasks.ok.0) c.loop-draft.invariant.made) in
    let task = c.in_ok-task_of.ensures (ids_of drafts) (c.in_ok-links.ensures ∙ links_are drafts c.args.graph.now c.args.rules.now c.args.pulls.items c.args.sources.now c.requires.found c.len-t.result c.in-Some.draft c.in-Some.pulls there _ refl _ _) in
    record {
      made = c.in_ok-push.ensures.items ∙ ap (λ (tasks : List Task). tasks ++ c.in_ok-task_of.field-0 ∷ []) c.loop-draft.invariant.made ∙ ap (λ (one : Task). map (made drafts) yielded ++ one ∷ []) task ∙ sym (map_push (made drafts) yielded next);
      left = append_assoc yielded (next ∷ []) rest ∙ split;
    }

pub returns : goal.returns
returns c =
    let drafts = c.args.drafts in
    let pulls = c.args.pulls.items in
    let yielded = c.loop-draft.yielded in
    let ended = zip_ended (into_iter_items c.loop-draft.draft-iterator.a) (into_iter_items c.loop-draft.draft-iterator.b) (elim c.in-None.ensures.steps [ inl none ↦ inl (let zero = none.1.0 in let ok = c.loop-draft.draft-iterator.a.rest.ok in omega (arith, zero, ok)) | inr none ↦ inr (let zero = none.1.0 in let ok = c.loop-draft.draft-iterator.b.rest.ok in omega (arith, zero, ok)) ]) in
    let all : yielded ≡ zip drafts pulls = sym (append-nil yielded) ∙ ap (λ (pairs : List (TaskDraft × Pulls)). yielded ++ pairs) (sym ended) ∙ c.loop-draft.invariant.left in
    let same = ap length c.requires.found.pulls_are ∙ length-map drafts (pulls_in (ids_of drafts)) in
    c.loop-draft.invariant.made ∙ ap (map (made drafts)) all ∙ sym (map_then (λ (both : TaskDraft × Pulls). both.0) (task_in (ids_of drafts)) (zip drafts pulls)) ∙ ap (map (task_in (ids_of drafts))) (firsts-zip drafts pulls same)
