use Rattle.std.proofs.Common.{◌≡◌, ◌<◌, ℕ, List, get_or, length, map, ap, sym, ◌∙◌, arith}
use Rattle.std.proofs.lemmas.List.{length-map}
use Rattle.bf_read.specs.declared.draft.TaskDraft.{TaskDraft}
use Rattle.bf_check.specs.Checking.{number_or_0}
use Rattle.bf_check.specs.inner.Looks.{source_found}
use Rattle.bf_check.proofs.ListLemmas.{map_more}
use Rattle.bf_check.proofs.TaskLemmas.{upstreams_at}
use Rattle.bf_check.proofs.looks.DraftUnderCheck.sources_of_each.Goals as goal

pub source_of-requires : goal.source_of-requires
source_of-requires c =
    let tasks = c.args.self.now.draft.now.tasks in
    let task = c.task-item.result in
    let within : c.loop-t.t < length tasks = omega (arith, c.loop-t-test.true, ap length c.as_slice-task-items.ensures) in
    let here = sym (c.task-item.is ∙ ap (λ (xs : List TaskDraft). get_or xs c.loop-t.t task) c.as_slice-task-items.ensures) in
    ap length (c.upstreams.ensures ∙ upstreams_at tasks c.args.graph.now c.loop-t.t task c.requires within here) ∙ length-map task.upstreams _

pub loop-t-preserved : goal.loop-t-preserved
loop-t-preserved c =
    let tasks = c.args.self.now.draft.now.tasks in
    let ids = c.args.self.now.ids.now in
    let task = c.task-item.result in
    let within : c.loop-t.t < length tasks = omega (arith, c.loop-t-test.true, ap length c.as_slice-task-items.ensures) in
    let here = sym (c.task-item.is ∙ ap (λ (xs : List TaskDraft). get_or xs c.loop-t.t task) c.as_slice-task-items.ensures) in
    let above : c.upstreams.result.now ≡ map (number_or_0 ids) task.upstreams =
    c.upstreams.ensures ∙ upstreams_at tasks c.args.graph.now c.loop-t.t task c.requires within here ∙ ap (λ (ids : List (List ℕ)). map (number_or_0 ids) task.upstreams) (sym c.args.self.now.of_draft) in
    c.in_ok-push.ensures.items
    ∙ map_more (source_found ids) tasks c.loop-t.t task c.loop-t.found.items c.source_of.result within c.loop-t.invariant (c.source_of.ensures ids above ∙ ap (source_found ids) (sym here))
