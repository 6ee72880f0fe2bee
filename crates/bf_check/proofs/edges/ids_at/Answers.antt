use Rattle.std.proofs.Common.{◌∙◌, [], get_or, sym}
use Rattle.std.proofs.lemmas.List.{get_or-map}
use Rattle.std.proofs.lemmas.List.Elements.{Contains-get_or}
use Rattle.bf_read.specs.declared.draft.TaskDraft.{TaskDraft}
use Rattle.bf_check.specs.Checking.{ids_of}
use Rattle.bf_check.proofs.ListLemmas.{map_more}
use Rattle.bf_check.proofs.edges.ids_at.Goals as goal

pub bounds-tasks-number : goal.bounds-tasks-number
bounds-tasks-number c = c.requires _ (Contains-get_or _ _ 0 c.loop-number-test.true)

pub loop-number-preserved : goal.loop-number-preserved
loop-number-preserved c =
    let within = c.requires _ (Contains-get_or c.args.numbers.now c.loop-number.number-index 0 c.loop-number-test.true) in
    let name = c.in_ok-copy.ensures ∙ sym (get_or-map (λ (task : TaskDraft). task.id) c.args.tasks.now _ _ [] within) in
    rw c.in_ok-push.ensures.items (map_more (λ t. get_or (ids_of c.args.tasks.now) t []) c.args.numbers.now _ 0 _ _ c.loop-number-test.true c.loop-number.invariant name)
