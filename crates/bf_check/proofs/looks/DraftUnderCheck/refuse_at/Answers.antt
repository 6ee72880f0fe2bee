use Rattle.std.proofs.Common.{List, get_or, length, ap, ◌∙◌, arith}
use Rattle.std.proofs.lemmas.Option.{get_or_from_slice_get, slice_get_within}
use Rattle.bf_read.specs.declared.draft.TaskDraft.{TaskDraft}
use Rattle.bf_check.specs.inner.Looks.{IsFirstAt}
use Rattle.bf_check.proofs.looks.DraftUnderCheck.refuse_at.Goals as goal

pub returns-in_ok-id-in-Some-clause-err : goal.returns-in_ok-id-in-Some-clause-err
returns-in_ok-id-in-Some-clause-err c =
    let draft = c.args.self.now.draft.now in
    let first : IsFirstAt draft c.args.fault c.in-Some.place = rw c.in-Some.is at c.requires.first in (
      record {
        t = c.in-Some.place;
        task = first.task;
        there = first.there;
        has = first.has;
        none_before = first.none_before;
        id_is = c.in_ok-id-in-Some.ensures ∙ ap (λ (task : TaskDraft). task.id) (ap (λ (tasks : List TaskDraft). get_or tasks c.in-Some.place c.index-as_slice-place.result) c.as_slice.ensures ∙ get_or_from_slice_get draft.tasks c.in-Some.place first.task c.index-as_slice-place.result first.there);
      },
      c.requires.below,
      c.requires.scheduled,
    )

pub bounds-as_slice-place : goal.bounds-as_slice-place
bounds-as_slice-place c =
    let draft = c.args.self.now.draft.now in
    let first : IsFirstAt draft c.args.fault c.in-Some.place = rw c.in-Some.is at c.requires.first in
    let within = slice_get_within draft.tasks c.in-Some.place first.task first.there in
    omega (arith, within, ap length c.as_slice.ensures)
