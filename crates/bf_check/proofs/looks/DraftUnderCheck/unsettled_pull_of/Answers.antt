use Rattle.std.proofs.Common.{◌≡◌, ℕ, List, Bool, not, length, option_copied, Option, Some, None, ap, ◌∙◌, sym, subst, refl, arith}
use Rattle.std.specs.List.{find}
use Rattle.std.proofs.lemmas.List.{length-map}
use Rattle.bf_graph.specs.Edges.{lists, AreInRange}
use Rattle.bf_graph.specs.Reach.{IsRow}
use Rattle.bf_check.specs.declared.fault.TaskFault.TheVariants.{UnknownUpstream}
use Rattle.bf_read.specs.Drafts.{pulled_in}
use Rattle.bf_check.specs.Checking.{ids_of}
use Rattle.bf_check.specs.inner.Looks.{is_settled_by, settling_edges_of}
use Rattle.bf_check.proofs.ListLemmas.{item_at}
use Rattle.bf_check.proofs.PlanLemmas.{settling_in_range}
use Rattle.bf_check.proofs.UnsettledLemmas.{found_unsettled, none_unsettled, row_of}
use Rattle.bf_check.proofs.looks.DraftUnderCheck.unsettled_pull_of.Goals as goal

pub marks_of_reaching_tasks-requires-clause-in_range : goal.marks_of_reaching_tasks-requires-clause-in_range
marks_of_reaching_tasks-requires-clause-in_range c =
    subst AreInRange (sym (ap lists c.as_slice-2.ensures.value ∙ c.in_ok-settling.ensures)) (settling_in_range c.args.self.now.draft.now (c.in_ok-rules.ensures.ok.tasks UnknownUpstream (omega arith)))

pub returns-in-Some-clause-found : goal.returns-in-Some-clause-found
returns-in-Some-clause-found c =
    let draft = c.args.self.now.draft.now in
    let ids = ids_of draft.tasks in
    let one = item_at draft.tasks c.args.t c.requires in
    let row = row_of draft c.args.t _ _ _ (ap lists c.as_slice-2.ensures.value ∙ c.in_ok-settling.ensures) (sym (length-map c.as_slice-2.result.now (λ v. v.items))) c.in_ok-marks.ensures in
    let found : Option (List ℕ) = Some c.in_ok-copy-in-Some.field-0 in
    let is : found ≡ find (λ id. not (is_settled_by ids c.in_ok-marks.marks.items id)) (pulled_in one.0.command) =
    ap Some c.in_ok-copy-in-Some.ensures ∙ sym (ap option_copied c.in-Some.is) ∙ c.first_unsettled.ensures
    ∙ (λ i. find (λ id. not (is_settled_by (c.args.self.now.of_draft i) (c.as_slice-3.ensures.value i) id)) ((c.as_slice-4.ensures.value ∙ c.in_ok-pulls.ensures one.0 one.1) i)) in
    found_unsettled draft c.args.t c.in_ok-marks.marks.items row one.0 one.1 found is

pub returns-clause-none : goal.returns-clause-none
returns-clause-none c = λ _ task there.
    let draft = c.args.self.now.draft.now in
    let ids = ids_of draft.tasks in
    let row = row_of draft c.args.t _ _ _ (ap lists c.as_slice-2.ensures.value ∙ c.in_ok-settling.ensures) (sym (length-map c.as_slice-2.result.now (λ v. v.items))) c.in_ok-marks.ensures in
    let is : find (λ id. not (is_settled_by ids c.in_ok-marks.marks.items id)) (pulled_in task.command) ≡ None =
    sym (λ i. find (λ id. not (is_settled_by (c.args.self.now.of_draft i) (c.as_slice-3.ensures.value i) id)) ((c.as_slice-4.ensures.value ∙ c.in_ok-pulls.ensures task there) i))
    ∙ sym c.first_unsettled.ensures ∙ ap option_copied c.in-None.is in
    none_unsettled draft c.args.t c.in_ok-marks.marks.items row task there is
