use Rattle.std.proofs.Common.{List, ℕ, Contains, length, option_map, ap, sym, ◌∙◌, subst, arith, rules}
use Rattle.std.proofs.lemmas.List.{length-map}
use Rattle.bf_graph.specs.Reach.{Reaches}
use Rattle.bf_read.specs.declared.draft.TaskDraft.{TaskDraft}
use Rattle.bf_read.specs.Drafts.{pulled_in}
use Rattle.bf_check.specs.Checking.{ids_of}
use Rattle.bf_check.specs.inner.Looks.{numbers_in, settling_upstreams}
use Rattle.bf_check.proofs.NumberLemmas.{all_known, numbers_within}
use Rattle.bf_check.proofs.PullLemmas.{may_pull_all, unknown_unsettled, unreaching_unsettled}
use Rattle.bf_check.proofs.looks.DraftUnderCheck.pulls_of_task.Goals as goal

pub returns-in_default : goal.returns-in_default
returns-in_default c =
    let draft = c.args.self.now.draft.now in
    let pulled = c.as_slice-2.ensures.value ∙ c.in_ok-ids.ensures ∙ ap pulled_in c.as_slice.ensures in
    let found = c.in_ok-numbers.ensures ∙ ap (λ (xs : List (List ℕ)). numbers_in xs c.as_slice-2.result.now) c.args.self.now.of_draft ∙ ap (numbers_in (ids_of draft.tasks)) pulled in
    unknown_unsettled draft c.args.t c.args.task.now (sym found ∙ ap (option_map (λ v. v.items)) c.in_default.is)

pub are_settled-requires-clause-pulls : goal.are_settled-requires-clause-pulls
are_settled-requires-clause-pulls c = λ u one.
    let draft = c.args.self.now.draft.now in
    let ids = c.args.self.now.ids.now in
    let found = sym c.in_ok-numbers.ensures ∙ ap (option_map (λ v. v.items)) c.in-Some.is in
    let low = numbers_within ids c.as_slice-2.result.now c.in-Some.numbers.items found u (subst (λ (us : List ℕ). Contains us u) c.as_slice-3.ensures.value one) in
    omega (arith, low, ap length c.args.self.now.of_draft, length-map draft.tasks (λ (task : TaskDraft). task.id), ap length c.requires.settling, length-map draft.tasks (settling_upstreams (ids_of draft.tasks)), length-map c.args.settling.now (λ v. v.items))

pub returns-then-not-branch : goal.returns-then-not-branch
returns-then-not-branch c =
    let draft = c.args.self.now.draft.now in
    let pulled = c.as_slice-2.ensures.value ∙ c.in_ok-ids.ensures ∙ ap pulled_in c.as_slice.ensures in
    let found = c.in_ok-numbers.ensures ∙ ap (λ (xs : List (List ℕ)). numbers_in xs c.as_slice-2.result.now) c.args.self.now.of_draft ∙ ap (numbers_in (ids_of draft.tasks)) pulled in
    let numbers = sym found ∙ ap (option_map (λ v. v.items)) c.in-Some.is in
    let one = c.in_ok-are_settled.ensures.not_all (search rules) in
    unreaching_unsettled draft c.args.t c.args.task.now c.in-Some.numbers.items numbers one.0 (subst (λ (us : List ℕ). Contains us one.0) c.as_slice-3.ensures.value one.1) (subst (λ (ups : List (List ℕ)). ¬ (Reaches ups one.0 c.args.t)) c.requires.settling one.2)

pub returns : goal.returns
returns c =
    let draft = c.args.self.now.draft.now in
    let ids = ids_of draft.tasks in
    let pulled = c.as_slice-2.ensures.value ∙ c.in_ok-ids.ensures ∙ ap pulled_in c.as_slice.ensures in
    let found = c.in_ok-numbers.ensures ∙ ap (λ (xs : List (List ℕ)). numbers_in xs c.as_slice-2.result.now) c.args.self.now.of_draft ∙ ap (numbers_in ids) pulled in
    let numbers = sym found ∙ ap (option_map (λ v. v.items)) c.in-Some.is in
    let all = c.in_ok-are_settled.ensures.all (search rules) in (
      λ i. record { ids = (c.from_vec.ensures ∙ c.in_ok-ids.ensures ∙ ap pulled_in c.as_slice.ensures) i; numbers = (c.from_vec-2.ensures ∙ (all_known ids (pulled_in c.args.task.now.command) c.in-Some.numbers.items numbers).1) i },
      may_pull_all draft c.args.t c.args.task.now c.in-Some.numbers.items numbers (λ u one. subst (λ (ups : List (List ℕ)). Reaches ups u c.args.t) c.requires.settling (all u (subst (λ (us : List ℕ). Contains us u) (sym c.as_slice-3.ensures.value) one))),
    )
