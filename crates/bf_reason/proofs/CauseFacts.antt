-- Causes beside reasons, over what is settled.
use Rattle.std.proofs.Common.{◌≡◌, ℕ, zero, suc, Bool, true, false, not, ◌&&◌, ◌==◌, if◌then◌else◌, List, [], ◌∷◌, length, map, Option, Some, None, is_some, refl, sym, ap, subst, ◌∙◌, arith}
use Rattle.std.specs.List.{cons_option, filter, filter_map, list_all, list_any}
use Rattle.std.proofs.lemmas.Bool.{ne_eqb}
use Rattle.bf_core.specs.Terms.{Dag, Items, Task, TaskResult, TaskValue, Xval, is_failed, items, task_of, verdict}
use Rattle.bf_core.specs.Deciding.{all_passed, branch_is, branch_skips, counts_over, is_blocked_in, lets_decide_in, lets_pass_in, pulled}
use Rattle.std.specs.Prelude.{slice_get, slice_index_or}
use Rattle.bf_mapped.specs.Items.{items_of}
use Rattle.bf_plan.specs.Plans.{no_task}
use Rattle.bf_xcom.specs.Pulls.{pushed_value_of}
use Rattle.bf_report.specs.declared.report.TaskReport.{TaskReport}
use Rattle.bf_reason.specs.declared.cause.StateCause.{StateCause}
use Rattle.bf_reason.specs.Causes.{cause_of}
use Rattle.bf_reason.specs.inner.Causes.{cause_by_count, item_count, past_lets_go_on_of, values_given}
use Rattle.bf_reason.specs.Reasons.{Reason, waits, not_followed, branch_is_blocked, past_has_not_passed, by_items, by_past, cause_by_verdict_of, reason}
use Rattle.bf_reason.specs.Settled.{before_among, seen_among, value_among}

all_decide : (dag : Dag) (task : Task) (tasks : List TaskReport) (us : List ℕ) → list_all (lets_decide_in dag task (seen_among tasks)) us ≡ true
all_decide dag task tasks [] = refl
all_decide dag task tasks (u ∷ us) = all_decide dag task tasks us

-- ---- the tests before the rule

module _ (dag : Dag) (run : ℕ) (tasks : List TaskReport) (before : Option TaskValue) (task : ℕ) where
  abbrev Skips : List ℕ → Bool
  Skips us = list_any (λ u. branch_is dag (branch_skips dag task u) u (Some (value_among tasks u))) us

  abbrev Blocks : List ℕ → Bool
  Blocks us = list_any (λ u. branch_is dag is_blocked_in u (Some (value_among tasks u))) us

  abbrev Rules : Task → List ℕ → Reason
  Rules of us = cause_by_verdict_of dag run (seen_among tasks) before task (verdict of.rule (counts_over (seen_among tasks) us))

  abbrev chosen : Bool → Bool → Bool → Reason → Reason
  chosen all skips blocks rules = if not all then waits else (if skips then not_followed else (if blocks then branch_is_blocked else rules))

  settled_reason : (of : Task) (us : List ℕ) → of ≡ task_of dag task → us ≡ of.upstreams → chosen true (Skips us) (Blocks us) (Rules of us) ≡ reason dag run (seen_among tasks) before task
  unfolding reason
  settled_reason of us is ups =
      ap (λ xs. chosen true (Skips xs) (Blocks xs) (Rules of xs)) ups
      ∙ ap (λ t. chosen true (Skips t.upstreams) (Blocks t.upstreams) (Rules t t.upstreams)) is
      ∙ ap (λ all. chosen all (Skips (task_of dag task).upstreams) (Blocks (task_of dag task).upstreams) (Rules (task_of dag task) (task_of dag task).upstreams)) (sym (all_decide dag (task_of dag task) tasks (task_of dag task).upstreams))

  pub cause_skips : (of : Task) (us : List ℕ) → of ≡ task_of dag task → us ≡ of.upstreams → Skips us ≡ true → StateCause.NotFollowed ≡ cause_of (reason dag run (seen_among tasks) before task)
  cause_skips of us is ups skips = ap (λ s. cause_of (chosen true s (Blocks us) (Rules of us))) (sym skips) ∙ ap cause_of (settled_reason of us is ups)

  pub cause_blocks : (of : Task) (us : List ℕ) → of ≡ task_of dag task → us ≡ of.upstreams → Skips us ≡ false → Blocks us ≡ true → StateCause.BranchIsBlocked ≡ cause_of (reason dag run (seen_among tasks) before task)
  cause_blocks of us is ups skips blocks =
      ap (λ b. cause_of (chosen true false b (Rules of us))) (sym blocks)
      ∙ ap (λ s. cause_of (chosen true s (Blocks us) (Rules of us))) (sym skips) ∙ ap cause_of (settled_reason of us is ups)

  pub cause_rules : (of : Task) (us : List ℕ) → of ≡ task_of dag task → us ≡ of.upstreams → Skips us ≡ false → Blocks us ≡ false → cause_of (Rules of us) ≡ cause_of (reason dag run (seen_among tasks) before task)
  cause_rules of us is ups skips blocks =
      ap (λ b. cause_of (chosen true false b (Rules of us))) (sym blocks)
      ∙ ap (λ s. cause_of (chosen true s (Blocks us) (Rules of us))) (sym skips) ∙ ap cause_of (settled_reason of us is ups)

-- ---- the past

go_on : (passed : Bool) (goes_on : Reason) → (if passed then cause_of goes_on else StateCause.PastHasNotPassed) ≡ cause_of (if passed then goes_on else past_has_not_passed)
go_on true goes_on = refl
go_on false goes_on = refl

pub cause_past : (depends : Bool) (run : ℕ) (before : List TaskReport) (task : ℕ) (goes_on : Reason) →
    (if past_lets_go_on_of depends run (before_among before run task) then cause_of goes_on else StateCause.PastHasNotPassed)
    ≡ cause_of (if depends && not (run == 0) then by_past goes_on (before_among before run task) else goes_on)
cause_past false run before task goes_on = refl
cause_past true zero before task goes_on = refl
cause_past true (suc run) before task goes_on =
    let value = value_among before task in
    subst (λ (first : Bool). (if (if not first then lets_pass_in value else true) then cause_of goes_on else StateCause.PastHasNotPassed) ≡ cause_of (if not first then (if lets_pass_in value then goes_on else past_has_not_passed) else goes_on))
    (sym (ne_eqb (suc run) 0 (omega arith))) (go_on (lets_pass_in value) goes_on)

pub all_passed_is : (results : List TaskResult) → list_all (λ ended. not (is_failed ended.outcome)) results ≡ all_passed results
all_passed_is [] = refl
all_passed_is (result ∷ results) = ap (λ rest. not (is_failed result.outcome) && rest) (all_passed_is results)

-- ---- the items

length_map : {X Y : Type 0} (f : X → Y) (xs : List X) → length (map f xs) ≡ length xs
length_map f [] = refl
length_map f (x ∷ xs) = ap suc (length_map f xs)

abbrev has_pushed : TaskResult → Bool
has_pushed ended = is_some (pushed_value_of ended)

abbrev values_of : List TaskResult → List Xval
values_of results = filter_map (λ value. value) (map pushed_value_of results)

one_pushed : (value : Option Xval) (result : TaskResult) (kept : List TaskResult) (values : List Xval) → length kept ≡ length values →
    length {A = TaskResult} (if is_some value then result ∷ kept else kept) ≡ length {A = Xval} (cons_option value values)
one_pushed None result kept values same = same
one_pushed (Some given) result kept values same = ap suc same

-- as many instances pushed something as values are left
pub pushed_count : (results : List TaskResult) → length (filter has_pushed results) ≡ length (values_of results)
pushed_count [] = refl
pushed_count (result ∷ results) = one_pushed (pushed_value_of result) result (filter has_pushed results) (values_of results) (pushed_count results)

pub items_by : (source : Task) (value : TaskValue) → items_of (values_given (is_some source.expand) value) ≡ items source value
items_by source TaskValue.Blocked = refl
items_by source TaskValue.Skipped = refl
items_by source TaskValue.UpstreamFailed = refl
items_by source (TaskValue.Ran results) = refl

expand_beyond : (tasks : List Task) (task : ℕ) → slice_get tasks task ≡ None → false ≡ is_some (slice_index_or tasks task no_task).expand
expand_beyond [] task none = refl
expand_beyond (first ∷ rest) zero none = cc
expand_beyond (first ∷ rest) (suc task) none = expand_beyond rest task none

pub none_expanded : (dag : Dag) (task : ℕ) → slice_get dag.tasks task ≡ None → false ≡ is_some (task_of dag task).expand
unfolding task_of
none_expanded dag task none = expand_beyond dag.tasks task none

pub cause_counts : (pulled : List (Option Xval)) (given : Items) → cause_by_count (item_count given) ≡ cause_of (by_items pulled given)
cause_counts pulled Items.Missing = refl
cause_counts pulled (Items.List []) = refl
cause_counts pulled (Items.List (first ∷ rest)) = ap (λ n. StateCause.Runs (suc n)) (sym (length_map _ rest))
