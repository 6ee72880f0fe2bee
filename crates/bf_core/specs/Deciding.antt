-- What is decided of a task in a run, from what is known of the tasks that it looks at.
-- The recursion over dates reads it over final values, and the machine over its cells.
use Rattle.std.specs.Prelude.{ℕ, ◌==◌, Bool, true, false, not, ◌&&◌, ◌||◌, if◌then◌else◌, List, [], ◌∷◌, map, Option, None, Some, is_some, option_and_then}
use Rattle.std.specs.List.{list_any, list_all}
pub use Rattle.bf_core.specs.declared.decision.Decision.{Decision}
use Rattle.bf_core.specs.Terms.{TaskValue, pull_of, items, Items, Xval, Task, Dag, task_of, is_branch_in, shape_of, followed_at, Counts, none_counted, add, Verdict, is_waiting, verdict, Outcome, TaskResult, is_failed}

-- what is known of a task: its instances counted by state, and its value once it is settled
pub record Seen : Type 0 where
  pub counts : Counts
  pub value : Option TaskValue

-- ---- counting

abbrev pub one_unfinished : Counts
one_unfinished = record none_counted { unfinished = 1 }

abbrev pub one_skipped : Counts
one_skipped = record none_counted { skipped = 1 }

abbrev pub one_upstream_failed : Counts
one_upstream_failed = record none_counted { upstream_failed = 1 }

abbrev pub one_blocked : Counts
one_blocked = record none_counted { blocked = 1 }

abbrev pub one_of : Outcome → Counts
one_of (Outcome.Success value) = record none_counted { success = 1 }
one_of Outcome.Failed = record none_counted { failed = 1 }
one_of Outcome.Skipped = one_skipped

abbrev pub counts_of_results_of : List TaskResult → Counts
counts_of_results_of [] = none_counted
counts_of_results_of (result ∷ results) = add (one_of result.outcome) (counts_of_results_of results)

abbrev pub counts_in : TaskValue → Counts
counts_in TaskValue.Blocked = one_blocked
counts_in TaskValue.Skipped = one_skipped
counts_in TaskValue.UpstreamFailed = one_upstream_failed
counts_in (TaskValue.Ran results) = counts_of_results_of results

-- a task that is settled
abbrev pub settled : TaskValue → Seen
settled value = record { counts = counts_in value; value = Some value }

-- ---- branches

-- the branch succeeded and does not follow the task
abbrev pub branch_skips : Dag → ℕ → ℕ → TaskValue → Bool
branch_skips dag task upstream (TaskValue.Ran []) = false
branch_skips dag task upstream (TaskValue.Ran (result ∷ results)) =
    elim result.outcome [
      | Outcome.Success pushed ↦ not
          (followed_at (shape_of dag) upstream pushed task)
      | Outcome.Failed ↦ false
      | Outcome.Skipped ↦
          false
    ]
branch_skips dag task upstream _ = false

abbrev pub is_blocked_in : TaskValue → Bool
is_blocked_in TaskValue.Blocked = true
is_blocked_in _ = false

-- a fact about the value of an upstream that is a branch
abbrev pub branch_is : Dag → (TaskValue → Bool) → ℕ → Option TaskValue → Bool
branch_is dag holds upstream None = false
branch_is dag holds upstream (Some value) = is_branch_in (task_of dag upstream) && holds value

-- ---- the verdict

abbrev pub counts_over : (ℕ → Seen) → List ℕ → Counts
counts_over seen [] = none_counted
counts_over seen (upstream ∷ rest) = add (seen upstream).counts (counts_over seen rest)

-- the upstream lets the task be decided: it is settled, or the task's rule need not wait for it and it is no branch
abbrev pub lets_decide_in : Dag → Task → (ℕ → Seen) → ℕ → Bool
lets_decide_in dag task seen upstream =
    is_some (seen upstream).value || (not (is_waiting task.rule)
    && not (is_branch_in (task_of dag upstream)))

unfoldable pub upstream_verdict_of : Dag → (ℕ → Seen) → ℕ → Verdict
upstream_verdict_of dag seen task =
    if not (list_all (lets_decide_in dag (task_of dag task) seen) (task_of dag task).upstreams)
    then Verdict.Wait
    else (if list_any (λ upstream. branch_is dag (branch_skips dag task upstream) upstream
    (seen upstream).value) (task_of dag task).upstreams then Verdict.Skip
    else (if list_any (λ upstream. branch_is dag is_blocked_in upstream (seen upstream).value)
    (task_of dag task).upstreams then Verdict.Blocked
    else verdict (task_of dag task).rule (counts_over seen (task_of dag task).upstreams)))

-- ---- the past, the expansion

abbrev pub all_passed : List TaskResult → Bool
all_passed [] = true
all_passed (result ∷ results) = not (is_failed result.outcome) && all_passed results

-- a task that depends on its past goes on after this value of its previous run
abbrev pub lets_pass_in : TaskValue → Bool
lets_pass_in TaskValue.Skipped = true
lets_pass_in (TaskValue.Ran results) = all_passed results
lets_pass_in _ = false

abbrev pub past_verdict_of : Option TaskValue → Verdict
past_verdict_of None = Verdict.Wait
past_verdict_of (Some value) = if lets_pass_in value then Verdict.Run else Verdict.Blocked

-- where the verdict is run and the task depends on its past, the past decides; nothing is asked of it in the first run
abbrev pub past_after : Bool → ℕ → Option TaskValue → Verdict → Verdict
past_after depends run before Verdict.Run =
    if depends && not (run == 0) then past_verdict_of before else Verdict.Run
past_after depends run before by_upstreams = by_upstreams

abbrev pub pull_seen : Dag → (ℕ → Seen) → ℕ → Option Xval
pull_seen dag seen source = option_and_then (pull_of (task_of dag source)) (seen source).value

abbrev pub pulled : Dag → (ℕ → Seen) → ℕ → List (Option Xval)
pulled dag seen task = map (pull_seen dag seen) (task_of dag task).pulls

abbrev pub mapped : List (Option Xval) → Items → Decision
mapped pulled Items.Missing = Decision.UpstreamFailed
mapped pulled (Items.List []) = Decision.Skipped
mapped pulled (Items.List (first ∷ rest)) =
    Decision.Instances (map (λ item. record { item = Some item; pulled = pulled }) (first ∷ rest))

-- the instances of a task that goes on
abbrev pub instances_of : Dag → (ℕ → Seen) → List (Option Xval) → Option ℕ → Decision
instances_of dag seen pulled None =
    Decision.Instances (record { item = None; pulled = pulled } ∷ [])
instances_of dag seen pulled (Some source) =
    elim (seen source).value [
      | None ↦ Decision.Wait
      | Some value ↦ mapped pulled
          (items (task_of dag source) value)
    ]

abbrev pub after_verdict : Dag → (ℕ → Seen) → ℕ → Verdict → Decision
after_verdict dag seen task Verdict.Wait = Decision.Wait
after_verdict dag seen task Verdict.Blocked = Decision.Blocked
after_verdict dag seen task Verdict.Skip = Decision.Skipped
after_verdict dag seen task Verdict.UpstreamFailed = Decision.UpstreamFailed
after_verdict dag seen task Verdict.Run =
    instances_of dag seen (pulled dag seen task) (task_of dag task).expand

-- the verdict, with the past
unfoldable pub task_verdict_of : Dag → ℕ → (ℕ → Seen) → Option TaskValue → ℕ → Verdict
task_verdict_of dag run seen before task =
    past_after (task_of dag task).depends_on_past run before (upstream_verdict_of dag seen task)

-- what is decided of the task in the run
unfoldable pub decision : Dag → ℕ → (ℕ → Seen) → Option TaskValue → ℕ → Decision
decision dag run seen before task = after_verdict dag seen task (task_verdict_of dag run seen before task)
