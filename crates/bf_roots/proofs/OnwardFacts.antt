-- A place has few steps onward.
use Rattle.std.proofs.Common.{◌≤◌, ℕ, Bool, true, false, if◌then◌else◌, List, [], filter, length, map, Option, None, Some, arith}
use Rattle.std.specs.Prelude.{is_none, is_some, slice_get}
use Rattle.std.proofs.lemmas.List.{length-map}
use Rattle.std.proofs.lemmas.List.Sums.{count_by-le-length, length-filter}
use Rattle.bf_core.specs.Terms.{Dag, task_of}
use Rattle.bf_core.specs.Deciding.{branch_is, branch_skips, is_blocked_in}
use Rattle.bf_plan.specs.Sound.{IsSound}
use Rattle.bf_report.specs.declared.report.TaskReport.{TaskReport}
use Rattle.bf_reason.specs.declared.cause.StateCause.{StateCause}
use Rattle.bf_reason.specs.Settled.{value_among}
use Rattle.bf_why.specs.Since.{failures, has_instance_of}
use Rattle.bf_roots.specs.declared.step.WalkStep.{WalkStep}
use Rattle.bf_roots.specs.Onward.{tasks_of_option_of, cause_among, goes_on_in, next_tasks_of, onward_among, onward_of, onward_if_told, skipping_states_of, step_by}

few_kept : (p : ℕ → Bool) (tasks : List ℕ) → length tasks ≤ 20_000 → length (filter p tasks) ≤ 20_000
few_kept p tasks few = omega (arith, few, length-filter p tasks, count_by-le-length p tasks)

few_alone : (task : Option ℕ) → length (tasks_of_option_of task) ≤ 20_000
few_alone None = omega arith
few_alone (Some task) = omega arith

few_if : {X : Type 0} (holds : Bool) (xs : List X) → length xs ≤ 20_000 → length (if holds then xs else []) ≤ 20_000
few_if true xs few = few
few_if false xs few = omega arith

module _ (dag : Dag) (sound : IsSound dag) where
  few_tasks : (tasks : List TaskReport) (task : ℕ) (cause : StateCause) → length (next_tasks_of dag tasks task cause) ≤ 20_000
  few_tasks tasks task StateCause.NotFollowed = few_kept (λ u. branch_is dag (branch_skips dag task u) u (Some (value_among tasks u))) (task_of dag task).upstreams (sound.few_upstreams task)
  few_tasks tasks task StateCause.BranchIsBlocked = few_kept (λ u. branch_is dag is_blocked_in u (Some (value_among tasks u))) (task_of dag task).upstreams (sound.few_upstreams task)
  few_tasks tasks task StateCause.UpstreamIsBlocked = few_kept (λ u. is_blocked_in (value_among tasks u)) (task_of dag task).upstreams (sound.few_upstreams task)
  few_tasks tasks task StateCause.RuleFails = few_kept (has_instance_of tasks failures) (task_of dag task).upstreams (sound.few_upstreams task)
  few_tasks tasks task StateCause.RuleSkips = few_kept (has_instance_of tasks (skipping_states_of (task_of dag task).rule)) (task_of dag task).upstreams (sound.few_upstreams task)
  few_tasks tasks task StateCause.PastHasNotPassed = omega arith
  few_tasks tasks task StateCause.ItemsAreMissing = few_alone (task_of dag task).expand
  few_tasks tasks task StateCause.HasNoItems = few_alone (task_of dag task).expand
  few_tasks tasks task StateCause.Waits = omega arith
  few_tasks tasks task (StateCause.Runs count) = omega arith

  few_for : (tasks : List TaskReport) (run task : ℕ) (cause : StateCause) (told : TaskReport) → length (onward_of dag tasks run task cause told) ≤ 20_000
  few_for tasks run task cause told =
      few_if (goes_on_in (is_some (task_of dag task).expand) cause told) (map (step_by run cause) (next_tasks_of dag tasks task cause))
      (omega (arith, few_tasks tasks task cause, length-map (next_tasks_of dag tasks task cause) (step_by run cause)))

  pub few_if_told : (tasks before : List TaskReport) (run task : ℕ) (told : Option TaskReport) → length (onward_if_told dag tasks before run task told) ≤ 20_000
  few_if_told tasks before run task None = omega arith
  few_if_told tasks before run task (Some told) = few_for tasks run task (cause_among dag tasks before run task) told

  pub few_steps : (tasks before : List TaskReport) (step : WalkStep) → length (onward_among dag tasks before step) ≤ 20_000
  few_steps tasks before step =
      few_if (is_none step.began) (onward_if_told dag tasks before step.run step.task (slice_get tasks step.task))
      (few_if_told tasks before step.run step.task (slice_get tasks step.task))
