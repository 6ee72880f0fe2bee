-- The report of a backfill has what follows from the graph, since its values are the recursion's.
use Rattle.std.proofs.Common.{◌≡◌, ℕ, zero, suc, ◌<◌, true, List, [], ◌∷◌, length, map, Option, Some, None, is_some, refl, sym, ap, ◌∙◌, arith}
use Rattle.std.specs.List.{filter_map}
use Rattle.bf_interval.specs.declared.interval.Interval.{Interval}
use Rattle.bf_core.specs.Terms.{Dag, Given, Ledger, TaskResult, TaskValue, IsSound, result_of, task_of}
use Rattle.bf_core.specs.declared.decision.Decision.{Decision}
use Rattle.bf_core.specs.Deciding.{settled, decision}
use Rattle.bf_core.specs.Recursion.{before, decided, out, results_from, value_of}
use Rattle.bf_core.specs.Agreement.{final_cell, finished_from}
use Rattle.bf_core.proofs.Depth.{decision_cong, out_is}
use Rattle.bf_core.proofs.Solutions.{first_same}
use Rattle.bf_core.proofs.Stuck.{single_decided}
use Rattle.bf_core.proofs.Taken.{decided_taken}
use Rattle.bf_report.specs.declared.report.InstanceReport.{InstanceReport}
use Rattle.bf_report.specs.declared.report.TaskReport.{TaskReport}
use Rattle.bf_report.specs.declared.report.Report.{Report}
use Rattle.bf_report.specs.Dated.{cell_by, IsDated, reported, reported_instance, reported_instances}
use Rattle.bf_clear.specs.Entries.{report_at, value_reported_at, value_by, value_in}
use Rattle.bf_clear.proofs.Own.{pull_in}
use Rattle.bf_clear.proofs.Told.{reported_there, task_at}
use Rattle.bf_reason.specs.Letters.{before_at, follows, follows_in, seen_at}

-- an unmapped task has one instance
abbrev FitsKind : Option ℕ → List Given → Type 0
FitsKind None givens = length givens ≡ 1
FitsKind (Some source) givens = Unit {0}

-- ---- what a report has of what was decided

module _ (dag : Dag) (task : ℕ) (result : ℕ → TaskResult) where
  abbrev told_from : ℕ → List Given → List InstanceReport
  told_from from givens = filter_map (reported_instance dag task) (finished_from result from givens)

  results_told : (from : ℕ) (givens : List Given) → map (λ (instance : InstanceReport). instance.result) (told_from from givens) ≡ results_from result from givens
  results_told from [] = refl
  results_told from (given ∷ givens) = ap (λ rest. result from ∷ rest) (results_told (suc from) givens)

  length_told : (from : ℕ) (givens : List Given) → length (told_from from givens) ≡ length givens
  length_told from [] = refl
  length_told from (given ∷ givens) = ap suc (length_told (suc from) givens)

  value_told : (expand : Option ℕ) (givens : List Given) → FitsKind expand givens → value_in (reported_instances (is_some expand) (told_from 0 givens)) ≡ TaskValue.Ran (results_from result 0 givens)
  value_told (Some source) givens fit = ap TaskValue.Ran (results_told 0 givens)
  value_told None [] fit = absurd (omega (arith, fit))
  value_told None (given ∷ []) fit = refl
  value_told None (given ∷ other ∷ givens) fit = absurd (omega (arith, fit))

  instances_follow : (expand : Option ℕ) (givens : List Given) → FitsKind expand givens → follows (is_some expand) (Decision.Instances givens) (reported_instances (is_some expand) (told_from 0 givens)) ≡ true
  instances_follow (Some source) givens fit = grind (arith, length_told 0 givens)
  instances_follow None [] fit = absurd (omega (arith, fit))
  instances_follow None (given ∷ []) fit = refl
  instances_follow None (given ∷ other ∷ givens) fit = absurd (omega (arith, fit))

module _ (dag : Dag) (sound : IsSound dag) (ledger : Ledger) (run task : ℕ) where
  fits_kind : (expand : Option ℕ) → (task_of dag task).expand ≡ expand → (givens : List Given) → decided dag ledger run task ≡ Decision.Instances givens → FitsKind expand givens
  fits_kind None unmapped givens is = single_decided dag ledger run task givens unmapped is
  fits_kind (Some source) expanded givens is = tt

  cell_value : value_in (reported dag task (cell_by dag ledger run task)) ≡ out dag ledger run task
  unfolding cell_by
  cell_value = by (decided dag ledger run task) refl ∙ sym (out_is dag sound ledger run task)
    where
      by : (d : Decision) → decided dag ledger run task ≡ d → value_in (reported dag task (final_cell d (result_of dag ledger run task))) ≡ value_of dag ledger run task d
      by Decision.Wait is = refl
      by Decision.Blocked is = refl
      by Decision.Skipped is = refl
      by Decision.UpstreamFailed is = refl
      by (Decision.Instances givens) is = value_told dag task (result_of dag ledger run task) (task_of dag task).expand givens (fits_kind _ refl givens is)

  cell_follows : follows (is_some (task_of dag task).expand) (decided dag ledger run task) (reported dag task (cell_by dag ledger run task)) ≡ true
  unfolding cell_by
  cell_follows = by (decided dag ledger run task) refl
    where
      by : (d : Decision) → decided dag ledger run task ≡ d → follows (is_some (task_of dag task).expand) d (reported dag task (final_cell d (result_of dag ledger run task))) ≡ true
      by Decision.Wait is = absurd (decided_taken dag sound ledger run task is)
      by Decision.Blocked is = refl
      by Decision.Skipped is = refl
      by Decision.UpstreamFailed is = refl
      by (Decision.Instances givens) is = instances_follow dag task (result_of dag ledger run task) (task_of dag task).expand givens (fits_kind _ refl givens is)

-- ---- what is decided over what a report has

module _ (dag : Dag) (sound : IsSound dag) (intervals : List Interval) (ledger : Ledger) (report : Report) (dated : IsDated dag intervals ledger report) where
  values_are : (run task : ℕ) → run < length intervals → task < length dag.tasks → value_reported_at report run task ≡ out dag ledger run task
  values_are run task l m = ap value_by (task_at dag ledger intervals report dated run task l m) ∙ cell_value dag sound ledger run task

  decided_over : (run task : ℕ) (past : Option TaskValue) → run < length intervals →
      decision dag run (seen_at report run) past task ≡ decision dag run (λ upstream. settled (out dag ledger run upstream)) past task
  decided_over run task past l =
      decision_cong dag run (seen_at report run) (λ upstream. settled (out dag ledger run upstream)) past task sound
      (λ u one. ap settled (values_are run u l (sound.in_range task u one)))
      (λ u one. ap settled (values_are run u l (pull_in dag sound task u one)))

  decided_so : (run task : ℕ) → run < length intervals → task < length dag.tasks → decision dag run (seen_at report run) (before_at report run task) task ≡ decided dag ledger run task
  unfolding decided before
  decided_so zero task l m = first_same dag (seen_at report zero) None (Some TaskValue.Blocked) task ∙ decided_over zero task (Some TaskValue.Blocked) l
  decided_so (suc run) task l m =
      ap (λ value. decision dag (suc run) (seen_at report (suc run)) (Some value) task) (values_are run task (omega (arith, l)) m)
      ∙ decided_over (suc run) task (Some (out dag ledger run task)) l

  pub own_follows : (run task : ℕ) (told : TaskReport) → report_at report run task ≡ Some told → follows_in dag report run task told ≡ true
  own_follows run task told is =
      let there = reported_there dag ledger intervals report dated run task told is in
      let both : Some (reported dag task (cell_by dag ledger run task)) ≡ Some told = sym (task_at dag ledger intervals report dated run task there.0 there.1) ∙ is in
      let same : told ≡ reported dag task (cell_by dag ledger run task) = cc in
      (λ i. follows (is_some (task_of dag task).expand) (decided_so run task there.0 there.1 i) (same i)) ∙ cell_follows dag sound ledger run task
