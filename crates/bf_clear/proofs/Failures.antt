-- The places that are listed are those of the instances that failed.
use Rattle.std.proofs.Common.{◌≡◌, inl, inr, ℕ, zero, suc, ◌<◌, ℤ, pos, negsuc, ◌<ℤ◌, if◌then◌else◌, Bool, true, false, List, [], ◌∷◌, length, Contains, Option, None, Some, refl, sym, ap, subst, arith}
use Rattle.std.specs.Option.{option_and_then}
use Rattle.std.proofs.lemmas.Int.{ints}
use Rattle.std.proofs.lemmas.List.Elements.{Contains-append_cases, Contains-append_left, Contains-append_right}
use Rattle.std.proofs.lemmas.Option.{slice_get_within}
use Rattle.bf_interval.specs.declared.interval.Interval.{Interval}
use Rattle.bf_core.specs.Terms.{Dag, Outcome}
use Rattle.bf_try.specs.Tries.{is_failed}
use Rattle.bf_report.specs.declared.report.InstanceReport.{InstanceReport}
use Rattle.bf_report.specs.declared.report.TaskReport.{TaskReport}
use Rattle.bf_report.specs.declared.report.Report.{Report}
use Rattle.bf_dependents.specs.declared.place.Place.{Place}
use Rattle.bf_dependents.specs.Listing.{up_to}
use Rattle.bf_dependents.proofs.Listed.{in_up_to, up_to_has}
use Rattle.bf_clear.specs.Entries.{found_at, instance_in, report_at}
use Rattle.bf_clear.specs.Failing.{AreFailed, HasFailed, IsOfFailed}
use Rattle.bf_clear.specs.inner.Failing.{count_at, count_of, failed_at, failed_of_run, failed_of_task_in, failed_place}

-- ---- one instance

abbrev at : ℕ → ℕ → ℤ → Place
at k t i = record { run = k; task = t; index = Some i }

failed_is : (o : Outcome) → is_failed o ≡ true → o ≡ Outcome.Failed
failed_is (Outcome.Success v) e = cc
failed_is Outcome.Failed e = refl
failed_is Outcome.Skipped e = cc

one_failed : (p q : Place) (o : Option InstanceReport) → Contains (failed_place p o) q → (q ≡ p) × ((x : InstanceReport) × (o ≡ Some x) × (x.result.outcome ≡ Outcome.Failed))
one_failed p q None c = absurd (omega (arith, c.1))
one_failed p q (Some x) c = go (is_failed x.result.outcome) refl c
  where
    go : (b : Bool) → is_failed x.result.outcome ≡ b → Contains (if b then p ∷ [] else []) q → (q ≡ p) × ((y : InstanceReport) × (Some x ≡ Some y) × (y.result.outcome ≡ Outcome.Failed))
    go true e (zero, l, same) = (sym same, (x, refl, failed_is x.result.outcome e))
    go true e (suc k, l, same) = absurd (omega (arith, l))
    go false e (k, l, same) = absurd (omega (arith, l))

failed_one : (p : Place) (o : Option InstanceReport) (x : InstanceReport) → o ≡ Some x → x.result.outcome ≡ Outcome.Failed → Contains (failed_place p o) p
failed_one p o x is failed =
    subst (λ (o : Option InstanceReport). Contains (failed_place p o) p) (sym is)
    (subst (λ (b : Bool). Contains (if b then p ∷ [] else []) p) (sym (ap is_failed failed)) (0, omega arith, refl))

-- ---- a task

count_over : (o : Option TaskReport) (j : ℕ) (x : InstanceReport) → option_and_then (λ task. instance_in task (pos j)) o ≡ Some x → j < 2_147_483_648 → j < count_of o
count_over None j x e l = cc
count_over (Some TaskReport.NoStatus) j x e l = cc
count_over (Some TaskReport.Skipped) j x e l = cc
count_over (Some TaskReport.UpstreamFailed) j x e l = cc
count_over (Some (TaskReport.Ran y)) j x e l = cc
count_over (Some (TaskReport.Mapped ys)) j x e l = let low : j < length ys = slice_get_within ys j x e in omega (arith, low, l)

none_below : (o : Option TaskReport) (n : ℕ) (x : InstanceReport) → option_and_then (λ task. instance_in task (negsuc (suc n))) o ≡ Some x → ⊥
none_below None n x e = cc
none_below (Some TaskReport.NoStatus) n x e = cc
none_below (Some TaskReport.Skipped) n x e = cc
none_below (Some TaskReport.UpstreamFailed) n x e = cc
none_below (Some (TaskReport.Ran y)) n x e = cc
none_below (Some (TaskReport.Mapped ys)) n x e = cc

module _ (report : Report) where
  of_place : (k t : ℕ) (i : ℤ) (p : Place) → Contains (failed_at report k t i) p → IsOfFailed report p
  of_place k t i p c =
      let is : _ = one_failed (at k t i) p (found_at report k t i) c in
      subst (IsOfFailed report) (sym is.0) (i, refl, is.1)

  of_task : (k t : ℕ) (p : Place) → Contains (failed_of_task_in report k t) p → IsOfFailed report p
  of_task k t p c = elim (Contains-append_cases (failed_at report k t (negsuc 0)) _ p c) [
    | inl d ↦ of_place k t (negsuc 0) p d
    | inr d ↦ let one : _ = in_up_to (λ i. failed_at report k t (pos i)) (count_at report k t) p d in of_place k t (pos one.0) p one.2
  ]

  task_has : (k t : ℕ) (i : ℤ) → i <ℤ pos 2_147_483_648 → HasFailed report k t i → Contains (failed_of_task_in report k t) (at k t i)
  task_has k t (pos j) l (x, found, failed) =
      let small : j < 2_147_483_648 = omega (arith, ints, l) in
      Contains-append_right (failed_at report k t (negsuc 0)) _ (at k t (pos j))
      (up_to_has (λ i. failed_at report k t (pos i)) (count_at report k t) j (at k t (pos j)) (count_over (report_at report k t) j x found small)
      (failed_one (at k t (pos j)) (found_at report k t (pos j)) x found failed))
  task_has k t (negsuc zero) l (x, found, failed) =
      Contains-append_left (failed_at report k t (negsuc 0)) _ (at k t (negsuc 0)) (failed_one (at k t (negsuc 0)) (found_at report k t (negsuc 0)) x found failed)
  task_has k t (negsuc (suc n)) l (x, found, failed) = absurd (none_below (report_at report k t) n x found)

pub listed_failed : (dag : Dag) (intervals : List Interval) (report : Report) (runs tasks : ℕ) (places : List Place) → places ≡ up_to (failed_of_run report tasks) runs →
    runs ≡ length intervals → tasks ≡ length dag.tasks → AreFailed dag intervals report places
listed_failed dag intervals report runs tasks places are all_runs all_tasks = subst (AreFailed dag intervals report) (sym are) (record {
  each = λ p c.
      let run : _ = in_up_to (failed_of_run report tasks) runs p c in
      let task : _ = in_up_to (failed_of_task_in report run.0) tasks p run.2 in
      of_task report run.0 task.0 p task.2;
  all = λ k t i l m low failed.
      up_to_has (failed_of_run report tasks) runs k (at k t i) (omega (arith, l, all_runs))
      (up_to_has (failed_of_task_in report k) tasks t (at k t i) (omega (arith, m, all_tasks)) (task_has report k t i low failed));
})
