-- Of the report of a backfill, what is told by ids and data intervals is what it tells of the runs over the same ones.
use Rattle.std.proofs.Common.{◌≡◌, ◌<◌, ◌<ℤ◌, ℕ, zero, suc, ℤ, Bool, true, false, List, [], ◌∷◌, length, map, get_or, slice_get, nat_lt, cond, Option, Some, None, option_and_then, option_map, AllPairs, refl, sym, ap, ◌∙◌, subst, arith}
use Rattle.std.specs.List.{find, position, position_or_len}
use Rattle.std.specs.Str.{bytes_eq}
use Rattle.std.proofs.lemmas.Bool.Decides.{nat_tests}
use Rattle.std.proofs.lemmas.Int.{ints}
use Rattle.std.proofs.lemmas.List.{get_or-map, length-map}
use Rattle.std.proofs.lemmas.List.Sums.{position_or_len_is}
use Rattle.std.proofs.lemmas.Option.{get_or_from_slice_get, slice_get-get_or, slice_get-map, slice_get_past, slice_get_within}
use Rattle.std.proofs.lemmas.Slice.Eq.{bytes_eq-Decides}
use Rattle.bf_value.specs.Distinct.{AreDistinct}
use Rattle.bf_interval.specs.declared.interval.Interval.{Interval}
use Rattle.bf_interval.specs.Runs.{AreOfRuns}
use Rattle.bf_plan.specs.declared.plan.Task.{Task}
use Rattle.bf_plan.specs.Plans.{no_task}
use Rattle.bf_plan.specs.Sound.{IsNamed}
use Rattle.bf_plan.proofs.PlanLemmas.{own_place}
use Rattle.bf_core.specs.Terms.{Dag, Given, JobName, Ledger}
use Rattle.bf_core.specs.Agreement.{HoldsItsTries}
use Rattle.bf_report.specs.declared.report.Version.{Version}
use Rattle.bf_report.specs.declared.report.InstanceReport.{InstanceReport}
use Rattle.bf_report.specs.declared.report.TaskReport.{TaskReport}
use Rattle.bf_report.specs.declared.report.RunReport.{RunReport}
use Rattle.bf_report.specs.declared.report.Report.{Report}
use Rattle.bf_report.specs.Dated.{AreDated, IsDated, cell_by, ids_shown}
use Rattle.bf_report.proofs.DatedFacts.{length_reports_from}
use Rattle.bf_clear.specs.Aligning.{AreAligned, IsAligned, is_over, tasks_at, tasks_in, tasks_told, told_at}
use Rattle.bf_clear.specs.Entries.{entry_by, found_at, instance_in, report_at, told, given_by_values_in}
use Rattle.bf_clear.specs.Matching.{is_same_interval_in}
use Rattle.bf_clear.proofs.Aligned.{over_one}
use Rattle.bf_clear.proofs.Own.{same_interval}
use Rattle.bf_clear.proofs.Told.{told_is}

-- ---- runs

module _ (dag : Dag) (ledger : Ledger) where
  -- the run in a place is over the data interval there
  dated_at : (from : ℕ) (intervals : List Interval) (runs : List RunReport) → AreDated dag ledger from intervals runs → (j : ℕ) (interval : Interval) → slice_get intervals j ≡ Some interval
      → (run : RunReport) × (slice_get runs j ≡ Some run) × (length run.tasks ≡ length dag.tasks)
  dated_at from [] runs are j interval e = cc
  dated_at from (i ∷ is) [] are j interval e = absurd are
  dated_at from (i ∷ is) (r ∷ rs) are zero interval e = (r, refl, ap length are.2 ∙ length_reports_from dag (cell_by dag ledger from) 0 dag.tasks)
  dated_at from (i ∷ is) (r ∷ rs) are (suc j) interval e = dated_at (suc from) is rs are.3 j interval e

  -- and none before it is
  first_over : (from : ℕ) (intervals : List Interval) (runs : List RunReport) → AreDated dag ledger from intervals runs → AllPairs (λ i later. i.start.nanosecond <ℤ later.start.nanosecond) intervals
      → (j : ℕ) (interval : Interval) (run : RunReport) → slice_get intervals j ≡ Some interval → slice_get runs j ≡ Some run → find (is_over interval) runs ≡ Some run
  first_over from [] runs are rising j interval run e f = cc
  first_over from (i ∷ is) [] are rising j interval run e f = absurd are
  first_over from (i ∷ is) (r ∷ rs) are rising zero interval run e f =
      let same : i ≡ interval = cc in
      let over : is_over interval r ≡ true = ap (λ (x : Interval). is_same_interval_in x interval) (are.0 ∙ same) ∙ same_interval interval in
      rw over f
  first_over from (i ∷ is) (r ∷ rs) are rising (suc j) interval run e f =
      let low : j < length is = slice_get_within is j interval e in
      let later : i.start.nanosecond <ℤ interval.start.nanosecond =
      subst (λ (x : Interval). i.start.nanosecond <ℤ x.start.nanosecond) (get_or_from_slice_get is j interval interval e) (rising 0 (suc j) interval (omega arith) (omega (arith, low))) in
      let here : is_over i r ≡ true = ap (λ (x : Interval). is_same_interval_in x i) are.0 ∙ same_interval i in
      let gone : is_over interval r ≡ false = over_one r i interval here (λ same. omega (arith, ints, later, same)) in
      rw gone (first_over (suc from) is rs are.3 (λ a b d lt within. rising (suc a) (suc b) d (omega (arith, lt)) (omega (arith, within))) j interval run e f)

aligned_at : (dag : Dag) (told : Report) (intervals : List Interval) (runs : List RunReport) → AreAligned dag told intervals runs → (k : ℕ) (interval : Interval) → slice_get intervals k ≡ Some interval
    → (run : RunReport) × (slice_get runs k ≡ Some run) × (run.tasks ≡ tasks_told dag told.tasks (tasks_at told.runs interval))
aligned_at dag told [] runs are k interval e = cc
aligned_at dag told (i ∷ is) [] are k interval e = absurd are
aligned_at dag told (i ∷ is) (r ∷ rs) are zero interval e =
    let same : i ≡ interval = cc in
    (r, refl, are.1 ∙ ap (λ (x : Interval). tasks_told dag told.tasks (tasks_at told.runs x)) same)
aligned_at dag told (i ∷ is) (r ∷ rs) are (suc k) interval e = aligned_at dag told is rs are.2 k interval e

ids_are_shown : (dag : Dag) (intervals : List Interval) (j : ℕ) (interval : Interval) → slice_get intervals j ≡ Some interval → ids_shown dag intervals ≡ map (λ task. task.id) dag.tasks
ids_are_shown dag [] j interval e = cc
ids_are_shown dag (i ∷ is) j interval e = refl

-- ---- tasks

same_tasks : (dag : Dag) → IsNamed dag → (tasks : List TaskReport) → length tasks ≡ length dag.tasks → (t : ℕ) → slice_get (tasks_told dag (map (λ task. task.id) dag.tasks) tasks) t ≡ slice_get tasks t
same_tasks dag named tasks long t = by (nat_lt t (length dag.tasks)) refl
  where
    ids : List (List ℕ)
    ids = map (λ task. task.id) dag.tasks

    at : Task → TaskReport
    at task = told_at tasks (position (bytes_eq task.id) ids)

    by : (b : Bool) → nat_lt t (length dag.tasks) ≡ b → slice_get (map at dag.tasks) t ≡ slice_get tasks t
    by true e =
        let low : t < length dag.tasks = grind (arith, nat_tests) in
        let below : t < length tasks = omega (arith, low, long) in
        let here : slice_get tasks t ≡ Some (get_or tasks t TaskReport.NoStatus) = slice_get-get_or tasks t TaskReport.NoStatus below in
        slice_get-map at dag.tasks t ∙ (ap (option_map at) (slice_get-get_or dag.tasks t no_task low)
        ∙ (ap (λ place. Some (told_at tasks place)) (own_place dag.tasks named.distinct t low) ∙ rw here refl))
    by false e =
        slice_get-map at dag.tasks t ∙ (ap (option_map at) (slice_get_past dag.tasks t (grind (arith, nat_tests))) ∙ sym (slice_get_past tasks t (grind (arith, nat_tests, long))))

-- ---- entries

-- in version 2 nothing is worked out
entry_told : (worked other : Option Given) (found : Option InstanceReport) (attempt : ℕ) → entry_by Version.Two worked found attempt ≡ entry_by Version.Two other found attempt
entry_told worked other None attempt = refl
entry_told worked other (Some instance) attempt = refl

same_entry : (one two : Version) → one ≡ Version.Two → two ≡ Version.Two → (worked other : Option Given) (found there : Option InstanceReport) → found ≡ there → (attempt : ℕ)
    → entry_by one worked found attempt ≡ entry_by two other there attempt
same_entry one two first second worked other found there same attempt =
    (λ k. entry_by (first k) worked (same k) attempt) ∙ (entry_told worked other there attempt ∙ ap (λ v. entry_by v other there attempt) (sym second))

module _ (dag : Dag) (named : IsNamed dag) (before intervals : List Interval) (of_runs : AreOfRuns before) (ledger : Ledger) (report aligned : Report) (dated : IsDated dag before ledger report)
    (is : IsAligned dag intervals report aligned) (interval : Interval) (j k : ℕ) (at : slice_get before j ≡ Some interval) (there : slice_get intervals k ≡ Some interval) where
  same_report : (t : ℕ) → report_at aligned k t ≡ report_at report j t
  same_report t =
      let run = dated_at dag ledger 0 before report.runs dated.runs j interval at in
      let now = aligned_at dag report intervals aligned.runs is.runs k interval there in
      let tasks : tasks_at report.runs interval ≡ run.0.tasks = ap tasks_in (first_over dag ledger 0 before report.runs dated.runs of_runs.rising j interval run.0 at run.1) in
      let ids : report.tasks ≡ map (λ task. task.id) dag.tasks = dated.tasks ∙ ids_are_shown dag before j interval at in
      let told : now.0.tasks ≡ tasks_told dag (map (λ task. task.id) dag.tasks) run.0.tasks = now.2 ∙ (λ i. tasks_told dag (ids i) (tasks i)) in
      ap (option_and_then (λ (r : RunReport). slice_get r.tasks t)) now.1
      ∙ (ap (λ (ts : List TaskReport). slice_get ts t) told ∙ (same_tasks dag named run.0.tasks run.2 t ∙ sym (ap (option_and_then (λ (r : RunReport). slice_get r.tasks t)) run.1)))

  same_found : (t : ℕ) (index : ℤ) → found_at aligned k t index ≡ found_at report j t index
  same_found t index = ap (option_and_then (λ (told : TaskReport). instance_in told index)) (same_report t)

pub kept_tells : (dag : Dag) → IsNamed dag → (before intervals : List Interval) → AreOfRuns before → (ledger : Ledger) → HoldsItsTries dag (length before) ledger → (report aligned : Report)
    → IsDated dag before ledger report → IsAligned dag intervals report aligned → (interval : Interval) (j : ℕ) (n : JobName) → slice_get before j ≡ Some interval → slice_get intervals n.run ≡ Some interval
    → told dag aligned n ≡ ledger (record n { run = j })
unfolding told
kept_tells dag named before intervals of_runs ledger holds report aligned dated is interval j n at there =
    same_entry aligned.version report.version (is.version ∙ dated.version) dated.version (given_by_values_in dag aligned n.run n.task n.index) (given_by_values_in dag report j n.task n.index) _ _
    (same_found dag named before intervals of_runs ledger report aligned dated is interval j n.run at there n.task n.index) n.attempt
    ∙ told_is dag before ledger holds report dated (record n { run = j })
