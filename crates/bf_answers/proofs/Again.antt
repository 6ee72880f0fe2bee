-- Over the table of a report its tries end as they did.
use Rattle.std.proofs.Common.{◌≡◌, ℕ, zero, suc, ◌<◌, ◌==◌, ◌&&◌, nat_lt, if◌then◌else◌, Bool, true, false, List, [], ◌∷◌, Option, Some, None, option_map, option_and_then, ℤ, pos, negsuc, length, map, find, slice_get, slice_index_or, refl, sym, ap, ap₂, ◌∙◌, subst, arith}
use Rattle.std.specs.FinMap as finite
use Rattle.std.specs.List.{AllByRecursion}
use Rattle.std.proofs.lemmas.List.{length-map}
use Rattle.std.proofs.lemmas.Option.{slice_get_within}
use Rattle.std.proofs.lemmas.Str.{IsUtf8-nil}
use Rattle.bf_value.specs.Json.{json_of}
use Rattle.bf_value.specs.Names.{name_cmp}
use Rattle.bf_value.specs.declared.name.JobName.{JobName}
use Rattle.bf_moment.specs.Moment.{moment_text, IsShown, IsWhole}
use Rattle.bf_interval.specs.declared.interval.Interval.{Interval}
use Rattle.bf_plan.specs.declared.plan.Dag.{Dag}
use Rattle.bf_plan.specs.declared.plan.Task.{Task}
use Rattle.bf_plan.specs.Plans.{no_task, task_of}
use Rattle.bf_plan.specs.Sound.{IsSound}
use Rattle.bf_xcom.specs.declared.values.Given.{Given}
use Rattle.bf_xcom.specs.declared.values.Outcome.{Outcome}
use Rattle.bf_xcom.specs.declared.values.Outcome.TheVariants.{Success, Failed, Skipped}
use Rattle.bf_xcom.specs.declared.values.TaskResult.{TaskResult}
use Rattle.bf_try.specs.declared.ledger.Entry.{Entry}
use Rattle.bf_try.specs.Grades.{fits_in, grade_of}
use Rattle.bf_try.specs.Tries.{AreAlike, Ledger}
use Rattle.bf_try.proofs.GradeLemmas.{success_graded, failed_answered, skipped_answered}
use Rattle.bf_table.specs.Tables.{answer_of, answers_for_in, dates_in, raw_in}
use Rattle.bf_core.specs.Agreement.{HoldsItsTries}
use Rattle.bf_core.specs.Answered.{AreGraded}
use Rattle.bf_core.proofs.Confluence.{tries_same}
use Rattle.bf_report.specs.declared.report.InstanceReport.{InstanceReport}
use Rattle.bf_report.specs.declared.report.TaskReport.{TaskReport}
use Rattle.bf_report.specs.declared.report.RunReport.{RunReport}
use Rattle.bf_report.specs.declared.report.Report.{Report}
use Rattle.bf_report.specs.declared.report.Version.{Version}
use Rattle.bf_report.specs.Dated.{AreDated, IsDated, ids_shown}
use Rattle.bf_report.proofs.DatedFacts.{dated_once}
use Rattle.bf_report_reader.specs.Entries.{IsShownOutcome, IsShownResult}
use Rattle.bf_report_reader.specs.Rules.{IsShownInstance, IsShownReport, IsShownTask}
use Rattle.bf_kept.specs.Kept.{AreFit}
use Rattle.bf_clear.specs.Entries.{entry_by, entry_of_try, found_at, given_by, instance_in, outcome_of_try_in, told}
use Rattle.bf_clear.proofs.Told.{told_is}
use Rattle.bf_answers.specs.Answers.{answers_in, entries_for}
use Rattle.bf_answers.specs.Over.{answering, MayAnswer}
use Rattle.bf_answers.proofs.Found.{first_of}
use Rattle.bf_answers.proofs.Finding.{answer_found, shown_at}

-- ---- the grade of an entry

entry_graded : (dag : Dag) (t : ℕ) (run id : List ℕ) (index : ℤ) (attempt : ℕ) (outcome : Outcome) → IsShownOutcome outcome → fits_in dag t outcome ≡ true
    → grade_of dag t (raw_in (first_of (entries_for run id index attempt outcome))) ≡ outcome
entry_graded dag t run id index attempt (Success None) shown fit = success_graded dag t None [] IsUtf8-nil (λ _. refl) fit
entry_graded dag t run id index attempt (Success (Some value)) shown fit = success_graded dag t (Some value) (json_of value) shown.utf8 (λ _. shown.pushed) fit
entry_graded dag t run id index attempt Failed shown fit = failed_answered Failed _ [] refl refl dag t
entry_graded dag t run id index attempt Skipped shown fit = skipped_answered Skipped _ [] refl refl dag t

-- ---- what is told is shown

tries_shown : (result : TaskResult) → IsShownResult result → (attempt : ℕ) (outcome : Outcome) → outcome_of_try_in result attempt ≡ Some outcome → IsShownOutcome outcome
tries_shown result shown attempt outcome e = by (attempt == result.tries) (nat_lt 0 attempt && nat_lt attempt result.tries) e
  where
    by : (b c : Bool) → (if b then Some result.outcome else (if c then Some Outcome.Failed else None)) ≡ Some outcome → IsShownOutcome outcome
    by true c h = let same : result.outcome ≡ outcome = cc in subst IsShownOutcome same shown.outcome
    by false true h = let same : Outcome.Failed ≡ outcome = cc in subst IsShownOutcome same tt
    by false false h = cc

all_at : {X : Type 0} (P : X → Type 0) (xs : List X) → AllByRecursion P xs → (i : ℕ) (x : X) → slice_get xs i ≡ Some x → P x
all_at P [] h i x e = cc
all_at P (y ∷ ys) h zero x e = let same : y ≡ x = cc in subst P same h.0
all_at P (y ∷ ys) h (suc i) x e = all_at P ys h.1 i x e

instance_shown : (version : Version) (task : TaskReport) → IsShownTask version task → (index : ℤ) (x : InstanceReport) → instance_in task index ≡ Some x → IsShownResult x.result
instance_shown version TaskReport.NoStatus shown index x e = cc
instance_shown version TaskReport.Skipped shown index x e = cc
instance_shown version TaskReport.UpstreamFailed shown index x e = cc
instance_shown version (TaskReport.Ran y) shown (negsuc zero) x e = let same : y ≡ x = cc in subst (λ (x : InstanceReport). IsShownResult x.result) same shown.result
instance_shown version (TaskReport.Ran y) shown (negsuc (suc k)) x e = cc
instance_shown version (TaskReport.Ran y) shown (pos k) x e = cc
instance_shown version (TaskReport.Mapped ys) shown (pos k) x e = (all_at (IsShownInstance version true) ys shown.2 k x e).result
instance_shown version (TaskReport.Mapped ys) shown (negsuc k) x e = cc

-- where an instance stands
record IsAt (report : Report) (k t : ℕ) (index : ℤ) (x : InstanceReport) : Type 0 where
  run : RunReport
  is_run : slice_get report.runs k ≡ Some run
  task : TaskReport
  is_task : slice_get run.tasks t ≡ Some task
  is_instance : instance_in task index ≡ Some x

at_place : (report : Report) (k t : ℕ) (index : ℤ) (x : InstanceReport) → found_at report k t index ≡ Some x → IsAt report k t index x
at_place report k t index x e = by_run (slice_get report.runs k) refl e
  where
    by_task : (run : RunReport) → slice_get report.runs k ≡ Some run → (o : Option TaskReport) → slice_get run.tasks t ≡ o → option_and_then (λ told. instance_in told index) o ≡ Some x → IsAt report k t index x
    by_task run is None also h = cc
    by_task run is (Some task) also h = record { run = run; is_run = is; task = task; is_task = also; is_instance = h }

    by_run : (o : Option RunReport) → slice_get report.runs k ≡ o → option_and_then (λ told. instance_in told index) (option_and_then (λ r. slice_get r.tasks t) o) ≡ Some x → IsAt report k t index x
    by_run None is h = cc
    by_run (Some run) is h = by_task run is (slice_get run.tasks t) refl h

-- ---- the try that is asked for

date_at : (runs : List RunReport) (k : ℕ) (run : RunReport) → slice_get runs k ≡ Some run
    → slice_index_or (dates_in (map (λ (i : Interval). i.start) (map (λ (r : RunReport). r.interval) runs))) k [] ≡ moment_text run.interval.start.nanosecond
date_at [] k run e = cc
date_at (r ∷ rs) zero run e = let same : r ≡ run = cc in ap (λ (r : RunReport). moment_text r.interval.start.nanosecond) same
date_at (r ∷ rs) (suc k) run e = date_at rs k run e

id_at : (tasks : List Task) (t : ℕ) → t < length tasks → slice_get (map (λ (task : Task). task.id) tasks) t ≡ Some (slice_index_or tasks t no_task).id
id_at [] t low = absurd (omega (arith, low))
id_at (task ∷ tasks) zero low = refl
id_at (task ∷ tasks) (suc t) low = id_at tasks t (omega (arith, low))

module _ (differ : (m n : ℤ) → IsShown m → IsShown n → IsWhole m → IsWhole n → moment_text m ≡ moment_text n → m ≡ n) (dag : Dag) (intervals : List Interval) (report : Report) (shown : IsShownReport report)
    (ids : report.tasks ≡ map (λ task. task.id) dag.tasks) (over : map (λ run. run.interval) report.runs ≡ intervals) where
  pub told_graded : (name : JobName) (x : InstanceReport) (outcome : Outcome) → found_at report name.run name.task name.index ≡ Some x → outcome_of_try_in x.result name.attempt ≡ Some outcome
      → fits_in dag name.task outcome ≡ true → grade_of dag name.task (answer_of (answering dag intervals report) name) ≡ outcome
  unfolding answer_of task_of
  told_graded name x outcome found e fit =
      let at = at_place report name.run name.task name.index x found in
      let run_shown = shown_at report.version (length report.tasks) report.runs shown.runs name.run at.run at.is_run in
      let task_shown = all_at (IsShownTask report.version) at.run.tasks run_shown.each name.task at.task at.is_task in
      let outcome_shown = tries_shown x.result (instance_shown report.version at.task task_shown name.index x at.is_instance) name.attempt outcome e in
      let low : name.task < length dag.tasks = omega (arith, slice_get_within at.run.tasks name.task at.task at.is_task, run_shown.all, ap length ids, length-map dag.tasks (λ (task : Task). task.id)) in
      let id = (slice_index_or dag.tasks name.task no_task).id in
      let is_id : slice_get report.tasks name.task ≡ Some id = ap (λ l. slice_get l name.task) ids ∙ id_at dag.tasks name.task low in
      let date = moment_text at.run.interval.start.nanosecond in
      let is_date = ap (λ is. slice_index_or (dates_in (map (λ (i : Interval). i.start) is)) name.run []) (sym over) ∙ date_at report.runs name.run at.run at.is_run in
      ap (λ o. grade_of dag name.task (raw_in o))
      (ap (λ d. find (answers_for_in id d name) (answers_in report)) is_date ∙ answer_found differ report shown name id at.run x outcome at.is_run is_id found e)
      ∙ entry_graded dag name.task date id name.index name.attempt outcome outcome_shown fit

-- ---- two backfills

told_parts : (version : Version) (worked : Option Given) (m : Option InstanceReport) (attempt : ℕ) (entry : Entry) → entry_by version worked m attempt ≡ Some entry
    → (x : InstanceReport) × (m ≡ Some x) × (outcome_of_try_in x.result attempt ≡ Some entry.outcome)
told_parts version worked None attempt entry e = cc
told_parts version worked (Some x) attempt entry e = (x, refl, by_given (given_by version worked x) e)
  where
    by_outcome : (given : Given) (o : Option Outcome) → outcome_of_try_in x.result attempt ≡ o → option_map (λ outcome. record { given = given; outcome = outcome }) o ≡ Some entry → outcome_of_try_in x.result attempt ≡ Some entry.outcome
    by_outcome given None is h = cc
    by_outcome given (Some outcome) is h = let same : ◌≡◌ {A = Entry} (record { given = given; outcome = outcome }) entry = cc in is ∙ ap (λ (e : Entry). Some e.outcome) same

    by_given : (given : Option Given) → entry_of_try x.result attempt given ≡ Some entry → outcome_of_try_in x.result attempt ≡ Some entry.outcome
    by_given None h = cc
    by_given (Some given) h = by_outcome given (outcome_of_try_in x.result attempt) refl h

over_intervals : (dag : Dag) (ledger : Ledger) (from : ℕ) (intervals : List Interval) (runs : List RunReport) → AreDated dag ledger from intervals runs → map (λ (r : RunReport). r.interval) runs ≡ intervals
over_intervals dag ledger from [] [] are = refl
over_intervals dag ledger from [] (r ∷ rs) are = absurd are
over_intervals dag ledger from (i ∷ is) [] are = absurd are
over_intervals dag ledger from (i ∷ is) (r ∷ rs) are = ap₂ (λ x xs. x ∷ xs) are.0 (over_intervals dag ledger (suc from) is rs are.3)

ids_where_runs : (dag : Dag) (intervals : List Interval) (k : ℕ) → k < length intervals → ids_shown dag intervals ≡ map (λ task. task.id) dag.tasks
ids_where_runs dag [] k low = absurd (omega (arith, low))
ids_where_runs dag (i ∷ is) k low = refl

module _ (differ : (m n : ℤ) → IsShown m → IsShown n → IsWhole m → IsWhole n → moment_text m ≡ moment_text n → m ≡ n) (dag : Dag) (sound : IsSound dag) (intervals : List Interval) (was again : finite.FinMap name_cmp Entry)
    (holds : HoldsItsTries dag (length intervals) (finite.get was)) (fit : AreFit dag (finite.get was)) (also : HoldsItsTries dag (length intervals) (finite.get again))
    (report : Report) (dated : IsDated dag intervals (finite.get was) report) (shown : IsShownReport report) (graded : AreGraded (MayAnswer dag intervals report) dag (finite.get again)) where
  alike : AreAlike (finite.get was) (finite.get again)
  unfolding told
  alike name entry same e f given =
      let parts = told_parts report.version _ _ name.attempt entry (told_is dag intervals (finite.get was) holds report dated name ∙ e) in
      let ids = dated.tasks ∙ ids_where_runs dag intervals name.run (holds.asked name entry e).0 in
      let over = over_intervals dag (finite.get was) 0 intervals report.runs dated.runs in
      let raw = graded name same f in
      sym (raw.2 ∙ ap (grade_of dag name.task) raw.1 ∙ told_graded differ dag intervals report shown ids over name parts.0 entry.outcome parts.1 parts.2 (fit name entry e))

  pub made_again : (other : Report) → IsDated dag intervals (finite.get again) other → other ≡ report
  made_again other is =
      let same : was ≡ again = tries_same dag sound _ was again holds also alike in
      sym (dated_once dag intervals (finite.get again) report other (subst (λ l. IsDated dag intervals (finite.get l) report) same dated) is)
