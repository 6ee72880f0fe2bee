-- A report of a backfill that has ended keeps the rules of a report.
use Rattle.std.proofs.Common.{◌≡◌, ◌≢◌, ◌<◌, ◌≤◌, ◌+◌, ℕ, zero, suc, ◌<ℤ◌, Bool, true, false, not, nat_lt, List, [], ◌∷◌, length, map, get_or, slice_index_or, Option, None, Some, is_some, refl, sym, ap, ◌∙◌, subst, arith, inl, inr}
use Rattle.std.specs.Prelude.{All, AllPairs}
use Rattle.std.specs.List.{AllByRecursion, filter_map}
use Rattle.std.proofs.lemmas.Bool.{cases_Bool}
use Rattle.std.proofs.lemmas.Bool.Decides.{nat_tests}
use Rattle.std.proofs.lemmas.List.{length-map}
use Rattle.bf_value.specs.declared.xval.Xval.{Xval}
use Rattle.bf_plan.specs.Ids.{is_id_in}
use Rattle.bf_value.specs.Distinct.{AreDistinct}
use Rattle.bf_interval.specs.declared.interval.Interval.{Interval}
use Rattle.bf_interval.specs.Runs.{AreOfRuns, IsOfRun}
use Rattle.bf_plan.specs.declared.plan.Task.{Task}
use Rattle.bf_plan.specs.declared.plan.Dag.{Dag}
use Rattle.bf_plan.specs.Plans.{task_of, no_task}
use Rattle.bf_plan.specs.Sound.{IsSound as IsSoundDag}
use Rattle.bf_xcom.specs.declared.values.Given.{Given}
use Rattle.bf_xcom.specs.declared.values.TaskResult.{TaskResult}
use Rattle.bf_xcom.specs.declared.values.TaskValue.{TaskValue}
use Rattle.bf_try.specs.Tries.{Ledger, result_of}
use Rattle.bf_core.specs.declared.event.Event.{Event}
use Rattle.bf_core.specs.declared.state.State.{State}
use Rattle.bf_core.specs.declared.state.Cell.{Cell}
use Rattle.bf_core.specs.declared.state.Instance.{Instance}
use Rattle.bf_core.specs.Terms.{Limits}
use Rattle.bf_core.specs.declared.decision.Decision.{Decision}
use Rattle.bf_core.specs.Deciding.{settled, instances_of, pull_seen}
use Rattle.bf_core.specs.Recursion.{out, decided}
use Rattle.bf_core.specs.Events.{cell_at, entry_in}
use Rattle.bf_core.specs.Agreement.{IsOutcome, final_cell, finished_from}
use Rattle.bf_core.specs.Cores.{IsJournal}
use Rattle.bf_core.specs.Few.{AreFew, AreFitting, IsFew, IsFitting, HasFitting}
use Rattle.bf_report.specs.declared.report.Version.{Version}
use Rattle.bf_report.specs.declared.report.Pull.{Pull}
use Rattle.bf_report.specs.declared.report.InstanceReport.{InstanceReport}
use Rattle.bf_report.specs.declared.report.TaskReport.{TaskReport}
use Rattle.bf_report.specs.declared.report.RunReport.{RunReport}
use Rattle.bf_report.specs.declared.report.Report.{Report}
use Rattle.bf_report.specs.Dated.{pulls_in, instance_report, reported_instance, reported_instances, reported, reports_from, cell_by, AreDated, IsDated, ids_shown}
use Rattle.bf_report.specs.Values.{IsSoundValue, AreSoundPulls, IsSoundInstance, IsSoundTask, AreSoundTasks, HasSoundValues}
use Rattle.bf_report.proofs.DatedFacts.{pulls_in_range, length_reports_from}
use Rattle.bf_report_reader.specs.Entries.{IsTries}
use Rattle.bf_report_reader.specs.Parts.{IsToldPull}
use Rattle.bf_report_reader.specs.Beginning.{has_item}
use Rattle.bf_report_reader.specs.Rules.{MayHaveItem, AreToldPulls, IsShownInstance, IsShownTask, IsShownRun, IsShownReport, Rise}
use Rattle.bf_report_reader.specs.Runs.{IsRunInterval}
use Rattle.bf_plan.specs.Sound.{IsNamed}
use Rattle.bf_report_reader.proofs.Given.{FitsValue, told_value, pulled_told}
use Rattle.bf_report_reader.proofs.EndedFacts.{run_interval, shown_outcome, tries_are, length_finished_from, some_in_run, journal_keeps, out_fits, IsGivenItem, IsGivenSo, given_in_run}

-- ---- pulls

-- the ids of tasks by their numbers
id_at : (tasks : List Task) (p : ℕ) (d : List ℕ) → p < length tasks → get_or (map (λ (task : Task). task.id) tasks) p d ≡ (slice_index_or tasks p no_task).id
id_at [] p d l = absurd (omega (arith, l))
id_at (task ∷ tasks) zero d l = refl
id_at (task ∷ tasks) (suc p) d l = id_at tasks p d (omega (arith, l))

id_of : (tasks : List Task) (p : ℕ) → AllByRecursion (λ id. is_id_in id ≡ true) (map (λ (task : Task). task.id) tasks) → p < length tasks → is_id_in (slice_index_or tasks p no_task).id ≡ true
id_of [] p named l = absurd (omega (arith, l))
id_of (task ∷ tasks) zero named l = named.0
id_of (task ∷ tasks) (suc p) named l = id_of tasks p named.1 (omega (arith, l))

same_task : (tasks : List Task) (p q : ℕ) → AreDistinct (map (λ (task : Task). task.id) tasks) → p < length tasks → q < length tasks → (slice_index_or tasks p no_task).id ≡ (slice_index_or tasks q no_task).id → p ≡ q
same_task tasks p q distinct l m same =
    let ids : List (List ℕ) = map (λ (task : Task). task.id) tasks in
    let size : length ids ≡ length tasks = length-map tasks (λ (task : Task). task.id) in
    elim (cases_Bool (nat_lt p q)) [
      | inl is ↦ absurd (distinct p q [] (grind (arith, nat_tests, is)) (omega (arith, m, size)) (id_at tasks p [] l ∙ same ∙ sym (id_at tasks q [] m)))
      | inr not_is ↦ elim (cases_Bool (nat_lt q p)) [
        | inl is ↦ absurd (distinct q p [] (grind (arith, nat_tests, is)) (omega (arith, l, size)) (id_at tasks q [] m ∙ sym same ∙ sym (id_at tasks p [] l)))
        | inr too ↦ grind (arith, nat_tests, not_is, too)
      ]
    ]

-- the value of a pull from each of these
abbrev pull_each : Dag → (ℕ → TaskValue) → List ℕ → List (Option Xval)
pull_each dag value ps = map (pull_seen dag (λ u. settled (value u))) ps

pull_ids : (dag : Dag) (value : ℕ → TaskValue) (ps : List ℕ) → map (λ (p : Pull). p.task) (pulls_in dag ps (pull_each dag value ps)) ≡ map (λ p. (task_of dag p).id) ps
pull_ids dag value [] = refl
pull_ids dag value (p ∷ ps) = ap (λ ids. (task_of dag p).id ∷ ids) (pull_ids dag value ps)

pull_count : (dag : Dag) (value : ℕ → TaskValue) (ps : List ℕ) → length (pulls_in dag ps (pull_each dag value ps)) ≡ length ps
pull_count dag value [] = refl
pull_count dag value (p ∷ ps) = ap suc (pull_count dag value ps)

pull_at : (dag : Dag) (ps : List ℕ) (i : ℕ) (d : List ℕ) → i < length ps → get_or (map (λ p. (task_of dag p).id) ps) i d ≡ (task_of dag (get_or ps i 0)).id
pull_at dag [] i d l = absurd (omega (arith, l))
pull_at dag (p ∷ ps) zero d l = refl
pull_at dag (p ∷ ps) (suc i) d l = pull_at dag ps i d (omega (arith, l))

distinct_pulls : (dag : Dag) → IsNamed dag → (ps : List ℕ) → All (λ p. p < length dag.tasks) ps → AllPairs (λ p q. p ≢ q) ps → AreDistinct (map (λ p. (task_of dag p).id) ps)
unfolding task_of
distinct_pulls dag named ps within distinct i j d l m = λ same.
    let size : length (map (λ p. (task_of dag p).id) ps) ≡ length ps = length-map ps (λ p. (task_of dag p).id) in
    let k : j < length ps = omega (arith, m, size) in
    let first : i < length ps = omega (arith, l, k) in
    distinct i j 0 l k (same_task dag.tasks (get_or ps i 0) (get_or ps j 0) named.distinct (within i 0 first) (within j 0 k) (sym (pull_at dag ps i d first) ∙ same ∙ pull_at dag ps j d k))

pulls_each : (dag : Dag) → IsNamed dag → (value : ℕ → TaskValue) → ((u : ℕ) → u < length dag.tasks → FitsValue dag u (value u)) → (ps : List ℕ) → All (λ p. p < length dag.tasks) ps → AreSoundPulls (pulls_in dag ps (pull_each dag value ps))
    → AllByRecursion IsToldPull (pulls_in dag ps (pull_each dag value ps))
unfolding task_of
pulls_each dag named value fit [] within sound = tt
pulls_each dag named value fit (p ∷ ps) within sound =
    let here : p < length dag.tasks = within 0 0 (omega arith) in
    ((id_of dag.tasks p named.ids here, pulled_told dag p (value p) (fit p here) sound.0), pulls_each dag named value fit ps (λ i d l. within (suc i) d (omega (arith, l))) sound.1)

pulls_shown : (dag : Dag) → IsNamed dag → (value : ℕ → TaskValue) → ((u : ℕ) → u < length dag.tasks → FitsValue dag u (value u)) → (ps : List ℕ) → length ps ≤ 16 → AllPairs (λ p q. p ≢ q) ps → All (λ p. p < length dag.tasks) ps
    → AreSoundPulls (pulls_in dag ps (pull_each dag value ps)) → AreToldPulls Version.Two (pulls_in dag ps (pull_each dag value ps))
pulls_shown dag named value fit ps few distinct within sound = record {
  few = omega (arith, few, pull_count dag value ps);
  distinct = subst AreDistinct (sym (pull_ids dag value ps)) (distinct_pulls dag named ps within distinct);
  each = pulls_each dag named value fit ps within sound;
}

-- ---- instances

item_told : (expanded : Bool) (item : Option Xval) → IsGivenItem expanded item → IsSoundValue item → MayHaveItem expanded item
item_told expanded None given sound = tt
item_told expanded (Some x) given sound = (given.0, told_value 64 65_536 x (omega arith) sound given.1)

item_there : (expanded : Bool) (item : Option Xval) → IsGivenItem expanded item → has_item expanded item ≡ true
item_there expanded None given = ap not given
item_there expanded (Some x) given = refl

-- the instances of a task that are made with these Given
abbrev reports_by : Dag → ℕ → (ℕ → TaskResult) → ℕ → List Given → List InstanceReport
reports_by dag t result i [] = []
reports_by dag t result i (g ∷ gs) = instance_report dag t g (record { outcome = (result i).outcome; tries = (result i).tries }) ∷ reports_by dag t result (suc i) gs

finished_reports : (dag : Dag) (t : ℕ) (result : ℕ → TaskResult) (i : ℕ) (gs : List Given) → filter_map (reported_instance dag t) (finished_from result i gs) ≡ reports_by dag t result i gs
finished_reports dag t result i [] = refl
finished_reports dag t result i (g ∷ gs) =
    ap (λ xs. instance_report dag t g (record { outcome = (result i).outcome; tries = (result i).tries }) ∷ xs) (finished_reports dag t result (suc i) gs)

length_reports_by : (dag : Dag) (t : ℕ) (result : ℕ → TaskResult) (i : ℕ) (gs : List Given) → length (reports_by dag t result i gs) ≡ length gs
length_reports_by dag t result i [] = refl
length_reports_by dag t result i (g ∷ gs) = ap suc (length_reports_by dag t result (suc i) gs)

-- an instance that may be shown, where its values are sound
abbrev MayBeShown : Bool → InstanceReport → Type 0
MayBeShown expanded x = IsSoundInstance x → IsShownInstance Version.Two expanded x

instances_shown : (dag : Dag) (t : ℕ) (expanded : Bool) (pulls : List (Option Xval)) → (AreSoundPulls (pulls_in dag (task_of dag t).pulls pulls) → AreToldPulls Version.Two (pulls_in dag (task_of dag t).pulls pulls))
    → (result : ℕ → TaskResult) → ((i : ℕ) → IsTries (result i).tries) → (i : ℕ) (gs : List Given) → AllByRecursion (λ (x : Instance). IsFitting dag t x.phase) (finished_from result i gs) → AllByRecursion (IsGivenSo expanded pulls) gs
    → AllByRecursion (MayBeShown expanded) (reports_by dag t result i gs)
instances_shown dag t expanded pulls told result tries i [] fit given = tt
instances_shown dag t expanded pulls told result tries i (g ∷ gs) fit given =
    let P : List (Option Xval) → Type 0 = λ vs. AreSoundPulls (pulls_in dag (task_of dag t).pulls vs) → AreToldPulls Version.Two (pulls_in dag (task_of dag t).pulls vs) in (
      λ sound. record {
        result = record { tries = tries i; outcome = shown_outcome dag t (result i).outcome sound.outcome fit.0 };
        item = item_told expanded g.item given.0.item sound.item;
        complete = item_there expanded g.item given.0.item;
        pulls = subst P (sym given.0.pulled) told sound.pulls;
      },
      instances_shown dag t expanded pulls told result tries (suc i) gs fit.1 given.1,
    )

-- ---- tasks

all_shown : (expanded : Bool) (xs : List InstanceReport) → AllByRecursion (MayBeShown expanded) xs → AllByRecursion IsSoundInstance xs → AllByRecursion (IsShownInstance Version.Two expanded) xs
all_shown expanded [] may sound = tt
all_shown expanded (x ∷ xs) may sound = (may.0 sound.0, all_shown expanded xs may.1 sound.1)

reported_shown : (expanded : Bool) (xs : List InstanceReport) → AllByRecursion (MayBeShown expanded) xs → length xs ≤ 1_024 → (expanded ≡ true → 1 ≤ length xs) → IsSoundTask (reported_instances expanded xs) → IsShownTask Version.Two (reported_instances expanded xs)
reported_shown true xs may few some sound = (some refl, few, all_shown true xs may sound)
reported_shown false [] may few some sound = tt
reported_shown false (x ∷ xs) may few some sound = may.0 sound

-- a task that is reported by its cell
abbrev IsReadBack : Dag → ℕ → Cell → Type 0
IsReadBack dag t c = IsSoundTask (reported dag t c) → IsShownTask Version.Two (reported dag t c)

read_back_decided : (dag : Dag) (t : ℕ) (result : ℕ → TaskResult) (d : Decision) (pulls : List (Option Xval)) → (AreSoundPulls (pulls_in dag (task_of dag t).pulls pulls) → AreToldPulls Version.Two (pulls_in dag (task_of dag t).pulls pulls))
    → ((i : ℕ) → IsTries (result i).tries) → ((gs : List Given) → d ≡ Decision.Instances gs → AllByRecursion (IsGivenSo (is_some (task_of dag t).expand) pulls) gs)
    → ((gs : List Given) → d ≡ Decision.Instances gs → is_some (task_of dag t).expand ≡ true → 1 ≤ length gs) → IsFew (final_cell d result) → HasFitting dag t (final_cell d result) → IsReadBack dag t (final_cell d result)
read_back_decided dag t result Decision.Wait pulls told tries given some few fit = λ sound. tt
read_back_decided dag t result Decision.Blocked pulls told tries given some few fit = λ sound. tt
read_back_decided dag t result Decision.Skipped pulls told tries given some few fit = λ sound. tt
read_back_decided dag t result Decision.UpstreamFailed pulls told tries given some few fit = λ sound. tt
read_back_decided dag t result (Decision.Instances gs) pulls told tries given some few fit =
    let expanded : Bool = is_some (task_of dag t).expand in
    let P : List InstanceReport → Type 0 = λ xs. IsSoundTask (reported_instances expanded xs) → IsShownTask Version.Two (reported_instances expanded xs) in
    subst P (sym (finished_reports dag t result 0 gs))
    (reported_shown expanded (reports_by dag t result 0 gs) (instances_shown dag t expanded pulls told result tries 0 gs fit (given gs refl))
    (omega (arith, few, length_reports_by dag t result 0 gs, length_finished_from result 0 gs)) (λ e. omega (arith, length_reports_by dag t result 0 gs, some gs refl e)))

task_read_back : (dag : Dag) → IsSoundDag dag → IsNamed dag → (runs : ℕ) (s : State) → IsOutcome dag runs s → AreFew s → AreFitting dag s → (k t : ℕ) → k < runs → t < length dag.tasks
    → IsReadBack dag t (cell_by dag (entry_in s.ledger) k t)
unfolding cell_by
task_read_back dag sound named runs s is few fit k t l m =
    let ledger = entry_in s.ledger in
    let result = result_of dag ledger k t in
    let value = out dag ledger k in
    let ps : List ℕ = (task_of dag t).pulls in
    let fits_in : (u : ℕ) → u < length dag.tasks → FitsValue dag u (value u) = λ u below. out_fits dag sound runs s is few fit k u l below in
    let cell : cell_at s k t ≡ final_cell (decided dag ledger k t) result = is.cells k t l m in
    let F : Cell → Type 0 = λ c. HasFitting dag t c in
    read_back_decided dag t result (decided dag ledger k t) (pull_each dag value ps) (pulls_shown dag named value fits_in ps (sound.few_pulls t) (sound.distinct_pulls t) (pulls_in_range dag sound t))
    (λ i. tries_are dag ledger k t i (sound.few_retries t))
    (λ gs e. given_in_run dag ledger k t gs (λ source is_source. fits_in source (sound.in_range t source (sound.source_is_upstream t source is_source))) e)
    (some_in_run dag ledger k t) (subst IsFew cell (few k t)) (subst F cell (fit k t))

-- ---- runs

tasks_shown : (dag : Dag) (cell : ℕ → Cell) (t : ℕ) (tasks : List Task) → ((u : ℕ) → t ≤ u → u < t + length tasks → IsReadBack dag u (cell u)) → AllByRecursion IsSoundTask (reports_from dag cell t tasks)
    → AllByRecursion (IsShownTask Version.Two) (reports_from dag cell t tasks)
tasks_shown dag cell t [] each sound = tt
tasks_shown dag cell t (task ∷ tasks) each sound =
    (each t (omega arith) (omega arith) sound.0, tasks_shown dag cell (suc t) tasks (λ u low high. each u (omega (arith, low)) (omega (arith, high))) sound.1)

-- each task of the runs from k on is read back
abbrev AreReadBack : Dag → Ledger → ℕ → ℕ → Type 0
AreReadBack dag ledger k runs = (j t : ℕ) → k ≤ j → j < k + runs → t < length dag.tasks → IsReadBack dag t (cell_by dag ledger j t)

runs_shown : (dag : Dag) (ledger : Ledger) (k : ℕ) (intervals : List Interval) (runs : List RunReport) → All IsOfRun intervals → AreReadBack dag ledger k (length intervals) → AreDated dag ledger k intervals runs → AllByRecursion (λ (r : RunReport). AreSoundTasks r.tasks) runs
    → AllByRecursion (IsShownRun Version.Two (length dag.tasks)) runs
runs_shown dag ledger k [] [] each back dated sound = tt
runs_shown dag ledger k [] (r ∷ rs) each back dated sound = absurd dated
runs_shown dag ledger k (i ∷ is) [] each back dated sound = absurd dated
runs_shown dag ledger k (i ∷ is) (r ∷ rs) each back (interval, state, tasks, more) sound =
    let cell = cell_by dag ledger k in
    let A : List TaskReport → Type 0 = λ ts. AllByRecursion IsSoundTask ts in
    let B : List TaskReport → Type 0 = λ ts. AllByRecursion (IsShownTask Version.Two) ts in (
      record {
        interval = subst IsRunInterval (sym interval) (run_interval i (each 0 i (omega arith)));
        each = subst B (sym tasks) (tasks_shown dag cell 0 dag.tasks (λ u low high. back k u (omega arith) (omega arith) (omega (arith, high))) (subst A tasks sound.0));
        all = ap length tasks ∙ length_reports_from dag cell 0 dag.tasks;
      },
      runs_shown dag ledger (suc k) is rs (λ j d l. each (suc j) d (omega arith)) (λ j t low high l. back j t (omega arith) (omega arith) l) more sound.1,
    )

length_dated : (dag : Dag) (ledger : Ledger) (k : ℕ) (intervals : List Interval) (runs : List RunReport) → AreDated dag ledger k intervals runs → length runs ≡ length intervals
length_dated dag ledger k [] [] dated = refl
length_dated dag ledger k [] (r ∷ rs) dated = absurd dated
length_dated dag ledger k (i ∷ is) [] dated = absurd dated
length_dated dag ledger k (i ∷ is) (r ∷ rs) dated = ap suc (length_dated dag ledger (suc k) is rs dated.3)

starts_rise : (dag : Dag) (ledger : Ledger) (k : ℕ) (intervals : List Interval) (runs : List RunReport) → AllPairs (λ i j. i.start.nanosecond <ℤ j.start.nanosecond) intervals → AreDated dag ledger k intervals runs → Rise runs
starts_rise dag ledger k [] [] rising dated = tt
starts_rise dag ledger k [] (r ∷ rs) rising dated = absurd dated
starts_rise dag ledger k (i ∷ is) [] rising dated = absurd dated
starts_rise dag ledger k (i ∷ []) (r ∷ []) rising dated = tt
starts_rise dag ledger k (i ∷ []) (r ∷ q ∷ rs) rising dated = absurd dated.3
starts_rise dag ledger k (i ∷ j ∷ is) (r ∷ []) rising dated = absurd dated.3
starts_rise dag ledger k (i ∷ j ∷ is) (r ∷ q ∷ rs) rising dated =
    let first : i.start.nanosecond <ℤ j.start.nanosecond = rising 0 1 i (omega arith) (omega arith) in
    let P : Interval → Interval → Type 0 = λ x y. x.start.nanosecond <ℤ y.start.nanosecond in
    (subst (λ y. P r.interval y) (sym dated.3.0) (subst (λ x. P x j) (sym dated.0) first), starts_rise dag ledger (suc k) (j ∷ is) (q ∷ rs) (λ m n d l h. rising (suc m) (suc n) d (omega arith) (omega arith)) dated.3)

-- ---- reports

none_without_runs : (dag : Dag) (ledger : Ledger) (intervals : List Interval) (runs : List RunReport) → AreDated dag ledger 0 intervals runs → runs ≡ [] → ids_shown dag intervals ≡ []
none_without_runs dag ledger [] runs dated none = refl
none_without_runs dag ledger (i ∷ is) [] dated none = absurd dated
none_without_runs dag ledger (i ∷ is) (r ∷ rs) dated none = absurd (cc none)

-- the ids that a report shows
record AreShownIds (dag : Dag) (ids : List (List ℕ)) : Type 0 where
  named : AllByRecursion (λ id. is_id_in id ≡ true) ids
  distinct : AreDistinct ids
  few : length ids ≤ 2_000

ids_are_shown : (dag : Dag) (intervals : List Interval) → IsNamed dag → length dag.tasks ≤ 2_000 → AreShownIds dag (ids_shown dag intervals)
ids_are_shown dag [] is few = record { named = tt; distinct = λ i j d h k. absurd (omega (arith, k)); few = omega arith }
ids_are_shown dag (i ∷ is) named few = record { named = named.ids; distinct = named.distinct; few = omega (arith, length-map dag.tasks (λ (task : Task). task.id), few) }

each_of_ids : (dag : Dag) (ledger : Ledger) (intervals : List Interval) (runs : List RunReport) → AreDated dag ledger 0 intervals runs → AllByRecursion (IsShownRun Version.Two (length dag.tasks)) runs → AllByRecursion (IsShownRun Version.Two (length (ids_shown dag intervals))) runs
each_of_ids dag ledger [] [] dated each = tt
each_of_ids dag ledger [] (r ∷ rs) dated each = absurd dated
each_of_ids dag ledger (i ∷ is) runs dated each =
    let P : ℕ → Type 0 = λ n. AllByRecursion (IsShownRun Version.Two n) runs in
    subst P (sym (length-map dag.tasks (λ (task : Task). task.id))) each

pub written_reports_are_shown : (dag : Dag) → IsSoundDag dag → IsNamed dag → (intervals : List Interval) → AreOfRuns intervals → (limits : Limits) (journal : List Event) (s : State) → IsJournal dag limits (length intervals) journal s
    → IsOutcome dag (length intervals) s → (report : Report) → IsDated dag intervals (entry_in s.ledger) report → HasSoundValues report → IsShownReport report
written_reports_are_shown dag sound named intervals are limits journal s by is report dated values =
    let ledger = entry_in s.ledger in
    let (few, fit) = journal_keeps dag limits (length intervals) journal s by in
    let back : AreReadBack dag ledger 0 (length intervals) = λ j t low high l. task_read_back dag sound named (length intervals) s is few fit j t (omega arith) l in
    let ids = ids_are_shown dag intervals named sound.few_tasks in
    let runs = each_of_ids dag ledger intervals report.runs dated.runs (runs_shown dag ledger 0 intervals report.runs are.each back dated.runs values) in
    let I : List (List ℕ) → Type 0 = λ x. AllByRecursion (λ id. is_id_in id ≡ true) x in
    let R : List (List ℕ) → Type 0 = λ x. AllByRecursion (IsShownRun Version.Two (length x)) report.runs in
    let V : Version → Type 0 = λ v. AllByRecursion (IsShownRun v (length report.tasks)) report.runs in
    record {
      dag_id = ap is_id_in dated.dag_id ∙ named.dag_id;
      ids = subst I (sym dated.tasks) ids.named;
      distinct = subst AreDistinct (sym dated.tasks) ids.distinct;
      few_tasks = omega (arith, ap length dated.tasks, ids.few);
      runs = subst V (sym dated.version) (subst R (sym dated.tasks) runs);
      few_runs = omega (arith, length_dated dag ledger 0 intervals report.runs dated.runs, are.few);
      rise = starts_rise dag ledger 0 intervals report.runs are.rising dated.runs;
      known = λ none. dated.tasks ∙ none_without_runs dag ledger intervals report.runs dated.runs none;
    }
