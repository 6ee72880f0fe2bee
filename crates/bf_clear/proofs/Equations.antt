-- That a report is one of a plan over data intervals is the same as a few equations.
use Rattle.std.proofs.Common.{◌≡◌, ◌⊎◌, inl, inr, ℕ, ◌==◌, ◌&&◌, ◌||◌, Bool, true, false, All, List, [], ◌∷◌, length, map, Option, None, Some, option_map, slice_get, refl, sym, ap, ◌∙◌, arith}
use Rattle.std.specs.Bool.{Decides}
use Rattle.std.specs.List.{list_all, zip}
use Rattle.std.specs.Ordering.{int_eq}
use Rattle.std.specs.Str.{bytes_eq}
use Rattle.std.proofs.lemmas.Bool.{and_parts, and_from}
use Rattle.std.proofs.lemmas.Bool.Decides.{Decides-eqb, Decides-int_eq}
use Rattle.std.proofs.lemmas.List.{length-map}
use Rattle.std.proofs.lemmas.List.Elements.{All-cons, All-head, All-nil, All-tail}
use Rattle.std.proofs.lemmas.Slice.Eq.{bytes_eq-Decides}
use Rattle.bf_interval.proofs.OneListing.{same_moment}
use Rattle.bf_interval.specs.declared.interval.Interval.{Interval}
use Rattle.bf_plan.specs.declared.plan.Dag.{Dag}
use Rattle.bf_plan.specs.declared.plan.Task.{Task}
use Rattle.bf_report.specs.declared.report.Version.{Version}
use Rattle.bf_report.specs.declared.report.Pull.{Pull}
use Rattle.bf_report.specs.declared.report.InstanceReport.{InstanceReport}
use Rattle.bf_report.specs.declared.report.TaskReport.{TaskReport}
use Rattle.bf_report.specs.declared.report.RunReport.{RunReport}
use Rattle.bf_report.specs.declared.report.Report.{Report}
use Rattle.bf_clear.specs.Matching.{HasPulls, MatchesPlan, are_ids_in, are_runs_in, are_tasks_in, has_id_in, has_pulls_in, ids_pulled, is_pull_in, is_report_in, is_run_in, is_same_interval_in, is_task_in}

-- ---- tests of lists

-- a test of each element decides what it decides of one
all_decides : {X : Type 0} (test : X → Bool) (P : X → Type 0) → ((x : X) → Decides (test x) (P x)) → (xs : List X) → Decides (list_all test xs) (All P xs)
all_decides test P each [] = (λ _. All-nil P, λ _. refl)
all_decides test P each (x ∷ xs) =
    let rest = all_decides test P each xs in (
      λ e. let parts = and_parts (test x) (list_all test xs) e in All-cons P x xs ((each x).0 parts.0) (rest.0 parts.1),
      λ all. and_from _ _ ((each x).1 (All-head P x xs all)) (rest.1 (All-tail P x xs all)),
    )

-- lists of one length whose elements look alike pair by pair look alike
alike_from : {A B C : Type 0} (f : A → C) (g : B → C) (xs : List A) (ys : List B) → length xs ≡ length ys → All (λ (p : A × B). f p.0 ≡ g p.1) (zip xs ys) → map f xs ≡ map g ys
alike_from f g [] [] len all = refl
alike_from f g [] (y ∷ ys) len all = absurd (omega (arith, len))
alike_from f g (x ∷ xs) [] len all = absurd (omega (arith, len))
alike_from {A} {B} f g (x ∷ xs) (y ∷ ys) len all =
    let first : f x ≡ g y = All-head (λ (p : A × B). f p.0 ≡ g p.1) (x, y) (zip xs ys) all in
    let rest : map f xs ≡ map g ys = alike_from f g xs ys (omega (arith, len)) (All-tail (λ (p : A × B). f p.0 ≡ g p.1) (x, y) (zip xs ys) all) in
    cc

alike_each : {A B C : Type 0} (f : A → C) (g : B → C) (xs : List A) (ys : List B) → map f xs ≡ map g ys → All (λ (p : A × B). f p.0 ≡ g p.1) (zip xs ys)
alike_each {A} {B} f g [] ys same = All-nil (λ (p : A × B). f p.0 ≡ g p.1)
alike_each {A} {B} f g (x ∷ xs) [] same = All-nil (λ (p : A × B). f p.0 ≡ g p.1)
alike_each {A} {B} f g (x ∷ xs) (y ∷ ys) same =
    let first : f x ≡ g y = cc in
    let rest : map f xs ≡ map g ys = cc in
    All-cons (λ (p : A × B). f p.0 ≡ g p.1) (x, y) (zip xs ys) first (alike_each f g xs ys rest)

alike_length : {A B C : Type 0} (f : A → C) (g : B → C) (xs : List A) (ys : List B) → map f xs ≡ map g ys → length xs ≡ length ys
alike_length f g xs ys same = sym (length-map xs f) ∙ ap length same ∙ length-map ys g

-- such a test decides that they look alike
alike_decides : {A B C : Type 0} (f : A → C) (g : B → C) (test : A → B → Bool) → ((x : A) (y : B) → Decides (test x y) (f x ≡ g y)) → (xs : List A) (ys : List B) →
    Decides ((length xs == length ys) && list_all (λ p. test p.0 p.1) (zip xs ys)) (map f xs ≡ map g ys)
alike_decides {A} {B} f g test each xs ys =
    let counts = Decides-eqb (length xs) (length ys) in
    let pairs = all_decides (λ (p : A × B). test p.0 p.1) (λ (p : A × B). f p.0 ≡ g p.1) (λ p. each p.0 p.1) (zip xs ys) in (
      λ e.
          let parts = and_parts (length xs == length ys) (list_all (λ p. test p.0 p.1) (zip xs ys)) e in
          alike_from f g xs ys (counts.0 parts.0) (pairs.0 parts.1),
      λ same. and_from _ _ (counts.1 (alike_length f g xs ys same)) (pairs.1 (alike_each f g xs ys same)),
    )

-- ---- ids and pulls

id_decides : (task : Option Task) (id : List ℕ) → Decides (has_id_in task id) (Some id ≡ option_map (λ (t : Task). t.id) task)
id_decides None id = (λ e. cc, λ e. cc)
id_decides (Some task) id =
    let bytes = bytes_eq-Decides id task.id in (
      λ e. ap Some (bytes.0 e),
      λ e. let same : id ≡ task.id = cc in bytes.1 same,
    )

ids_decide : (ids : List (List ℕ)) (tasks : List Task) → Decides (are_ids_in ids tasks) (ids ≡ map (λ (t : Task). t.id) tasks)
ids_decide ids tasks =
    let alike = alike_decides (λ (id : List ℕ). id) (λ (t : Task). t.id) (λ id task. has_id_in (Some task) id) (λ id task. bytes_eq-Decides id task.id) ids tasks in (
      λ e. sym (map_id ids) ∙ alike.0 e,
      λ same. alike.1 (map_id ids ∙ same),
    )
  where
    map_id : (xs : List (List ℕ)) → map (λ x. x) xs ≡ xs
    map_id [] = refl
    map_id (x ∷ xs) = ap (λ rest. x ∷ rest) (map_id xs)

pulls_decide : (dag : Dag) (task : Task) (instance : InstanceReport) → Decides (has_pulls_in dag task instance) (map (λ (pull : Pull). Some pull.task) instance.pulls ≡ ids_pulled dag task)
pulls_decide dag task instance =
    alike_decides (λ (pull : Pull). Some pull.task) (λ source. option_map (λ (t : Task). t.id) (slice_get dag.tasks source))
    (is_pull_in dag) (λ pull source. id_decides (slice_get dag.tasks source) pull.task) instance.pulls task.pulls

-- ---- tasks

task_decides : (dag : Dag) (report : TaskReport) (task : Task) → Decides (is_task_in Version.Two dag report task) (HasPulls dag report task)
task_decides dag TaskReport.NoStatus task = (λ _. All-nil _, λ _. refl)
task_decides dag TaskReport.Skipped task = (λ _. All-nil _, λ _. refl)
task_decides dag TaskReport.UpstreamFailed task = (λ _. All-nil _, λ _. refl)
task_decides dag (TaskReport.Ran instance) task =
    let pulls = pulls_decide dag task instance in (
      λ e. All-cons (Pulls dag task) instance [] (pulls.0 e) (All-nil (Pulls dag task)),
      λ all. pulls.1 (All-head (Pulls dag task) instance [] all),
    )
  where
    Pulls : Dag → Task → InstanceReport → Type 0
    Pulls dag task instance = map (λ (pull : Pull). Some pull.task) instance.pulls ≡ ids_pulled dag task
task_decides dag (TaskReport.Mapped instances) task = all_decides (has_pulls_in dag task) _ (pulls_decide dag task) instances

-- in version 1 each is one of its task
any_task : (dag : Dag) (reports : List TaskReport) (tasks : List Task) → list_all (λ p. is_task_in Version.One dag p.0 p.1) (zip reports tasks) ≡ true
any_task dag [] tasks = refl
any_task dag (report ∷ reports) [] = refl
any_task dag (report ∷ reports) (task ∷ tasks) = any_task dag reports tasks

-- the tasks of a run are those of the dag, and in version 2 with their pulls
pub record AreTasks (version : Version) (dag : Dag) (reports : List TaskReport) : Type 0 where
  pub size : length reports ≡ length dag.tasks
  pub pulls : version ≡ Version.Two → All (λ (pair : TaskReport × Task). HasPulls dag pair.0 pair.1) (zip reports dag.tasks)

tasks_decide : (version : Version) (dag : Dag) (reports : List TaskReport) → Decides (are_tasks_in version dag reports) (AreTasks version dag reports)
tasks_decide version dag reports = (from version, into version)
  where
    counts : Decides (length reports == length dag.tasks) (length reports ≡ length dag.tasks)
    counts = Decides-eqb (length reports) (length dag.tasks)

    pairs : Decides (list_all (λ p. is_task_in Version.Two dag p.0 p.1) (zip reports dag.tasks)) (All (λ (pair : TaskReport × Task). HasPulls dag pair.0 pair.1) (zip reports dag.tasks))
    pairs = all_decides (λ (p : TaskReport × Task). is_task_in Version.Two dag p.0 p.1) (λ p. HasPulls dag p.0 p.1) (λ p. task_decides dag p.0 p.1) (zip reports dag.tasks)

    from : (v : Version) → are_tasks_in v dag reports ≡ true → AreTasks v dag reports
    from Version.One e = record {
      size = counts.0 (and_parts (length reports == length dag.tasks) _ e).0;
      pulls = λ two. cc;
    }
    from Version.Two e =
        let parts = and_parts (length reports == length dag.tasks) (list_all (λ p. is_task_in Version.Two dag p.0 p.1) (zip reports dag.tasks)) e in
        record { size = counts.0 parts.0; pulls = λ _. pairs.0 parts.1 }

    into : (v : Version) → AreTasks v dag reports → are_tasks_in v dag reports ≡ true
    into Version.One are = and_from _ _ (counts.1 are.size) (any_task dag reports dag.tasks)
    into Version.Two are = and_from _ _ (counts.1 are.size) (pairs.1 (are.pulls refl))

-- ---- runs

interval_decides : (one other : Interval) → Decides (is_same_interval_in one other) (one ≡ other)
interval_decides one other =
    let start = Decides-int_eq one.start.nanosecond other.start.nanosecond in
    let end = Decides-int_eq one.end.nanosecond other.end.nanosecond in (
      λ e.
          let parts = and_parts (int_eq one.start.nanosecond other.start.nanosecond) (int_eq one.end.nanosecond other.end.nanosecond) e in
          let starts = same_moment one.start other.start (start.0 parts.0) in
          let ends = same_moment one.end other.end (end.0 parts.1) in
          λ k. record { start = starts k; end = ends k },
      λ same. and_from _ _ (start.1 (ap (λ (i : Interval). i.start.nanosecond) same)) (end.1 (ap (λ (i : Interval). i.end.nanosecond) same)),
    )

run_decides : (version : Version) (dag : Dag) (run : RunReport) (interval : Interval) → Decides (is_run_in version dag run interval) ((run.interval ≡ interval) × AreTasks version dag run.tasks)
run_decides version dag run interval =
    let same = interval_decides run.interval interval in
    let tasks = tasks_decide version dag run.tasks in (
      λ e. let parts = and_parts (is_same_interval_in run.interval interval) (are_tasks_in version dag run.tasks) e in (same.0 parts.0, tasks.0 parts.1),
      λ is. and_from _ _ (same.1 is.0) (tasks.1 is.1),
    )

-- each run is over its data interval, and has the tasks of the dag
pub record AreRuns (version : Version) (dag : Dag) (runs : List RunReport) (intervals : List Interval) : Type 0 where
  pub over : map (λ (run : RunReport). run.interval) runs ≡ intervals
  pub tasks : All (λ (run : RunReport). AreTasks version dag run.tasks) runs

runs_from : (version : Version) (dag : Dag) (runs : List RunReport) (intervals : List Interval) → length runs ≡ length intervals →
    list_all (λ p. is_run_in version dag p.0 p.1) (zip runs intervals) ≡ true → AreRuns version dag runs intervals
runs_from version dag [] [] len e = record { over = refl; tasks = All-nil _ }
runs_from version dag [] (interval ∷ intervals) len e = absurd (omega (arith, len))
runs_from version dag (run ∷ runs) [] len e = absurd (omega (arith, len))
runs_from version dag (run ∷ runs) (interval ∷ intervals) len e =
    let parts = and_parts (is_run_in version dag run interval) (list_all (λ p. is_run_in version dag p.0 p.1) (zip runs intervals)) e in
    let is = (run_decides version dag run interval).0 parts.0 in
    let rest = runs_from version dag runs intervals (omega (arith, len)) parts.1 in
    let first : run.interval ≡ interval = is.0 in
    let over : map (λ (run : RunReport). run.interval) runs ≡ intervals = rest.over in
    record { over = cc; tasks = All-cons (λ (run : RunReport). AreTasks version dag run.tasks) run runs is.1 rest.tasks }

runs_into : (version : Version) (dag : Dag) (runs : List RunReport) (intervals : List Interval) → AreRuns version dag runs intervals → are_runs_in version dag runs intervals ≡ true
runs_into version dag runs intervals are =
    and_from _ _ ((Decides-eqb (length runs) (length intervals)).1 (sym (length-map runs (λ (run : RunReport). run.interval)) ∙ ap length are.over)) (each runs intervals are)
  where
    each : (runs : List RunReport) (intervals : List Interval) → AreRuns version dag runs intervals → list_all (λ p. is_run_in version dag p.0 p.1) (zip runs intervals) ≡ true
    each [] intervals are = refl
    each (run ∷ runs) [] are = refl
    each (run ∷ runs) (interval ∷ intervals) are =
        let over : map (λ (run : RunReport). run.interval) (run ∷ runs) ≡ interval ∷ intervals = are.over in
        let first : run.interval ≡ interval = cc in
        let rest : map (λ (run : RunReport). run.interval) runs ≡ intervals = cc in
        let tasks = All-head (λ (run : RunReport). AreTasks version dag run.tasks) run runs are.tasks in
        and_from _ _ ((run_decides version dag run interval).1 (first, tasks))
        (each runs intervals (record { over = rest; tasks = All-tail (λ (run : RunReport). AreTasks version dag run.tasks) run runs are.tasks }))

-- ---- the report

ids_or_none : (ids : List (List ℕ)) (tasks : List Task) (intervals : List Interval) → Decides (length intervals == 0 || are_ids_in ids tasks) ((intervals ≡ []) ⊎ (ids ≡ map (λ (t : Task). t.id) tasks))
ids_or_none ids tasks [] = (λ _. inl refl, λ _. refl)
ids_or_none ids tasks (interval ∷ intervals) = (λ e. inr ((ids_decide ids tasks).0 (sym by_ids ∙ e)), λ is. by_ids ∙ go is)
  where
    some : (length (interval ∷ intervals) == 0) ≡ false
    some = grind (arith)

    by_ids : (length (interval ∷ intervals) == 0 || are_ids_in ids tasks) ≡ are_ids_in ids tasks
    by_ids = ap (λ none. none || are_ids_in ids tasks) some

    go : ((interval ∷ intervals ≡ []) ⊎ (ids ≡ map (λ (t : Task). t.id) tasks)) → are_ids_in ids tasks ≡ true
    go (inl none) = cc
    go (inr same) = (ids_decide ids tasks).1 same

pub matches_plan : (dag : Dag) (intervals : List Interval) (report : Report) → Decides (is_report_in dag intervals report) (MatchesPlan dag intervals report)
unfolding is_report_in
matches_plan dag intervals report = (from, into)
  where
    named : Decides (bytes_eq report.dag_id dag.id) (report.dag_id ≡ dag.id)
    named = bytes_eq-Decides report.dag_id dag.id

    ids : Decides (length intervals == 0 || are_ids_in report.tasks dag.tasks) ((intervals ≡ []) ⊎ (report.tasks ≡ map (λ (t : Task). t.id) dag.tasks))
    ids = ids_or_none report.tasks dag.tasks intervals

    from : is_report_in dag intervals report ≡ true → MatchesPlan dag intervals report
    from e =
        let outer = and_parts (bytes_eq report.dag_id dag.id) ((length intervals == 0 || are_ids_in report.tasks dag.tasks) && are_runs_in report.version dag report.runs intervals) e in
        let inner = and_parts (length intervals == 0 || are_ids_in report.tasks dag.tasks) (are_runs_in report.version dag report.runs intervals) outer.1 in
        let pairs = and_parts (length report.runs == length intervals) (list_all (λ p. is_run_in report.version dag p.0 p.1) (zip report.runs intervals)) inner.1 in
        let runs = runs_from report.version dag report.runs intervals ((Decides-eqb (length report.runs) (length intervals)).0 pairs.0) pairs.1 in
        record {
          dag_id = named.0 outer.0;
          ids = ids.0 inner.0;
          runs = runs.over;
          sizes = λ k d l. (runs.tasks k d l).size;
          pulls = λ two k d l. (runs.tasks k d l).pulls two;
        }

    into : MatchesPlan dag intervals report → is_report_in dag intervals report ≡ true
    into is =
        and_from _ _ (named.1 is.dag_id)
        (and_from _ _ (ids.1 is.ids)
        (runs_into report.version dag report.runs intervals
        (record { over = is.runs; tasks = λ k d l. record { size = is.sizes k d l; pulls = λ two. is.pulls two k d l } })))
