-- The report of a backfill is one of its plan over its data intervals.
use Rattle.std.proofs.Common.{◌≡◌, inl, inr, ℕ, suc, ◌<◌, ◌+◌, ◌==◌, ◌&&◌, ◌||◌, Bool, true, false, List, [], ◌∷◌, length, map, Option, Some, is_some, slice_get, refl, sym, ap, ◌∙◌, arith}
use Rattle.std.specs.List.{filter_map, list_all, zip}
use Rattle.std.specs.Ordering.{int_eq}
use Rattle.std.specs.Str.{bytes_eq}
use Rattle.std.specs.Cmp.Lexicographic.{bytes_decides}
use Rattle.std.proofs.Math.Bool.{or-true}
use Rattle.std.proofs.lemmas.Bool.{and_parts, and_from}
use Rattle.std.proofs.lemmas.Bool.Decides.{Decides-int_eq}
use Rattle.std.proofs.lemmas.List.{length-map}
use Rattle.std.proofs.lemmas.Option.{get_or_from_slice_get, slice_get-get_or}
use Rattle.bf_interval.specs.declared.interval.Interval.{Interval}
use Rattle.bf_plan.specs.declared.plan.Task.{Task}
use Rattle.bf_plan.specs.Plans.{no_task}
use Rattle.bf_core.specs.Terms.{Dag, Given, Ledger, TaskResult, Xval, IsOneOf, IsSettledAncestor, IsSound, result_of, task_of}
use Rattle.bf_core.specs.declared.decision.Decision.{Decision}
use Rattle.bf_core.specs.Recursion.{decided}
use Rattle.bf_core.specs.Agreement.{final_cell, finished_from}
use Rattle.bf_core.proofs.Confluence.{ancestor_in}
use Rattle.bf_core.proofs.Depth.{pick}
use Rattle.bf_report.specs.declared.report.Version.{Version}
use Rattle.bf_report.specs.declared.report.InstanceReport.{InstanceReport}
use Rattle.bf_report.specs.declared.report.RunReport.{RunReport}
use Rattle.bf_report.specs.declared.report.Report.{Report}
use Rattle.bf_report.specs.Dated.{pulls_in, instance_report, reported, reported_instance, reported_instances, cell_by, reports_from, ids_shown, AreDated, IsDated}
use Rattle.bf_report.proofs.DatedFacts.{length_reports_from}
use Rattle.bf_clear.specs.Matching.{has_id_in, are_ids_in, is_pull_in, has_pulls_in, is_task_in, are_tasks_in, is_same_interval_in, is_run_in, are_runs_in, is_report_in}
use Rattle.bf_clear.proofs.Told.{decided_pulled}

same_count : (m n : ℕ) → m ≡ n → (m == n) ≡ true
same_count m n e = grind (arith, e)

same_bytes : (b : List ℕ) → bytes_eq b b ≡ true
same_bytes b = (bytes_decides b b).1 refl

same_moment : (n : _) → int_eq n n ≡ true
same_moment n = (Decides-int_eq n n).1 refl

pub same_interval : (i : Interval) → is_same_interval_in i i ≡ true
same_interval i = and_from _ _ (same_moment i.start.nanosecond) (same_moment i.end.nanosecond)

-- ---- ids

each_id : (tasks : List Task) → list_all (λ p. has_id_in (Some p.1) p.0) (zip (map (λ task. task.id) tasks) tasks) ≡ true
each_id [] = refl
each_id (task ∷ tasks) = and_from _ _ (same_bytes task.id) (each_id tasks)

ids_are : (tasks : List Task) → are_ids_in (map (λ task. task.id) tasks) tasks ≡ true
ids_are tasks = and_from _ _ (same_count _ _ (length-map tasks (λ (task : Task). task.id))) (each_id tasks)

own_ids_are_shown : (dag : Dag) (intervals : List Interval) → (length intervals == 0 || are_ids_in (ids_shown dag intervals) dag.tasks) ≡ true
own_ids_are_shown dag [] = refl
own_ids_are_shown dag (interval ∷ intervals) = rw (ids_are dag.tasks) (or-true (length (interval ∷ intervals) == 0))

-- ---- pulls

-- a task pulls from tasks of the graph
pub pull_in : (dag : Dag) → IsSound dag → (t p : ℕ) → IsOneOf (task_of dag t).pulls p → p < length dag.tasks
pull_in dag sound t p one = ancestor_in dag sound t p (pick (IsSettledAncestor dag t) (task_of dag t).pulls p (sound.pulls_settled t) one)

pull_is : (dag : Dag) (p : ℕ) → p < length dag.tasks → has_id_in (slice_get dag.tasks p) (task_of dag p).id ≡ true
unfolding task_of
pull_is dag p l = ap (λ o. has_id_in o (task_of dag p).id) (slice_get-get_or dag.tasks p no_task l) ∙ same_bytes (task_of dag p).id

each_pull : (dag : Dag) (f : ℕ → Option Xval) (ps : List ℕ) → ((p : ℕ) → IsOneOf ps p → p < length dag.tasks) → list_all (λ q. is_pull_in dag q.0 q.1) (zip (pulls_in dag ps (map f ps)) ps) ≡ true
each_pull dag f [] low = refl
each_pull dag f (p ∷ ps) low = and_from _ _ (pull_is dag p (low p (inl refl))) (each_pull dag f ps (λ q one. low q (inr one)))

pulls_len : (dag : Dag) (f : ℕ → Option Xval) (ps : List ℕ) → length (pulls_in dag ps (map f ps)) ≡ length ps
pulls_len dag f [] = refl
pulls_len dag f (p ∷ ps) = ap suc (pulls_len dag f ps)

has_pulls : (dag : Dag) → IsSound dag → (t : ℕ) (f : ℕ → Option Xval) (g : Given) (r : TaskResult) → g.pulled ≡ map f (task_of dag t).pulls → has_pulls_in dag (task_of dag t) (instance_report dag t g r) ≡ true
has_pulls dag sound t f g r same =
    ap (λ vs. (length (pulls_in dag (task_of dag t).pulls vs) == length (task_of dag t).pulls) && list_all (λ q. is_pull_in dag q.0 q.1) (zip (pulls_in dag (task_of dag t).pulls vs) (task_of dag t).pulls)) same
    ∙ and_from _ _ (same_count _ _ (pulls_len dag f (task_of dag t).pulls)) (each_pull dag f (task_of dag t).pulls (pull_in dag sound t))

-- ---- tasks

each_instance : (dag : Dag) (t : ℕ) (f : ℕ → TaskResult) (from : ℕ) (gs : List Given) → ((i : ℕ) (g : Given) (r : TaskResult) → slice_get gs i ≡ Some g → has_pulls_in dag (task_of dag t) (instance_report dag t g r) ≡ true) →
    list_all (has_pulls_in dag (task_of dag t)) (filter_map (reported_instance dag t) (finished_from f from gs)) ≡ true
each_instance dag t f from [] has = refl
each_instance dag t f from (g ∷ gs) has = and_from _ _ (has 0 g (record { outcome = (f from).outcome; tries = (f from).tries }) refl) (each_instance dag t f (suc from) gs (λ i h r e. has (suc i) h r e))

by_kind : (dag : Dag) (task : Task) (b : Bool) (xs : List InstanceReport) → list_all (has_pulls_in dag task) xs ≡ true → is_task_in Version.Two dag (reported_instances b xs) task ≡ true
by_kind dag task true xs all = all
by_kind dag task false [] all = refl
by_kind dag task false (x ∷ xs) all = (and_parts (has_pulls_in dag task x) (list_all (has_pulls_in dag task) xs) all).0

task_is : (dag : Dag) → IsSound dag → (ledger : Ledger) (k t : ℕ) → is_task_in Version.Two dag (reported dag t (cell_by dag ledger k t)) (task_of dag t) ≡ true
unfolding cell_by
task_is dag sound ledger k t = go (decided dag ledger k t) refl
  where
    go : (d : Decision) → decided dag ledger k t ≡ d → is_task_in Version.Two dag (reported dag t (final_cell d (result_of dag ledger k t))) (task_of dag t) ≡ true
    go Decision.Wait e = refl
    go Decision.Blocked e = refl
    go Decision.Skipped e = refl
    go Decision.UpstreamFailed e = refl
    go (Decision.Instances gs) e =
        by_kind dag (task_of dag t) (is_some (task_of dag t).expand) _
        (each_instance dag t (result_of dag ledger k t) 0 gs (λ i g r h. has_pulls dag sound t _ g r (decided_pulled dag ledger k t gs e i g h)))

each_task : (dag : Dag) → IsSound dag → (ledger : Ledger) (k from : ℕ) (tasks : List Task) → ((i : ℕ) (task : Task) → slice_get tasks i ≡ Some task → task ≡ task_of dag (from + i)) →
    list_all (λ p. is_task_in Version.Two dag p.0 p.1) (zip (reports_from dag (cell_by dag ledger k) from tasks) tasks) ≡ true
each_task dag sound ledger k from [] is = refl
each_task dag sound ledger k from (task ∷ tasks) is =
    let at : from + 0 ≡ from = omega arith in
    let same : task ≡ task_of dag from = is 0 task refl ∙ ap (task_of dag) at in
    and_from _ _ (ap (is_task_in Version.Two dag (reported dag from (cell_by dag ledger k from))) same ∙ task_is dag sound ledger k from)
    (each_task dag sound ledger k (suc from) tasks (λ i other e. let next : from + suc i ≡ suc from + i = omega arith in is (suc i) other e ∙ ap (task_of dag) next))

tasks_are : (dag : Dag) → IsSound dag → (ledger : Ledger) (k : ℕ) → are_tasks_in Version.Two dag (reports_from dag (cell_by dag ledger k) 0 dag.tasks) ≡ true
unfolding task_of
tasks_are dag sound ledger k =
    and_from _ _ (same_count _ _ (length_reports_from dag (cell_by dag ledger k) 0 dag.tasks))
    (each_task dag sound ledger k 0 dag.tasks (λ i task e. let at : i ≡ 0 + i = omega arith in sym (get_or_from_slice_get dag.tasks i task no_task e) ∙ ap (task_of dag) at))

-- ---- runs

runs_len : (dag : Dag) (ledger : Ledger) (from : ℕ) (intervals : List Interval) (runs : List RunReport) → AreDated dag ledger from intervals runs → length runs ≡ length intervals
runs_len dag ledger from [] [] are = refl
runs_len dag ledger from [] (r ∷ rs) are = absurd are
runs_len dag ledger from (i ∷ is) [] are = absurd are
runs_len dag ledger from (i ∷ is) (r ∷ rs) are = ap suc (runs_len dag ledger (suc from) is rs are.3)

each_run : (dag : Dag) → IsSound dag → (ledger : Ledger) (from : ℕ) (intervals : List Interval) (runs : List RunReport) → AreDated dag ledger from intervals runs →
    list_all (λ p. is_run_in Version.Two dag p.0 p.1) (zip runs intervals) ≡ true
each_run dag sound ledger from [] [] are = refl
each_run dag sound ledger from [] (r ∷ rs) are = absurd are
each_run dag sound ledger from (i ∷ is) [] are = absurd are
each_run dag sound ledger from (i ∷ is) (r ∷ rs) are =
    and_from _ _
    (and_from _ _ (ap (λ j. is_same_interval_in j i) are.0 ∙ same_interval i) (ap (are_tasks_in Version.Two dag) are.2 ∙ tasks_are dag sound ledger from))
    (each_run dag sound ledger (suc from) is rs are.3)

pub own_report : (dag : Dag) → IsSound dag → (intervals : List Interval) (ledger : Ledger) (report : Report) → IsDated dag intervals ledger report → is_report_in dag intervals report ≡ true
unfolding is_report_in
own_report dag sound intervals ledger report is =
    and_from _ _ (ap (λ b. bytes_eq b dag.id) is.dag_id ∙ same_bytes dag.id)
    (and_from _ _ (ap (λ ids. length intervals == 0 || are_ids_in ids dag.tasks) is.tasks ∙ own_ids_are_shown dag intervals)
    (ap (λ v. are_runs_in v dag report.runs intervals) is.version ∙ and_from _ _ (same_count _ _ (runs_len dag ledger 0 intervals report.runs is.runs)) (each_run dag sound ledger 0 intervals report.runs is.runs)))
