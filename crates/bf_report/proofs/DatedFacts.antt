-- Reports of pulls, of tasks and of runs, one after another.
use Rattle.std.proofs.Common.{◌≡◌, ◌<◌, ◌+◌, ℕ, suc, List, [], ◌∷◌, ◌++◌, Option, Some, length, take, drop, refl, sym, ap, ap₂, ◌∙◌, arith, append_assoc, add-one, drop-cons, get_or, length-take}
use Rattle.std.specs.List.{All, AllByRecursion, filter_map}
use Rattle.std.proofs.lemmas.List.{take_more, take-append-drop}
use Rattle.std.proofs.lemmas.List.Elements.{All-from_recursion, All-weaker, filter_map-append}
use Rattle.std.proofs.Props.{props}
use mathlib.Core.HLevel.{is_prop→PathP}
use Rattle.bf_value.specs.declared.xval.Xval.{Xval}
use Rattle.bf_interval.specs.declared.interval.Interval.{Interval}
use Rattle.bf_plan.specs.declared.plan.Task.{Task}
use Rattle.bf_plan.specs.declared.plan.Dag.{Dag}
use Rattle.bf_plan.specs.Plans.{no_task, task_of}
use Rattle.bf_plan.specs.Sound.{IsSound, IsSettledAncestor}
use Rattle.bf_try.specs.Tries.{Ledger}
use Rattle.bf_core.specs.declared.state.Cell.{Cell}
use Rattle.bf_core.specs.declared.state.State.{State}
use Rattle.bf_core.specs.Recursion.{out, run_state_of}
use Rattle.bf_core.specs.Events.{cell_at, entry_in}
use Rattle.bf_core.specs.Agreement.{IsOutcome}
use Rattle.bf_core.proofs.Confluence.{ancestor_in}
use Rattle.bf_mapped.proofs.FilterLemmas.{one_more}
use Rattle.bf_moment.specs.Moment.{IsShown}
use Rattle.bf_report.specs.declared.report.TaskReport.{TaskReport}
use Rattle.bf_report.specs.declared.report.RunReport.{RunReport}
use Rattle.bf_report.specs.declared.report.Report.{Report}
use Rattle.bf_report.specs.Dated.{pulls_in, reported, reports_from, cell_by, AreDated, IsDated}

-- what holds of each and of one more
pub all_more : {X : Type 0} (P : X → Type 0) (xs : List X) (x : X) → AllByRecursion P xs → P x → AllByRecursion P (xs ++ x ∷ [])
all_more P [] x all one = (one, tt)
all_more P (y ∷ ys) x all one = (all.0, all_more P ys x all.1 one)

-- the first item of which something is given gives what comes first of all
pub first_given : {X Y : Type 0} (h : X → Option Y) (xs : List X) (i : ℕ) (x : X) (y : Y) → i < length xs → x ≡ get_or xs i x → h x ≡ Some y → [] ≡ filter_map h (take i xs) → y ∷ filter_map h (drop (i + 1) xs) ≡ filter_map h xs
first_given h xs i x y within is gives none =
    ap (λ ys. ys ++ filter_map h (drop (i + 1) xs)) (one_more h xs i x y [] within is gives none)
    ∙ sym (filter_map-append h (take (i + 1) xs) (drop (i + 1) xs)) ∙ ap (filter_map h) (take-append-drop (i + 1) xs)

-- ---- pulls

-- a task pulls from tasks of the graph
pub pulls_in_range : (dag : Dag) → IsSound dag → (t : ℕ) → All (λ p. p < length dag.tasks) (task_of dag t).pulls
pulls_in_range dag sound t =
    let pulls : List ℕ = (task_of dag t).pulls in
    All-weaker (IsSettledAncestor dag t) (λ p. p < length dag.tasks) (ancestor_in dag sound t) pulls
    (All-from_recursion (IsSettledAncestor dag t) pulls (sound.pulls_settled t))

pub no_pulls : (dag : Dag) (ps : List ℕ) (vs : List (Option Xval)) → length ps ≡ 0 → pulls_in dag ps vs ≡ []
no_pulls dag [] vs e = refl
no_pulls dag (p ∷ ps) vs e = absurd (omega arith)

pub no_values : (dag : Dag) (ps : List ℕ) (vs : List (Option Xval)) → length vs ≡ 0 → pulls_in dag ps vs ≡ []
no_values dag [] vs e = refl
no_values dag (p ∷ ps) [] e = refl
no_values dag (p ∷ ps) (v ∷ vs) e = absurd (omega arith)

-- ---- tasks

-- one more task is reported
pub one_reported : (dag : Dag) (cell : ℕ → Cell) (tasks : List Task) (t : ℕ) (found : List TaskReport) (r : TaskReport) → t < length tasks → r ≡ reported dag t (cell t) →
    (found ++ r ∷ []) ++ reports_from dag cell (t + 1) (drop (t + 1) tasks) ≡ found ++ reports_from dag cell t (drop t tasks)
one_reported dag cell tasks t found r l is =
    append_assoc found (r ∷ []) (reports_from dag cell (t + 1) (drop (t + 1) tasks))
    ∙ ap (λ rs. found ++ rs) (rw add-one (ap (λ x. x ∷ reports_from dag cell (suc t) (drop (suc t) tasks)) is ∙ ap (reports_from dag cell t) (sym (drop-cons tasks t no_task l))))

reports_cong : (dag : Dag) (cell other : ℕ → Cell) (from : ℕ) (tasks : List Task) → ((t : ℕ) → t < from + length tasks → cell t ≡ other t) → reports_from dag cell from tasks ≡ reports_from dag other from tasks
reports_cong dag cell other from [] same = refl
reports_cong dag cell other from (task ∷ tasks) same =
    ap₂ (λ r rs. r ∷ rs) (ap (reported dag from) (same from (omega arith))) (reports_cong dag cell other (suc from) tasks (λ t l. same t (omega arith)))

-- the cells of an ended state are the recursion's
pub outcome_reports : (dag : Dag) (runs : ℕ) (s : State) → IsOutcome dag runs s → (k : ℕ) → k < runs →
    reports_from dag (cell_at s k) 0 dag.tasks ≡ reports_from dag (cell_by dag (entry_in s.ledger) k) 0 dag.tasks
unfolding cell_by
outcome_reports dag runs s is k l =
    reports_cong dag (cell_at s k) (cell_by dag (entry_in s.ledger) k) 0 dag.tasks (λ t m. is.cells k t l (omega (arith, m)))

-- ---- runs

-- one more run is dated
dated_more : (dag : Dag) (ledger : Ledger) (k : ℕ) (intervals : List Interval) (runs : List RunReport) (interval : Interval) (run : RunReport) → AreDated dag ledger k intervals runs →
    run.interval ≡ interval → run.state ≡ run_state_of dag (out dag ledger (k + length intervals)) → run.tasks ≡ reports_from dag (cell_by dag ledger (k + length intervals)) 0 dag.tasks →
    AreDated dag ledger k (intervals ++ interval ∷ []) (runs ++ run ∷ [])
dated_more dag ledger k [] [] interval run are a b c =
    let same : k + 0 ≡ k = omega arith in
    (a, rw same at b, rw same at c, tt)
dated_more dag ledger k [] (r ∷ rs) interval run are a b c = absurd are
dated_more dag ledger k (i ∷ is) [] interval run are a b c = absurd are
dated_more dag ledger k (i ∷ is) (r ∷ rs) interval run are a b c =
    let same : k + length (i ∷ is) ≡ suc k + length is = omega arith in
    (are.0, are.1, are.2, dated_more dag ledger (suc k) is rs interval run are.3 a (rw same at b) (rw same at c))

-- the runs of the intervals so far, and one more
pub dated_next : (dag : Dag) (ledger : Ledger) (intervals : List Interval) (k : ℕ) (interval : Interval) (runs : List RunReport) (run : RunReport) → k < length intervals → interval ≡ get_or intervals k interval →
    AreDated dag ledger 0 (take k intervals) runs → run.interval ≡ interval → run.state ≡ run_state_of dag (out dag ledger k) → run.tasks ≡ reports_from dag (cell_by dag ledger k) 0 dag.tasks →
    AreDated dag ledger 0 (take (k + 1) intervals) (runs ++ run ∷ [])
dated_next dag ledger intervals k interval runs run l e are a b c =
    let long : 0 + length (take k intervals) ≡ k = omega (arith, length-take k intervals) in
    let more : AreDated dag ledger 0 (take k intervals ++ interval ∷ []) (runs ++ run ∷ []) = dated_more dag ledger 0 (take k intervals) runs interval run are a (rw long b) (rw long c) in
    let grown : take (k + 1) intervals ≡ take k intervals ++ interval ∷ [] = take_more intervals k interval l ∙ ap (λ x. take k intervals ++ x ∷ []) (sym e) in
    rw grown more

-- ---- one report

-- runs that are equal part by part
pub same_run : (r q : RunReport) → r.interval ≡ q.interval → r.state ≡ q.state → r.tasks ≡ q.tasks → r ≡ q
same_run r q a b c = λ i. record {
  interval = a i;
  state = b i;
  tasks = c i;
  shown_start = is_prop→PathP (λ j. IsShown (a j).start.nanosecond) (λ j. hlevel props) r.shown_start q.shown_start i;
  shown_end = is_prop→PathP (λ j. IsShown (a j).end.nanosecond) (λ j. hlevel props) r.shown_end q.shown_end i;
}

-- as many tasks are told as there are
pub length_reports_from : (dag : Dag) (cell : ℕ → Cell) (t : ℕ) (tasks : List Task) → length (reports_from dag cell t tasks) ≡ length tasks
length_reports_from dag cell t [] = refl
length_reports_from dag cell t (task ∷ tasks) = ap suc (length_reports_from dag cell (suc t) tasks)

runs_once : (dag : Dag) (ledger : Ledger) (k : ℕ) (intervals : List Interval) (runs others : List RunReport) → AreDated dag ledger k intervals runs → AreDated dag ledger k intervals others → runs ≡ others
runs_once dag ledger k [] [] [] a b = refl
runs_once dag ledger k [] (r ∷ rs) others a b = absurd a
runs_once dag ledger k [] [] (r ∷ rs) a b = absurd b
runs_once dag ledger k (i ∷ is) [] others a b = absurd a
runs_once dag ledger k (i ∷ is) (r ∷ rs) [] a b = absurd b
runs_once dag ledger k (i ∷ is) (r ∷ rs) (q ∷ qs) a b =
    ap₂ (λ x xs. x ∷ xs) (same_run r q (a.0 ∙ sym b.0) (a.1 ∙ sym b.1) (a.2 ∙ sym b.2)) (runs_once dag ledger (suc k) is rs qs a.3 b.3)

-- the recursion over a ledger has one report
pub dated_once : (dag : Dag) (intervals : List Interval) (ledger : Ledger) (report other : Report) → IsDated dag intervals ledger report → IsDated dag intervals ledger other → report ≡ other
dated_once dag intervals ledger report other a b =
    let runs : report.runs ≡ other.runs = runs_once dag ledger 0 intervals report.runs other.runs a.runs b.runs in
    λ i. record { version = (a.version ∙ sym b.version) i; dag_id = (a.dag_id ∙ sym b.dag_id) i; tasks = (a.tasks ∙ sym b.tasks) i; runs = runs i }
