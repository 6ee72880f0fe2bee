-- The report of an ended backfill tells of the entries of its ledger, and of no other.
use Rattle.std.proofs.Common.{◌≡◌, ℕ, suc, zero, ℤ, pos, negsuc, ◌+◌, ◌<◌, ◌≤◌, ◌==◌, ◌&&◌, nat_lt, Bool, true, false, if◌then◌else◌, List, [], ◌∷◌, length, map, Option, None, Some, is_some, option_map, slice_get, refl, sym, ap, ap₂, ◌∙◌, ◌⊎◌, inl, inr, arith, subst, nat_abs}
use Rattle.std.specs.List.{filter_map}
use Rattle.std.specs.Option.{option_and_then}
use Rattle.bf_interval.specs.declared.interval.Interval.{Interval}
use Rattle.bf_plan.specs.declared.plan.Task.{Task}
use Rattle.bf_core.specs.Terms.{Dag, Entry, Given, JobName, Ledger, Outcome, TaskResult, TaskValue, Verdict, Xval, Items, items, result_of, name_of, task_of, map_index, place_of, is_failed, last_try, outcome_of, outcome_at}
use Rattle.bf_core.specs.Deciding.{Seen, settled, decision, after_verdict, instances_of, mapped, pulled}
use Rattle.bf_core.specs.declared.decision.Decision.{Decision}
use Rattle.bf_core.specs.declared.state.Cell.{Cell}
use Rattle.bf_core.specs.Recursion.{out, decided, Asks}
use Rattle.bf_core.specs.Events.{place_in}
use Rattle.bf_core.specs.Agreement.{finished_from, final_cell, HoldsItsTries}
use Rattle.bf_core.proofs.Attempts.{last_try_from, decide_lt}
use Rattle.bf_core.proofs.Decided.{failed_is}
use Rattle.bf_report.specs.declared.report.Version.{Version}
use Rattle.bf_report.specs.declared.report.InstanceReport.{InstanceReport}
use Rattle.bf_report.specs.declared.report.Pull.{Pull}
use Rattle.bf_report.specs.declared.report.TaskReport.{TaskReport}
use Rattle.bf_report.specs.declared.report.RunReport.{RunReport}
use Rattle.bf_report.specs.declared.report.Report.{Report}
use Rattle.bf_report.specs.Dated.{pulls_in, instance_report, reported, reported_instance, reported_instances, cell_by, reports_from, AreDated, IsDated}
use Rattle.bf_clear.specs.Entries.{report_at, instance_in, found_at, given_in, entry_by, entry_of_try, outcome_of_try_in, told}
use Rattle.bf_clear.specs.inner.Entries.{IsWithin}

-- ---- tries

-- each try before the last one failed
last_try_failed : (f : ℕ → Outcome) (a left b : ℕ) → a ≤ b → b < last_try f a left → f b ≡ Outcome.Failed
last_try_failed f a zero b from to = absurd (omega (arith, from, to))
last_try_failed f a (suc left) b from to = go (is_failed (f a)) refl (decide_lt a b from) (λ m l. last_try_failed f (suc a) left b m l) to
  where
    go : (c : Bool) → is_failed (f a) ≡ c → (a ≡ b) ⊎ (suc a ≤ b) → (suc a ≤ b → b < last_try f (suc a) left → f b ≡ Outcome.Failed) →
        b < (if c then last_try f (suc a) left else a) → f b ≡ Outcome.Failed
    go false e at more l = absurd (omega (arith, from, l))
    go true e (inl same) more l = ap f (sym same) ∙ failed_is (f a) e
    go true e (inr m) more l = more m l

-- what is told of the tries of an instance
tried : (f : ℕ → Outcome) (left a : ℕ) → 1 ≤ a → a ≤ last_try f 1 left → outcome_of_try_in (record { outcome = f (last_try f 1 left); tries = last_try f 1 left }) a ≡ Some (f a)
tried f left a from to = go (a == last_try f 1 left) refl
  where
    go : (b : Bool) → (a == last_try f 1 left) ≡ b →
        (if b then Some (f (last_try f 1 left)) else (if nat_lt 0 a && nat_lt a (last_try f 1 left) then Some Outcome.Failed else None)) ≡ Some (f a)
    go true e = let same : a ≡ last_try f 1 left = grind (arith, e) in ap (λ b. Some (f b)) (sym same)
    go false e =
        let less : a < last_try f 1 left = grind (arith, e, to) in
        let one : nat_lt 0 a ≡ true = grind (arith, from) in
        let two : nat_lt a (last_try f 1 left) ≡ true = grind (arith, less) in
        rw (one, two) (ap Some (sym (last_try_failed f 1 left a from less)))

-- and of which it is told
abbrev IsTold : TaskResult → ℕ → Type 0
IsTold r a = (a ≡ r.tries) ⊎ ((1 ≤ a) × (a ≤ r.tries))

told_of : (r : TaskResult) (a : ℕ) (o : Outcome) → outcome_of_try_in r a ≡ Some o → IsTold r a
told_of r a o h = go (a == r.tries) refl (nat_lt 0 a) refl (nat_lt a r.tries) refl h
  where
    go : (b : Bool) → (a == r.tries) ≡ b → (c : Bool) → nat_lt 0 a ≡ c → (d : Bool) → nat_lt a r.tries ≡ d →
        (if b then Some r.outcome else (if c && d then Some Outcome.Failed else None)) ≡ Some o → IsTold r a
    go true e c f d g h = inl (grind (arith, e))
    go false e true f true g h = inr (grind (arith, f), grind (arith, g))
    go false e false f d g h = cc
    go false e true f false g h = cc

-- ---- what the instances were given

each_pulled : (p : List (Option Xval)) (g : Given) (ys : List Xval) (j : ℕ) → slice_get (map (λ item. record { item = Some item; pulled = p }) ys) j ≡ Some g → g.pulled ≡ p
each_pulled p g [] j h = cc
each_pulled p g (y ∷ ys) zero h = let same : ◌≡◌ {A = Given} (record { item = Some y; pulled = p }) g = cc in ap (λ (g : Given). g.pulled) (sym same)
each_pulled p g (y ∷ ys) (suc j) h = each_pulled p g ys j h

mapped_pulled : (p : List (Option Xval)) (found : Items) (gs : List Given) → mapped p found ≡ Decision.Instances gs → (i : ℕ) (g : Given) → slice_get gs i ≡ Some g → g.pulled ≡ p
mapped_pulled p Items.Missing gs e i g h = cc
mapped_pulled p (Items.List []) gs e i g h = cc
mapped_pulled p (Items.List (x ∷ xs)) gs e i g h =
    let same : map (λ item. record { item = Some item; pulled = p }) (x ∷ xs) ≡ gs = cc in
    each_pulled p g (x ∷ xs) i (ap (λ l. slice_get l i) same ∙ h)

one_pulled : (p : List (Option Xval)) (gs : List Given) → ◌≡◌ {A = Decision} (Decision.Instances (record { item = None; pulled = p } ∷ [])) (Decision.Instances gs) → (i : ℕ) (g : Given) → slice_get gs i ≡ Some g → g.pulled ≡ p
one_pulled p [] e i g h = cc
one_pulled p (x ∷ xs) e zero g h =
    let same : ◌≡◌ {A = Given} (record { item = None; pulled = p }) x = cc in
    let that : x ≡ g = cc in ap (λ (g : Given). g.pulled) (sym (same ∙ that))
one_pulled p (x ∷ xs) e (suc i) g h = let none : xs ≡ [] = cc in cc

found_pulled : (p : List (Option Xval)) (found : Option TaskValue) (give : TaskValue → Items) (gs : List Given) → elim found [ None ↦ Decision.Wait | Some v ↦ mapped p (give v) ] ≡ Decision.Instances gs → (i : ℕ) (g : Given) → slice_get gs i ≡ Some g → g.pulled ≡ p
found_pulled p None give gs e i g h = cc
found_pulled p (Some v) give gs e i g h = mapped_pulled p (give v) gs e i g h

instances_pulled : (dag : Dag) (seen : ℕ → Seen) (p : List (Option Xval)) (expand : Option ℕ) (gs : List Given) → instances_of dag seen p expand ≡ Decision.Instances gs → (i : ℕ) (g : Given) → slice_get gs i ≡ Some g → g.pulled ≡ p
instances_pulled dag seen p None gs e i g h = one_pulled p gs e i g h
instances_pulled dag seen p (Some source) gs e i g h = found_pulled p (seen source).value (items (task_of dag source)) gs e i g h

verdict_pulled : (dag : Dag) (seen : ℕ → Seen) (t : ℕ) (v : Verdict) (gs : List Given) → after_verdict dag seen t v ≡ Decision.Instances gs → (i : ℕ) (g : Given) → slice_get gs i ≡ Some g → g.pulled ≡ pulled dag seen t
verdict_pulled dag seen t Verdict.Run gs e i g h = instances_pulled dag seen (pulled dag seen t) (task_of dag t).expand gs e i g h
verdict_pulled dag seen t Verdict.Wait gs e i g h = cc
verdict_pulled dag seen t Verdict.Skip gs e i g h = cc
verdict_pulled dag seen t Verdict.Blocked gs e i g h = cc
verdict_pulled dag seen t Verdict.UpstreamFailed gs e i g h = cc

-- each instance has a value for each pull
pub decided_pulled : (dag : Dag) (ledger : Ledger) (k t : ℕ) (gs : List Given) → decided dag ledger k t ≡ Decision.Instances gs → (i : ℕ) (g : Given) → slice_get gs i ≡ Some g →
    g.pulled ≡ pulled dag (λ u. settled (out dag ledger k u)) t
unfolding decided decision
decided_pulled dag ledger k t gs e i g h = verdict_pulled dag (λ u. settled (out dag ledger k u)) t _ gs e i g h

values_back : (dag : Dag) (f : ℕ → Option Xval) (ps : List ℕ) → map (λ (p : Pull). p.value) (pulls_in dag ps (map f ps)) ≡ map f ps
values_back dag f [] = refl
values_back dag f (p ∷ ps) = ap (λ vs. f p ∷ vs) (values_back dag f ps)

given_back : (dag : Dag) (ledger : Ledger) (k t : ℕ) (gs : List Given) → decided dag ledger k t ≡ Decision.Instances gs → (i : ℕ) (g : Given) → slice_get gs i ≡ Some g → (r : TaskResult) →
    given_in (instance_report dag t g r) ≡ g
given_back dag ledger k t gs e i g h r =
    let same : g.pulled ≡ pulled dag (λ u. settled (out dag ledger k u)) t = decided_pulled dag ledger k t gs e i g h in
    λ j. record { item = g.item; pulled = (ap (λ vs. map (λ (p : Pull). p.value) (pulls_in dag (task_of dag t).pulls vs)) same ∙ (values_back dag _ (task_of dag t).pulls ∙ sym same)) j }

-- ---- the instances of a report

instances_there : (dag : Dag) (t : ℕ) (f : ℕ → TaskResult) (from : ℕ) (gs : List Given) (i : ℕ) (g : Given) → slice_get gs i ≡ Some g →
    slice_get (filter_map (reported_instance dag t) (finished_from f from gs)) i ≡ Some (instance_report dag t g (f (from + i)))
instances_there dag t f from [] i g e = cc
instances_there dag t f from (h ∷ hs) zero g e =
    let same : h ≡ g = cc in
    let at : from ≡ from + 0 = omega arith in
    ap₂ (λ g n. Some (instance_report dag t g (f n))) same at
instances_there dag t f from (h ∷ hs) (suc i) g e =
    let at : suc from + i ≡ from + suc i = omega arith in
    instances_there dag t f (suc from) hs i g e ∙ ap (λ n. Some (instance_report dag t g (f n))) at

-- an instance that is there, with its Given
pub record IsGiven (dag : Dag) (t : ℕ) (f : ℕ → TaskResult) (from : ℕ) (gs : List Given) (i : ℕ) (x : InstanceReport) : Type 0 where
  pub given : Given
  pub is_one : slice_get gs i ≡ Some given
  pub result : x.result ≡ f (from + i)

instances_from : (dag : Dag) (t : ℕ) (f : ℕ → TaskResult) (from : ℕ) (gs : List Given) (i : ℕ) (x : InstanceReport) →
    slice_get (filter_map (reported_instance dag t) (finished_from f from gs)) i ≡ Some x → IsGiven dag t f from gs i x
instances_from dag t f from [] i x e = cc
instances_from dag t f from (h ∷ hs) zero x e =
    let at : from ≡ from + 0 = omega arith in
    let same : instance_report dag t h (f from) ≡ x = cc in
    record { given = h; is_one = refl; result = ap (λ (x : InstanceReport). x.result) (sym same) ∙ ap f at }
instances_from dag t f from (h ∷ hs) (suc i) x e =
    let at : suc from + i ≡ from + suc i = omega arith in
    let rest : _ = instances_from dag t f (suc from) hs i x e in
    record { given = rest.given; is_one = rest.is_one; result = rest.result ∙ ap f at }

-- ---- by map index

abbrev index_by : Bool → ℕ → ℤ
index_by b i = if b then pos i else negsuc 0

abbrev place_by : Bool → ℤ → ℕ
place_by b index = if b then nat_abs index else 0

by_index : (b : Bool) (xs : List InstanceReport) (index : ℤ) → index_by b (place_by b index) ≡ index → instance_in (reported_instances b xs) index ≡ slice_get xs (place_by b index)
by_index true xs (pos i) e = refl
by_index true xs (negsuc i) e = cc
by_index false [] (negsuc zero) e = refl
by_index false (x ∷ xs) (negsuc zero) e = refl
by_index false xs (negsuc (suc i)) e = cc
by_index false xs (pos i) e = cc

index_of : (b : Bool) (xs : List InstanceReport) (index : ℤ) (x : InstanceReport) → instance_in (reported_instances b xs) index ≡ Some x → index_by b (place_by b index) ≡ index
index_of true xs (pos i) x e = refl
index_of true xs (negsuc i) x e = cc
index_of false [] index x e = cc
index_of false (y ∷ ys) (negsuc zero) x e = refl
index_of false (y ∷ ys) (negsuc (suc i)) x e = cc
index_of false (y ∷ ys) (pos i) x e = cc

-- ---- runs and tasks

reports_at : (dag : Dag) (cell : ℕ → Cell) (from : ℕ) (tasks : List Task) (t : ℕ) → t < length tasks → slice_get (reports_from dag cell from tasks) t ≡ Some (reported dag (from + t) (cell (from + t)))
reports_at dag cell from [] t l = absurd (omega (arith, l))
reports_at dag cell from (task ∷ tasks) zero l = let at : from ≡ from + 0 = omega arith in ap (λ n. Some (reported dag n (cell n))) at
reports_at dag cell from (task ∷ tasks) (suc t) l =
    let at : suc from + t ≡ from + suc t = omega arith in
    reports_at dag cell (suc from) tasks t (omega (arith, l)) ∙ ap (λ n. Some (reported dag n (cell n))) at

reports_none : (dag : Dag) (cell : ℕ → Cell) (from : ℕ) (tasks : List Task) (t : ℕ) → length tasks ≤ t → slice_get (reports_from dag cell from tasks) t ≡ None
reports_none dag cell from [] t l = refl
reports_none dag cell from (task ∷ tasks) zero l = absurd (omega (arith, l))
reports_none dag cell from (task ∷ tasks) (suc t) l = reports_none dag cell (suc from) tasks t (omega (arith, l))

abbrev tasks_in : Option RunReport → Option (List TaskReport)
tasks_in o = option_map (λ run. run.tasks) o

run_at : (dag : Dag) (ledger : Ledger) (from : ℕ) (intervals : List Interval) (runs : List RunReport) → AreDated dag ledger from intervals runs → (k : ℕ) → k < length intervals →
    tasks_in (slice_get runs k) ≡ Some (reports_from dag (cell_by dag ledger (from + k)) 0 dag.tasks)
run_at dag ledger from [] [] are k l = absurd (omega (arith, l))
run_at dag ledger from [] (r ∷ rs) are k l = absurd are
run_at dag ledger from (i ∷ is) [] are k l = absurd are
run_at dag ledger from (i ∷ is) (r ∷ rs) are zero l =
    let at : from ≡ from + 0 = omega arith in
    ap Some are.2 ∙ ap (λ n. Some (reports_from dag (cell_by dag ledger n) 0 dag.tasks)) at
run_at dag ledger from (i ∷ is) (r ∷ rs) are (suc k) l =
    let at : suc from + k ≡ from + suc k = omega arith in
    run_at dag ledger (suc from) is rs are.3 k (omega (arith, l)) ∙ ap (λ n. Some (reports_from dag (cell_by dag ledger n) 0 dag.tasks)) at

run_none : (dag : Dag) (ledger : Ledger) (from : ℕ) (intervals : List Interval) (runs : List RunReport) → AreDated dag ledger from intervals runs → (k : ℕ) → length intervals ≤ k →
    slice_get runs k ≡ None
run_none dag ledger from [] [] are k l = refl
run_none dag ledger from [] (r ∷ rs) are k l = absurd are
run_none dag ledger from (i ∷ is) [] are k l = absurd are
run_none dag ledger from (i ∷ is) (r ∷ rs) are zero l = absurd (omega (arith, l))
run_none dag ledger from (i ∷ is) (r ∷ rs) are (suc k) l = run_none dag ledger (suc from) is rs are.3 k (omega (arith, l))

by_tasks : (o : Option RunReport) (ts : List TaskReport) (t : ℕ) → tasks_in o ≡ Some ts → option_and_then (λ run. slice_get run.tasks t) o ≡ slice_get ts t
by_tasks None ts t e = cc
by_tasks (Some run) ts t e = let same : run.tasks ≡ ts = cc in ap (λ l. slice_get l t) same

pub task_at : (dag : Dag) (ledger : Ledger) (intervals : List Interval) (report : Report) → IsDated dag intervals ledger report → (k t : ℕ) → k < length intervals → t < length dag.tasks →
    report_at report k t ≡ Some (reported dag t (cell_by dag ledger k t))
task_at dag ledger intervals report is k t l m =
    by_tasks (slice_get report.runs k) _ t (run_at dag ledger 0 intervals report.runs is.runs k l ∙ ap (λ n. Some (reports_from dag (cell_by dag ledger n) 0 dag.tasks)) at)
    ∙ (reports_at dag (cell_by dag ledger k) 0 dag.tasks t m ∙ ap (λ n. Some (reported dag n (cell_by dag ledger k n))) also)
  where
    at : 0 + k ≡ k
    at = omega arith

    also : 0 + t ≡ t
    also = omega arith

less_or : (a b : ℕ) → (a < b) ⊎ (b ≤ a)
less_or a b = grind arith

-- what stands in the report is of a task in a run that is there
pub reported_there : (dag : Dag) (ledger : Ledger) (intervals : List Interval) (report : Report) → IsDated dag intervals ledger report → (k t : ℕ) (r : TaskReport) → report_at report k t ≡ Some r →
    (k < length intervals) × (t < length dag.tasks)
reported_there dag ledger intervals report is k t r e = go (less_or k (length intervals)) (less_or t (length dag.tasks))
  where
    none : report_at report k t ≡ None → ⊥
    none same = let wrong : ◌≡◌ {A = Option TaskReport} None (Some r) = sym same ∙ e in cc

    go : (k < length intervals) ⊎ (length intervals ≤ k) → (t < length dag.tasks) ⊎ (length dag.tasks ≤ t) → (k < length intervals) × (t < length dag.tasks)
    go (inl l) (inl m) = (l, m)
    go (inr l) m = absurd (none (ap (option_and_then (λ run. slice_get run.tasks t)) (run_none dag ledger 0 intervals report.runs is.runs k l)))
    go (inl l) (inr m) = absurd (none (by_tasks (slice_get report.runs k) _ t (run_at dag ledger 0 intervals report.runs is.runs k l) ∙ reports_none dag (cell_by dag ledger (0 + k)) 0 dag.tasks t m))

task_there : (dag : Dag) (ledger : Ledger) (intervals : List Interval) (report : Report) → IsDated dag intervals ledger report → IsWithin dag (length intervals) report
task_there dag ledger intervals report is k t index x e = go (report_at report k t) refl e
  where
    go : (o : Option TaskReport) → report_at report k t ≡ o → option_and_then (λ r. instance_in r index) o ≡ Some x → (k < length intervals) × (t < length dag.tasks)
    go None same h = cc
    go (Some r) same h = reported_there dag ledger intervals report is k t r same

-- ---- by what was decided

from_zero : (m : ℕ) → 0 + m ≡ m
from_zero m = omega arith

told_here : (dag : Dag) (t : ℕ) (f : ℕ → TaskResult) (gs : List Given) (index : ℤ) → map_index (task_of dag t) (place_of (task_of dag t) index) ≡ index → (g : Given) → slice_get gs (place_of (task_of dag t) index) ≡ Some g →
    instance_in (reported dag t (final_cell (Decision.Instances gs) f)) index ≡ Some (instance_report dag t g (f (place_of (task_of dag t) index)))
told_here dag t f gs index named g e =
    by_index (is_some (task_of dag t).expand) (filter_map (reported_instance dag t) (finished_from f 0 gs)) index named
    ∙ (instances_there dag t f 0 gs (place_of (task_of dag t) index) g e ∙ ap (λ m. Some (instance_report dag t g (f m))) (from_zero (place_of (task_of dag t) index)))

-- the instance that stands in a report
pub record IsHere (dag : Dag) (t : ℕ) (f : ℕ → TaskResult) (d : Decision) (index : ℤ) (x : InstanceReport) : Type 0 where
  pub givens : List Given
  pub runs : d ≡ Decision.Instances givens
  pub named : map_index (task_of dag t) (place_of (task_of dag t) index) ≡ index
  pub given : IsGiven dag t f 0 givens (place_of (task_of dag t) index) x

decided_here : (dag : Dag) (t : ℕ) (f : ℕ → TaskResult) (d : Decision) (index : ℤ) (x : InstanceReport) → instance_in (reported dag t (final_cell d f)) index ≡ Some x → IsHere dag t f d index x
decided_here dag t f Decision.Wait index x e = cc
decided_here dag t f Decision.Blocked index x e = cc
decided_here dag t f Decision.Skipped index x e = cc
decided_here dag t f Decision.UpstreamFailed index x e = cc
decided_here dag t f (Decision.Instances gs) index x e =
    let xs : List InstanceReport = filter_map (reported_instance dag t) (finished_from f 0 gs) in
    let named : map_index (task_of dag t) (place_of (task_of dag t) index) ≡ index = index_of (is_some (task_of dag t).expand) xs index x e in
    record { givens = gs; runs = refl; named = named; given = instances_from dag t f 0 gs (place_of (task_of dag t) index) x (sym (by_index (is_some (task_of dag t).expand) xs index named) ∙ e) }

-- an entry that is told is of an instance that stands there
pub record IsFound (m : Option InstanceReport) (a : ℕ) : Type 0 where
  pub held : InstanceReport
  pub is_held : m ≡ Some held
  pub told : IsTold held.result a

found_of : (m : Option InstanceReport) (a : ℕ) (d : Entry) → entry_by Version.Two None m a ≡ Some d → IsFound m a
found_of None a d e = cc
found_of (Some x) a d e = record { held = x; is_held = refl; told = go (outcome_of_try_in x.result a) refl e }
  where
    go : (o : Option Outcome) → outcome_of_try_in x.result a ≡ o → option_map (λ o. record { given = given_in x; outcome = o }) o ≡ Some d → IsTold x.result a
    go None f h = cc
    go (Some o) f h = told_of x.result a o f

pub by_version : (v : Version) (w : Option Given) (m : Option InstanceReport) (a : ℕ) → v ≡ Version.Two → entry_by v w m a ≡ entry_by Version.Two None m a
by_version v w None a e = refl
by_version v w (Some x) a e = rw e refl

-- ---- the law

module _ (dag : Dag) (intervals : List Interval) (ledger : Ledger) (holds : HoldsItsTries dag (length intervals) ledger) (report : Report) (is : IsDated dag intervals ledger report) where
  told_entry : (n : JobName) (e : Entry) → ledger n ≡ Some e → told dag report n ≡ Some e
  unfolding told cell_by name_of result_of
  told_entry n e h =
      by_version report.version _ _ n.attempt is.version
      ∙ (ap (λ m. entry_by Version.Two None m n.attempt) there
      ∙ (ap (λ g. entry_of_try (result_of dag ledger n.run n.task i) n.attempt (Some g)) (given_back dag ledger n.run n.task asks.givens asks.runs i e.given asks.is_one (result_of dag ledger n.run n.task i))
      ∙ (ap (option_map (λ o. record { given = e.given; outcome = o })) (tried (outcome_at dag ledger n.run n.task i) (task_of dag n.task).retries n.attempt asks.from_first asks.to_last)
      ∙ ap (λ o. Some (record { given = e.given; outcome = outcome_of o })) (ap ledger (sym a.2) ∙ h))))
    where
      a : (n.run < length intervals) × (n.task < length dag.tasks) × (n ≡ name_of dag n.run n.task (place_in dag n) n.attempt) × Asks dag ledger n.run n.task (place_in dag n) n.attempt e.given
      a = holds.asked n e h

      i : ℕ
      i = place_in dag n

      asks : Asks dag ledger n.run n.task i n.attempt e.given
      asks = a.3

      named : map_index (task_of dag n.task) i ≡ n.index
      named = ap (λ (n : JobName). n.index) (sym a.2)

      there : found_at report n.run n.task n.index ≡ Some (instance_report dag n.task e.given (result_of dag ledger n.run n.task i))
      there =
          ap (option_and_then (λ r. instance_in r n.index)) (task_at dag ledger intervals report is n.run n.task a.0 a.1
          ∙ ap (λ d. Some (reported dag n.task (final_cell d (result_of dag ledger n.run n.task)))) asks.runs)
          ∙ told_here dag n.task (result_of dag ledger n.run n.task) asks.givens n.index named e.given asks.is_one

  none_told : (n : JobName) → ledger n ≡ None → (d : Entry) → told dag report n ≡ Some d → ⊥
  unfolding told cell_by name_of result_of
  none_told n none d e = wrong
    where
      found : IsFound (found_at report n.run n.task n.index) n.attempt
      found = found_of _ n.attempt d (sym (by_version report.version _ _ n.attempt is.version) ∙ e)

      within : (n.run < length intervals) × (n.task < length dag.tasks)
      within = task_there dag ledger intervals report is n.run n.task n.index found.held found.is_held

      i : ℕ
      i = place_in dag n

      here : IsHere dag n.task (result_of dag ledger n.run n.task) (decided dag ledger n.run n.task) n.index found.held
      here = decided_here dag n.task (result_of dag ledger n.run n.task) (decided dag ledger n.run n.task) n.index found.held
          (ap (option_and_then (λ r. instance_in r n.index)) (sym (task_at dag ledger intervals report is n.run n.task within.0 within.1)) ∙ found.is_held)

      same : found.held.result ≡ result_of dag ledger n.run n.task i
      same = here.given.result ∙ ap (result_of dag ledger n.run n.task) (from_zero i)

      bounds : (1 ≤ n.attempt) × (n.attempt ≤ (result_of dag ledger n.run n.task i).tries)
      bounds = elim found.told [
        | inl e ↦ let at : n.attempt ≡ (result_of dag ledger n.run n.task i).tries = e ∙ ap (λ (r : TaskResult). r.tries) same in
            (rw at (last_try_from (outcome_at dag ledger n.run n.task i) 1 (task_of dag n.task).retries), omega (arith, at))
        | inr l ↦ (l.0, subst (λ (r : TaskResult). n.attempt ≤ r.tries) same l.1)
      ]

      tries : (o : Outcome) × (ledger (name_of dag n.run n.task i n.attempt) ≡ Some (record { given = here.given.given; outcome = o }))
      tries = holds.defined n.run n.task i n.attempt here.given.given within.0 within.1
          (record { givens = here.givens; runs = here.runs; is_one = here.given.is_one; from_first = bounds.0; to_last = bounds.1 })

      name : name_of dag n.run n.task i n.attempt ≡ n
      name = λ j. record { run = n.run; task = n.task; index = here.named j; attempt = n.attempt }

      wrong : ⊥
      wrong = let both : ◌≡◌ {A = Option Entry} None (Some _) = sym none ∙ (ap ledger (sym name) ∙ tries.1) in cc

  pub told_is : (n : JobName) → told dag report n ≡ ledger n
  told_is n = go (ledger n) refl (told dag report n) refl
    where
      go : (a : Option Entry) → ledger n ≡ a → (b : Option Entry) → told dag report n ≡ b → told dag report n ≡ ledger n
      go (Some e) h b f = told_entry n e h ∙ sym h
      go None h None f = f ∙ sym h
      go None h (Some d) f = absurd (none_told n h d f)
