-- Each report by the rules is read line by line.
use Rattle.std.proofs.Common.{◌≡◌, ◌≢◌, ◌≤◌, ◌<◌, ◌+◌, ◌==◌, ◌&&◌, ◌||◌, ◌<ℤ◌, ℕ, zero, suc, List, [], ◌∷◌, ◌++◌, length, map, get_or, slice_get, Bool, true, false, true≢false, nat_lt, int_lt, cond, Option, Some, None, is_some, ℤ, codes, refl, sym, ap, ◌∙◌, subst, arith, add-one, append_assoc, append-nil, length-append, inl, inr}
use Rattle.std.specs.List.{list_any, AllByRecursion}
use Rattle.std.specs.Str.{bytes_eq}
use Rattle.std.specs.Cmp.Lexicographic.{bytes_decides}
use Rattle.std.proofs.Math.Seq.{get_or-append_seam}
use Rattle.std.proofs.lemmas.List.{get_or_append_left, map-append}
use Rattle.std.proofs.lemmas.Bool.{cases_Bool}
use Rattle.std.proofs.lemmas.Bool.Decides.{nat_tests}
use Rattle.std.proofs.lemmas.Int.{ints}
use Rattle.bf_plan.specs.Ids.{is_id_in}
use Rattle.bf_value.specs.Distinct.{AreDistinct}
use Rattle.bf_value.specs.declared.xval.Xval.{Xval}
use Rattle.bf_xcom.specs.declared.values.TaskResult.{TaskResult}
use Rattle.bf_report.specs.declared.report.Version.{Version}
use Rattle.bf_report.specs.declared.report.Pull.{Pull}
use Rattle.bf_report.specs.declared.report.InstanceReport.{InstanceReport}
use Rattle.bf_report.specs.declared.report.TaskReport.{TaskReport}
use Rattle.bf_report.specs.declared.report.RunReport.{RunReport}
use Rattle.bf_report.specs.declared.report.Report.{Report}
use Rattle.bf_report_reader.specs.declared.entry.Untried.{Untried}
use Rattle.bf_report_reader.specs.declared.entry.Entry.{Entry}
use Rattle.bf_report_reader.specs.declared.part.GivenPart.{GivenPart}
use Rattle.bf_report_reader.specs.Open.{OpenTask}
use Rattle.bf_report_reader.specs.declared.open.OpenRun.{OpenRun}
use Rattle.bf_report_reader.specs.declared.beginning.ReportSoFar.{ReportSoFar}
use Rattle.bf_report_reader.specs.inner.Entries.{IsEntry, entry_text}
use Rattle.bf_report_reader.specs.Parts.{IsToldPull}
use Rattle.bf_report_reader.specs.inner.Parts.{IsPart, part_text}
use Rattle.bf_report_reader.specs.inner.Runs.{run_words}
use Rattle.bf_report_reader.specs.Rules.{MayHaveItem, IsShownInstance, IsShownTask, IsShownRun, Rise, IsShownReport}
use Rattle.bf_report_reader.specs.Beginning.{task_with, tasks_in, task_count_of, closed, tells_item, most_told, has_item, untold, is_given_task, is_text, is_next_in, ids_with, with_entry}
use Rattle.bf_report_reader.specs.inner.Beginning.{runs_of, run_count_of, so_far, is_whole_at, may_begin_in, with_part}
use Rattle.bf_report_reader.specs.inner.Steps.{Follows}
use Rattle.bf_report_reader.specs.inner.Extensions.{start, Leads, Extends}
use Rattle.bf_report_reader.proofs.Growth.{count_is}

abbrev pub head_of : Report → Version × List ℕ
head_of report = (report.version, report.dag_id)

-- ---- paths

Reaches : ReportSoFar → ReportSoFar → Type 0
Reaches b c = (n : ℕ) × Leads n b c

stays : (b c : ReportSoFar) → b ≡ c → Reaches b c
unfolding Reaches
stays b c same = (zero, same)

by_line : (b c d : ReportSoFar) (text : List ℕ) → Follows b text c → Reaches c d → Reaches b d
unfolding Reaches
by_line b c d text follows (n, leads) = (suc n, (text, c, follows, leads))

on_from : (n : ℕ) (b c d : ReportSoFar) → Leads n b c → Reaches c d → Reaches b d
on_from zero b c d same on = subst (λ (x : ReportSoFar). Reaches x d) (sym same) on
on_from (suc n) b c d (text, next, follows, leads) on = by_line b next d text follows (on_from n next c d leads on)

reach_on : (b c d : ReportSoFar) → Reaches b c → Reaches c d → Reaches b d
unfolding Reaches
reach_on b c d (n, leads) on = on_from n b c d leads on

entry_line_of : (b c : ReportSoFar) (id : List ℕ) (e : Entry) → IsEntry e → with_entry b id e ≡ Some c → Follows b (id ++ 32 ∷ entry_text e) c
entry_line_of b c id e good added = inl (record { id = id; entry = e; good = good; spelled = refl; added = added })

-- ---- tests that hold

same_number : (n : ℕ) → (n == n) ≡ true
same_number n = grind (arith, nat_tests)

below_true : (m n : ℕ) → m < n → nat_lt m n ≡ true
below_true m n h = grind (arith, nat_tests, h)

later_true : (m n : ℤ) → m <ℤ n → int_lt m n ≡ true
later_true m n h = grind (arith, ints, h)

pub text_true : (o : Option (List ℕ)) (id : List ℕ) → o ≡ Some id → is_text o id ≡ true
text_true o id at = ap (λ x. is_text x id) at ∙ (bytes_decides id id).1 refl

get_at : (done ids : List (List ℕ)) (id : List ℕ) (n : ℕ) → n ≡ length done → slice_get (done ++ id ∷ ids) n ≡ Some id
get_at [] ids id zero e = refl
get_at [] ids id (suc n) e = absurd (omega (arith, e))
get_at (d ∷ ds) ids id zero e = absurd (omega (arith, e))
get_at (d ∷ ds) ids id (suc n) e = get_at ds ids id n (omega (arith, e))

none_is : (done : List (List ℕ)) (id : List ℕ) → ((k : ℕ) (d : List ℕ) → k < length done → get_or done k d ≢ id) → list_any (λ task. bytes_eq task id) done ≡ false
none_is [] id other = refl
none_is (d ∷ ds) id other = elim (cases_Bool (bytes_eq d id)) as (λ _. list_any (λ task. bytes_eq task id) (d ∷ ds) ≡ false) [
  | inl is ↦ absurd (other 0 d (omega arith) ((bytes_decides d id).0 is))
  | inr not_is ↦ rw not_is (none_is ds id (λ k e h. other (suc k) e (omega (arith, h))))
]

not_there : (done ids : List (List ℕ)) (id : List ℕ) → AreDistinct (done ++ id ∷ ids) → list_any (λ task. bytes_eq task id) done ≡ false
not_there done ids id distinct = none_is done id (λ k d h same.
    distinct k (length done) d h (omega (arith, length-append done (id ∷ ids)))
    (get_or_append_left done (id ∷ ids) d k h ∙ same ∙ sym (get_or-append_seam done id ids d)))

-- ---- an instance

-- the run is read up to this task
abbrev at_task : ReportSoFar → RunReport → Option (List InstanceReport) → InstanceReport → ReportSoFar
at_task b run before x = record b { run = Some (record { run = run; task = Some (record { before = before; instance = x }) }) }

part_line_of : (b c : ReportSoFar) (part : GivenPart) → IsPart part → with_part b part ≡ Some c → Follows b (part_text part) c
part_line_of b c part good added = inr (inr (record { part = part; good = good; spelled = refl; added = added }))

-- an item that is told is lacking at first
lacks_told : (is_told : Bool) → is_told ≡ true → has_item is_told None ≡ false
lacks_told true e = refl
lacks_told false e = absurd (true≢false (sym e))

item_path : (b : ReportSoFar) (run : RunReport) (before : Option (List InstanceReport)) (r : TaskResult) (item : Option Xval) → MayHaveItem (tells_item b.version (is_some before)) item
    → Reaches (at_task b run before (untold r)) (at_task b run before (record { result = r; item = item; pulls = [] }))
item_path b run before r None good = stays _ _ refl
item_path b run before r (Some v) good =
    let lacks = lacks_told (tells_item b.version (is_some before)) good.0 in
    by_line (at_task b run before (untold r)) (at_task b run before (record { result = r; item = Some v; pulls = [] })) _ (part_text (GivenPart.Item v))
    (part_line_of _ _ (GivenPart.Item v) good.1 (rw lacks refl)) (stays _ _ refl)

pull_not_there : (done rest : List Pull) (p : Pull) → AreDistinct (map (λ (q : Pull). q.task) (done ++ p ∷ rest)) → list_any (λ q. bytes_eq q.task p.task) done ≡ false
pull_not_there done rest p distinct =
    same_any done ∙ not_there (map (λ (q : Pull). q.task) done) (map (λ (q : Pull). q.task) rest) p.task (subst AreDistinct (map-append (λ (q : Pull). q.task) done (p ∷ rest)) distinct)
  where
    same_any : (qs : List Pull) → list_any (λ q. bytes_eq q.task p.task) qs ≡ list_any (λ id. bytes_eq id p.task) (map (λ (q : Pull). q.task) qs)
    same_any [] = refl
    same_any (q ∷ qs) = ap (λ t. bytes_eq q.task p.task || t) (same_any qs)

pulls_path : (b : ReportSoFar) (run : RunReport) (before : Option (List InstanceReport)) (r : TaskResult) (item : Option Xval) (done rest : List Pull) → has_item (tells_item b.version (is_some before)) item ≡ true
    → length (done ++ rest) ≤ most_told b.version → AreDistinct (map (λ (q : Pull). q.task) (done ++ rest)) → AllByRecursion IsToldPull rest
    → Reaches (at_task b run before (record { result = r; item = item; pulls = done })) (at_task b run before (record { result = r; item = item; pulls = done ++ rest }))
pulls_path b run before r item done [] complete few distinct good = stays _ _ (ap (λ ps. at_task b run before (record { result = r; item = item; pulls = ps })) (sym (append-nil done)))
pulls_path b run before r item done (p ∷ ps) complete few distinct good =
    let all : done ++ p ∷ ps ≡ (done ++ p ∷ []) ++ ps = sym (append_assoc done (p ∷ []) ps) in
    let room : nat_lt (length done) (most_told b.version) ≡ true = below_true (length done) (most_told b.version) (omega (arith, few, length-append done (p ∷ ps))) in
    let rest = pulls_path b run before r item (done ++ p ∷ []) ps complete (subst (λ l. length l ≤ most_told b.version) all few) (subst (λ l. AreDistinct (map (λ (q : Pull). q.task) l)) all distinct) good.1 in
    by_line _ (at_task b run before (record { result = r; item = item; pulls = done ++ p ∷ [] })) _ (part_text (GivenPart.Pull p))
    (part_line_of _ _ (GivenPart.Pull p) good.0 (rw (complete, room, pull_not_there done ps p distinct) refl))
    (subst (λ l. Reaches (at_task b run before (record { result = r; item = item; pulls = done ++ p ∷ [] })) (at_task b run before (record { result = r; item = item; pulls = l }))) (sym all) rest)

-- what the instance was given, behind its own line
given_path : (b : ReportSoFar) (run : RunReport) (before : Option (List InstanceReport)) (x : InstanceReport) → IsShownInstance b.version (is_some before) x → Reaches (at_task b run before (untold x.result)) (at_task b run before x)
given_path b run before x shown =
    reach_on _ (at_task b run before (record { result = x.result; item = x.item; pulls = [] })) _ (item_path b run before x.result x.item shown.item)
    (pulls_path b run before x.result x.item [] x.pulls shown.complete shown.pulls.few shown.pulls.distinct shown.pulls.each)

-- ---- the instances of an expanded task

-- the last of them, and the ones before
abbrev expanded_by : List InstanceReport → InstanceReport → List InstanceReport → OpenTask
expanded_by done x [] = record { before = Some done; instance = x }
expanded_by done x (y ∷ ys) = expanded_by (done ++ x ∷ []) y ys

expanded_all : (done : List InstanceReport) (x : InstanceReport) (rest : List InstanceReport) → task_with (expanded_by done x rest).before (expanded_by done x rest).instance ≡ TaskReport.Mapped (done ++ x ∷ rest)
expanded_all done x [] = refl
expanded_all done x (y ∷ ys) = expanded_all (done ++ x ∷ []) y ys ∙ ap TaskReport.Mapped (append_assoc done (x ∷ []) (y ∷ ys))

expanded_given : (version : Version) (done : List InstanceReport) (x : InstanceReport) (rest : List InstanceReport) → AllByRecursion (IsShownInstance version true) (x ∷ rest) → is_given_task version (Some (expanded_by done x rest)) ≡ true
expanded_given version done x [] shown = shown.0.complete
expanded_given version done x (y ∷ ys) shown = expanded_given version (done ++ x ∷ []) y ys shown.1

further_added : (b : ReportSoFar) (run : RunReport) (done : List InstanceReport) (x : InstanceReport) (y : TaskResult) (id : List ℕ) → slice_get b.tasks (length run.tasks) ≡ Some id → has_item (tells_item b.version true) x.item ≡ true
    → with_entry (at_task b run (Some done) x) id (Entry.Tried (Some (suc (length done))) y) ≡ Some (at_task b run (Some (done ++ x ∷ [])) (untold y))
unfolding with_entry
further_added b run done x y id at complete =
    let number : (length done + 1 == suc (length done)) ≡ true = ap (λ n. n == suc (length done)) (add-one (length done)) ∙ same_number (suc (length done)) in
    rw (complete, number, text_true _ id at) refl

instances_path : (b : ReportSoFar) (run : RunReport) (done : List InstanceReport) (x : InstanceReport) (rest : List InstanceReport) (id : List ℕ) → slice_get b.tasks (length run.tasks) ≡ Some id → length done + length rest < 1_024
    → AllByRecursion (IsShownInstance b.version true) (x ∷ rest) → Reaches (at_task b run (Some done) x) (record b { run = Some (record { run = run; task = Some (expanded_by done x rest) }) })
instances_path b run done x [] id at few shown = stays _ _ refl
instances_path b run done x (y ∷ ys) id at few shown =
    let e : Entry = Entry.Tried (Some (suc (length done))) y.result in
    let next = done ++ x ∷ [] in
    let rest = instances_path b run next y ys id at (omega (arith, few, length-append done (x ∷ []))) shown.1 in
    by_line (at_task b run (Some done) x) (at_task b run (Some next) (untold y.result)) _ (id ++ 32 ∷ entry_text e)
    (entry_line_of _ _ id e (omega (arith, few), shown.1.0.result) (further_added b run done x y.result id at shown.0.complete))
    (reach_on _ (at_task b run (Some next) y) _ (given_path b run (Some next) y shown.1.0) rest)

-- ---- a task

-- the run with one more task, and with more
abbrev opened : OpenRun → TaskReport → OpenRun
opened o TaskReport.NoStatus = record { run = record o.run { tasks = tasks_in o ++ TaskReport.NoStatus ∷ [] }; task = None }
opened o TaskReport.Skipped = record { run = record o.run { tasks = tasks_in o ++ TaskReport.Skipped ∷ [] }; task = None }
opened o TaskReport.UpstreamFailed = record { run = record o.run { tasks = tasks_in o ++ TaskReport.UpstreamFailed ∷ [] }; task = None }
opened o (TaskReport.Ran x) = record { run = closed o; task = Some (record { before = None; instance = x }) }
opened o (TaskReport.Mapped []) = record { run = closed o; task = None }
opened o (TaskReport.Mapped (x ∷ xs)) = record { run = closed o; task = Some (expanded_by [] x xs) }

abbrev opened_all : OpenRun → List TaskReport → OpenRun
opened_all o [] = o
opened_all o (t ∷ ts) = opened_all (opened o t) ts

closed_opened : (version : Version) (o : OpenRun) (t : TaskReport) → IsShownTask version t → closed (opened o t) ≡ record o.run { tasks = tasks_in o ++ t ∷ [] }
closed_opened version o TaskReport.NoStatus shown = ap (λ ts. record o.run { tasks = ts }) (append-nil (tasks_in o ++ TaskReport.NoStatus ∷ []))
closed_opened version o TaskReport.Skipped shown = ap (λ ts. record o.run { tasks = ts }) (append-nil (tasks_in o ++ TaskReport.Skipped ∷ []))
closed_opened version o TaskReport.UpstreamFailed shown = ap (λ ts. record o.run { tasks = ts }) (append-nil (tasks_in o ++ TaskReport.UpstreamFailed ∷ []))
closed_opened version o (TaskReport.Ran x) shown = refl
closed_opened version o (TaskReport.Mapped []) shown = absurd (omega (arith, shown.0))
closed_opened version o (TaskReport.Mapped (x ∷ xs)) shown = ap (λ t. record o.run { tasks = tasks_in o ++ t ∷ [] }) (expanded_all [] x xs)

closed_all : (version : Version) (o : OpenRun) (ts : List TaskReport) → AllByRecursion (IsShownTask version) ts → closed (opened_all o ts) ≡ record o.run { tasks = tasks_in o ++ ts }
closed_all version o [] shown = ap (λ ts. record o.run { tasks = ts }) (sym (append-nil (tasks_in o)))
closed_all version o (t ∷ ts) shown =
    let one = closed_opened version o t shown.0 in
    closed_all version (opened o t) ts shown.1
    ∙ ap (λ (r : RunReport). record r { tasks = r.tasks ++ ts }) one
    ∙ ap (λ l. record o.run { tasks = l }) (append_assoc (tasks_in o) (t ∷ []) ts)

opened_count : (version : Version) (o : OpenRun) (t : TaskReport) → IsShownTask version t → task_count_of (opened o t) ≡ task_count_of o + 1
opened_count version o t shown = omega (arith, count_is o, count_is (opened o t), ap (λ (r : RunReport). length r.tasks) (closed_opened version o t shown), length-append (tasks_in o) (t ∷ []))

-- all is told of a task that is shown
opened_given : (version : Version) (o : OpenRun) (t : TaskReport) → IsShownTask version t → is_given_task version (opened o t).task ≡ true
opened_given version o TaskReport.NoStatus shown = refl
opened_given version o TaskReport.Skipped shown = refl
opened_given version o TaskReport.UpstreamFailed shown = refl
opened_given version o (TaskReport.Ran x) shown = shown.complete
opened_given version o (TaskReport.Mapped []) shown = refl
opened_given version o (TaskReport.Mapped (x ∷ xs)) shown = expanded_given version [] x xs shown.2

given_all : (version : Version) (o : OpenRun) (ts : List TaskReport) → is_given_task version o.task ≡ true → AllByRecursion (IsShownTask version) ts → is_given_task version (opened_all o ts).task ≡ true
given_all version o [] given shown = given
given_all version o (t ∷ ts) given shown = given_all version (opened o t) ts (opened_given version o t shown.0) shown.1

-- a line of a task that is next
record IsTurn (b : ReportSoFar) (o : OpenRun) (id : List ℕ) : Type 0 where
  given : is_given_task b.version o.task ≡ true
  next : is_next_in b.runs b.tasks (Some o) id ≡ true
  at : slice_get (ids_with b.runs b.tasks id) (task_count_of o) ≡ Some id

abbrev turned : ReportSoFar → OpenRun → List ℕ → OpenRun → ReportSoFar
turned b o id new = record b { tasks = ids_with b.runs b.tasks id; run = Some new }

untried_added : (b : ReportSoFar) (o : OpenRun) (id : List ℕ) → IsTurn b o id → (u : Untried) (t : TaskReport)
    → with_entry (record b { run = Some o }) id (Entry.Never u) ≡ cond (is_given_task b.version o.task && is_next_in b.runs b.tasks (Some o) id) (Some (turned b o id (opened o t))) None
    → Reaches (record b { run = Some o }) (turned b o id (opened o t))
untried_added b o id turn u t added =
    by_line (record b { run = Some o }) (turned b o id (opened o t)) _ (id ++ 32 ∷ entry_text (Entry.Never u)) (entry_line_of _ _ id (Entry.Never u) tt (added ∙ rw (turn.given, turn.next) refl)) (stays _ _ refl)

task_path : (b : ReportSoFar) (o : OpenRun) (id : List ℕ) (t : TaskReport) → IsTurn b o id → IsShownTask b.version t → Reaches (record b { run = Some o }) (turned b o id (opened o t))
unfolding with_entry
task_path b o id TaskReport.NoStatus turn shown = untried_added b o id turn Untried.NoStatus TaskReport.NoStatus refl
task_path b o id TaskReport.Skipped turn shown = untried_added b o id turn Untried.Skipped TaskReport.Skipped refl
task_path b o id TaskReport.UpstreamFailed turn shown = untried_added b o id turn Untried.UpstreamFailed TaskReport.UpstreamFailed refl
task_path b o id (TaskReport.Ran x) turn shown =
    let e : Entry = Entry.Tried None x.result in
    let c : ReportSoFar = record b { tasks = ids_with b.runs b.tasks id } in
    by_line (record b { run = Some o }) (at_task c (closed o) None (untold x.result)) _ (id ++ 32 ∷ entry_text e) (entry_line_of _ _ id e (tt, shown.result) (rw (turn.given, turn.next) refl))
    (given_path c (closed o) None x shown)
task_path b o id (TaskReport.Mapped []) turn shown = absurd (omega (arith, shown.0))
task_path b o id (TaskReport.Mapped (x ∷ xs)) turn shown =
    let e : Entry = Entry.Tried (Some 0) x.result in
    let c : ReportSoFar = record b { tasks = ids_with b.runs b.tasks id } in
    by_line (record b { run = Some o }) (at_task c (closed o) (Some []) (untold x.result)) _ (id ++ 32 ∷ entry_text e) (entry_line_of _ _ id e (omega arith, shown.2.0.result) (rw (turn.given, turn.next) refl))
    (reach_on _ (at_task c (closed o) (Some []) x) _ (given_path c (closed o) (Some []) x shown.2.0)
    (instances_path c (closed o) [] x xs id (ap (slice_get (ids_with b.runs b.tasks id)) (count_is o) ∙ turn.at) (omega (arith, shown.1)) shown.2))

-- ---- the tasks of a run

-- the ids that are known before a task, in the first run those of the tasks before it
abbrev seen : List RunReport → List (List ℕ) → List (List ℕ) → List (List ℕ)
seen [] done ids = done
seen (r ∷ rs) done ids = done ++ ids

seen_all : (runs : List RunReport) (done : List (List ℕ)) → seen runs done [] ≡ done
seen_all [] done = refl
seen_all (r ∷ rs) done = append-nil done

seen_more : (runs : List RunReport) (done ids : List (List ℕ)) (id : List ℕ) → ids_with runs (seen runs done (id ∷ ids)) id ≡ seen runs (done ++ id ∷ []) ids
seen_more [] done ids id = refl
seen_more (r ∷ rs) done ids id = sym (append_assoc done (id ∷ []) ids)

record AreNames (ids : List (List ℕ)) : Type 0 where
  named : AllByRecursion (λ id. is_id_in id ≡ true) ids
  distinct : AreDistinct ids
  few : length ids ≤ 2_000

name_at : (done ids : List (List ℕ)) (id : List ℕ) → AllByRecursion (λ id. is_id_in id ≡ true) (done ++ id ∷ ids) → is_id_in id ≡ true
name_at [] ids id named = named.0
name_at (d ∷ ds) ids id named = name_at ds ids id named.1

turn_of : (b : ReportSoFar) (o : OpenRun) (done ids : List (List ℕ)) (id : List ℕ) → is_given_task b.version o.task ≡ true → b.tasks ≡ seen b.runs done (id ∷ ids) → task_count_of o ≡ length done → AreNames (done ++ id ∷ ids) → IsTurn b o id
turn_of b o done ids id given known counted names = record {
  given = given;
  next = ap (λ l. is_next_in b.runs l (Some o) id) known ∙ next b.runs;
  at = ap (λ l. slice_get (ids_with b.runs l id) (task_count_of o)) known ∙ at b.runs;
}
  where
    next : (runs : List RunReport) → is_next_in runs (seen runs done (id ∷ ids)) (Some o) id ≡ true
    next [] = rw (name_at done ids id names.named, below_true (length done) 2_000 (omega (arith, names.few, length-append done (id ∷ ids))), not_there done ids id names.distinct) refl
    next (r ∷ rs) = text_true (slice_get (done ++ id ∷ ids) (task_count_of o)) id (get_at done ids id (task_count_of o) counted)

    at : (runs : List RunReport) → slice_get (ids_with runs (seen runs done (id ∷ ids)) id) (task_count_of o) ≡ Some id
    at [] = get_at done [] id (task_count_of o) counted
    at (r ∷ rs) = get_at done ids id (task_count_of o) counted

tasks_path : (b : ReportSoFar) (o : OpenRun) (done ids : List (List ℕ)) (ts : List TaskReport) → is_given_task b.version o.task ≡ true → b.tasks ≡ seen b.runs done ids → task_count_of o ≡ length done → length ids ≡ length ts → AreNames (done ++ ids) → AllByRecursion (IsShownTask b.version) ts
    → Reaches (record b { run = Some o }) (record b { tasks = done ++ ids; run = Some (opened_all o ts) })
tasks_path b o done [] [] given known counted same names shown =
    stays _ _ (ap (λ l. record b { tasks = l; run = Some o }) (known ∙ seen_all b.runs done ∙ sym (append-nil done)))
tasks_path b o done [] (t ∷ ts) given known counted same names shown = absurd (omega (arith, same))
tasks_path b o done (id ∷ ids) [] given known counted same names shown = absurd (omega (arith, same))
tasks_path b o done (id ∷ ids) (t ∷ ts) given known counted same names shown =
    let all : done ++ id ∷ ids ≡ (done ++ id ∷ []) ++ ids = sym (append_assoc done (id ∷ []) ids) in
    let c : ReportSoFar = record b { tasks = ids_with b.runs b.tasks id } in
    let rest = tasks_path c (opened o t) (done ++ id ∷ []) ids ts (opened_given b.version o t shown.0) (ap (λ l. ids_with b.runs l id) known ∙ seen_more b.runs done ids id)
    (omega (arith, opened_count b.version o t shown.0, counted, length-append done (id ∷ []))) (omega (arith, same)) (subst AreNames all names) shown.1 in
    reach_on _ (turned b o id (opened o t)) _ (task_path b o id t (turn_of b o done ids id given known counted names) shown.0)
    (subst (λ l. Reaches (record c { run = Some (opened o t) }) (record c { tasks = l; run = Some (opened_all (opened o t) ts) })) (sym all) rest)

-- ---- runs

abbrev bare : RunReport → OpenRun
bare r = record { run = record r { tasks = [] }; task = None }

seen_later : (rs : List RunReport) (r : RunReport) (ids : List (List ℕ)) → seen (rs ++ r ∷ []) [] ids ≡ ids
seen_later [] r ids = refl
seen_later (x ∷ xs) r ids = refl

-- the line of a run, and those of its tasks
run_path : (b : ReportSoFar) (ids : List (List ℕ)) (r : RunReport) → may_begin_in b r.interval ≡ true → b.tasks ≡ seen (runs_of b) [] ids → AreNames ids → IsShownRun b.version (length ids) r
    → Reaches b (record b { tasks = ids; runs = runs_of b; run = Some (opened_all (bare r) r.tasks) })
run_path b ids r begins known names shown =
    let c : ReportSoFar = record b { runs = runs_of b } in
    by_line b (record c { run = Some (bare r) }) _ (codes "@run" ++ 32 ∷ run_words (r.interval, r.state))
    (inr (inl (record { run = record r { tasks = [] }; bare = refl; good = shown.interval; spelled = refl; added = rw begins refl })))
    (tasks_path c (bare r) [] ids r.tasks refl known refl (sym shown.all) names shown.each)

closed_bare : (version : Version) (r : RunReport) → AllByRecursion (IsShownTask version) r.tasks → closed (opened_all (bare r) r.tasks) ≡ r
closed_bare version r shown = closed_all version (bare r) r.tasks shown

-- the report with the runs that are left
record Completes (b : ReportSoFar) (report : Report) : Type 0 where
  last : ReportSoFar
  path : Reaches b last
  whole : is_whole_at last ≡ true
  is : so_far last ≡ report

runs_path : (b : ReportSoFar) (o : OpenRun) (rs : List RunReport) → is_given_task b.version o.task ≡ true → task_count_of o ≡ length b.tasks → AreNames b.tasks → AllByRecursion (IsShownRun b.version (length b.tasks)) rs → Rise (closed o ∷ rs) → length b.runs + 1 + length rs ≤ 4_096
    → Completes (record b { run = Some o }) (record { version = b.version; dag_id = b.dag_id; tasks = b.tasks; runs = (b.runs ++ closed o ∷ []) ++ rs })
runs_path b o [] given whole names shown rise few = record {
  last = record b { run = Some o };
  path = stays _ _ refl;
  whole = rw (given, ap (λ n. n == length b.tasks) whole ∙ same_number (length b.tasks)) refl;
  is = ap (λ l. record { version = b.version; dag_id = b.dag_id; tasks = b.tasks; runs = l }) (sym (append-nil (b.runs ++ closed o ∷ [])));
}
runs_path b o (r ∷ rs) given whole names shown rise few =
    let before : ReportSoFar = record b { run = Some o } in
    let c : ReportSoFar = record b { runs = b.runs ++ closed o ∷ [] } in
    let p = opened_all (bare r) r.tasks in
    let same : closed p ≡ r = closed_bare b.version r shown.0.each in
    let begins : may_begin_in before r.interval ≡ true =
    rw (given, ap (λ n. n == length b.tasks) whole ∙ same_number (length b.tasks), below_true (run_count_of before) 4_096 (omega (arith, few)), later_true _ _ rise.0) refl in
    let path = run_path before b.tasks r begins (sym (seen_later b.runs (closed o) b.tasks)) names shown.0 in
    let counted : task_count_of p ≡ length b.tasks = sym (count_is p) ∙ ap (λ (x : RunReport). length x.tasks) same ∙ shown.0.all in
    let rest = runs_path c p rs (given_all b.version (bare r) r.tasks refl shown.0.each) counted names shown.1 (subst (λ x. Rise (x ∷ rs)) (sym same) rise.1) (omega (arith, few, length-append b.runs (closed o ∷ []))) in
    record {
      last = rest.last;
      path = reach_on _ _ _ path rest.path;
      whole = rest.whole;
      is = rest.is ∙ ap (λ l. record { version = b.version; dag_id = b.dag_id; tasks = b.tasks; runs = l })
          (ap (λ x. ((b.runs ++ closed o ∷ []) ++ x ∷ []) ++ rs) same ∙ append_assoc (b.runs ++ closed o ∷ []) (r ∷ []) rs);
    }

-- ---- the whole report

all_path : (report : Report) → IsShownReport report → Completes (start (head_of report)) report
all_path report shown = go report.runs refl
  where
    go : (runs : List RunReport) → report.runs ≡ runs → Completes (start (head_of report)) report
    go [] none = record {
      last = start (head_of report);
      path = stays _ _ refl;
      whole = refl;
      is = λ k. record { version = report.version; dag_id = report.dag_id; tasks = sym (shown.known none) k; runs = sym none k };
    }
    go (r ∷ rs) some =
        let names : AreNames report.tasks = record { named = shown.ids; distinct = shown.distinct; few = shown.few_tasks } in
        let each = subst (AllByRecursion (IsShownRun report.version (length report.tasks))) some shown.runs in
        let p = opened_all (bare r) r.tasks in
        let same : closed p ≡ r = closed_bare report.version r each.0.each in
        let b : ReportSoFar = record { version = report.version; dag_id = report.dag_id; tasks = report.tasks; runs = []; run = None } in
        let counted : task_count_of p ≡ length report.tasks = sym (count_is p) ∙ ap (λ (x : RunReport). length x.tasks) same ∙ each.0.all in
        let rest = runs_path b p rs (given_all report.version (bare r) r.tasks refl each.0.each) counted names each.1 (subst (λ x. Rise (x ∷ rs)) (sym same) (subst Rise some shown.rise)) (omega (arith, shown.few_runs, ap length some)) in
        record {
          last = rest.last;
          path = reach_on _ _ _ (run_path (start (head_of report)) report.tasks r refl refl names each.0) rest.path;
          whole = rest.whole;
          is = rest.is ∙ (λ k. record { version = report.version; dag_id = report.dag_id; tasks = report.tasks; runs = (ap (λ x. x ∷ rs) same ∙ sym some) k });
        }

pub starts : (report : Report) → IsShownReport report → Extends (start (head_of report)) report
unfolding Reaches
starts report shown =
    let all = all_path report shown in
    record { lines = all.path.0; last = all.last; leads = all.path.1; whole = all.whole; is = all.is }
