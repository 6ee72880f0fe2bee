-- The text of what was read grows by each line.
use Rattle.std.proofs.Common.{◌≡◌, ◌≤◌, ◌<◌, ◌&&◌, ℕ, zero, suc, ◌+◌, List, [], ◌∷◌, ◌++◌, length, Option, Some, None, is_some, unwrap_or, Bool, true, false, true≢false, not, cond, nat_lt, get_or, slice_get, decimal, codes, refl, sym, ap, ◌∙◌, subst, append_assoc, append-nil, arith, length-append}
use Rattle.std.specs.List.{flat_map, list_any}
use Rattle.std.specs.Str.{IsUtf8, bytes_eq}
use Rattle.std.specs.Cmp.Lexicographic.{bytes_decides}
use Rattle.std.proofs.lemmas.Bool.{and_parts, eqb-true}
use Rattle.std.proofs.lemmas.Option.{slice_get-get_or}
use Rattle.bf_plan.specs.Ids.{is_id_in}
use Rattle.bf_value.specs.declared.xval.Xval.{Xval}
use Rattle.bf_interval.specs.declared.interval.Interval.{Interval}
use Rattle.bf_xcom.specs.declared.values.TaskResult.{TaskResult}
use Rattle.bf_report.specs.declared.report.Version.{Version}
use Rattle.bf_report.specs.declared.report.Pull.{Pull}
use Rattle.bf_report.specs.declared.report.InstanceReport.{InstanceReport}
use Rattle.bf_report.specs.declared.report.TaskReport.{TaskReport}
use Rattle.bf_report.specs.declared.report.RunReport.{RunReport}
use Rattle.bf_report.specs.Report.{head_line, run_line, run_text, task_text, tasks_text, mapped_text, instance_text, instance_line}
use Rattle.bf_report.proofs.ReportFacts.{numbered_more}
use Rattle.bf_report.proofs.GivenFacts.{pull_more, item_more, last_more}
use Rattle.bf_report_reader.specs.declared.entry.Untried.{Untried}
use Rattle.bf_report_reader.specs.declared.entry.Entry.{Entry}
use Rattle.bf_report_reader.specs.declared.part.GivenPart.{GivenPart}
use Rattle.bf_report_reader.specs.Open.{OpenTask}
use Rattle.bf_report_reader.specs.declared.open.OpenRun.{OpenRun}
use Rattle.bf_report_reader.specs.declared.beginning.ReportSoFar.{ReportSoFar}
use Rattle.bf_report_reader.specs.inner.Parts.{part_text}
use Rattle.bf_report_reader.specs.inner.Rules.{IsOpenInstance, IsOpenTask, IsOpenRun, IsRuled}
use Rattle.bf_report_reader.specs.inner.Entries.{entry_text}
use Rattle.bf_report_reader.specs.Beginning.{task_with, open_task, tasks_in, open_count, task_count_of, closed, tells_item, most_told, has_item, untold, has_its_item_at, is_text, is_new_id_in, is_next_in, is_next_id_at, ids_with, is_further, is_further_task, goes_on_in, is_next_instance_at, put_task, put_open, further, put_further, with_task, with_open, with_further, with_entry}
use Rattle.bf_report_reader.specs.inner.Beginning.{IsCountedIn, IsCounted, opening_text, last_run, runs_of, run_count_of, takes_at, with_told, is_whole_in, is_whole_at, starts_before, takes_task, may_take_part_in, told, put_part, may_begin_in, with_run, with_part, so_far}
use Rattle.bf_report_reader.proofs.Words.{id_utf8}

-- the line of a task
abbrev pub entry_line : List ℕ → Entry → List ℕ
entry_line id e = (id ++ 32 ∷ entry_text e) ++ 10 ∷ []

-- a beginning has come from another by a line
pub record GrowsBy (old : ReportSoFar) (text : List ℕ) (new : ReportSoFar) : Type 0 where
  pub counted : IsCounted new
  pub read : opening_text (so_far new) ≡ opening_text (so_far old) ++ text

-- ---- lists

flat_push : {X : Type 0} (f : X → List ℕ) (xs : List X) (y : X) → flat_map f (xs ++ y ∷ []) ≡ flat_map f xs ++ f y
flat_push f [] y = append-nil (f y)
flat_push f (x ∷ xs) y = ap (λ t. f x ++ t) (flat_push f xs y) ∙ sym (append_assoc (f x) (flat_map f xs) (f y))

pub get_last : {X : Type 0} (xs : List X) (x : X) (n : ℕ) → n ≡ length xs → slice_get (xs ++ x ∷ []) n ≡ Some x
get_last [] x zero e = refl
get_last [] x (suc n) e = absurd (omega arith)
get_last (y ∷ ys) x zero e = absurd (omega arith)
get_last (y ∷ ys) x (suc n) e = get_last ys x n (omega arith)

pub get_within : (ids : List (List ℕ)) (id : List ℕ) (n : ℕ) → slice_get ids n ≡ Some id → n < length ids
get_within [] id n e = absurd (cc)
get_within (i ∷ is) id zero e = omega arith
get_within (i ∷ is) id (suc n) e = omega (arith, get_within is id n e)

pub if_some : {X : Type 0} (test : Bool) (x y : X) → cond test (Some x) None ≡ Some y → (test ≡ true) × (x ≡ y)
if_some true x y e = (refl, ap (λ o. unwrap_or o x) e)
if_some false x y e = absurd (cc)

pub is_text_of : (o : Option (List ℕ)) (id : List ℕ) → is_text o id ≡ true → o ≡ Some id
is_text_of None id e = absurd (true≢false (sym e))
is_text_of (Some text) id e = ap Some ((bytes_decides text id).0 e)

-- ---- the tasks of a run

no_tasks : (ids : List (List ℕ)) → tasks_text ids [] ≡ []
no_tasks [] = refl
no_tasks (id ∷ ids) = refl

task_at : (ids : List (List ℕ)) (ts : List TaskReport) (id : List ℕ) (t : TaskReport) → slice_get ids (length ts) ≡ Some id → tasks_text ids (ts ++ t ∷ []) ≡ tasks_text ids ts ++ task_text id t
task_at [] ts id t e = absurd (cc)
task_at (i ∷ is) [] id t e =
    let same : i ≡ id = ap (λ o. unwrap_or o i) e in
    ap (λ l. task_text i t ++ l) (no_tasks is) ∙ append-nil (task_text i t) ∙ ap (λ x. task_text x t) same
task_at (i ∷ is) (x ∷ ts) id t e = ap (λ l. task_text i x ++ l) (task_at is ts id t e) ∙ sym (append_assoc (task_text i x) (tasks_text is ts) (task_text id t))

more_ids : (ids more : List (List ℕ)) (ts : List TaskReport) → length ts ≤ length ids → tasks_text (ids ++ more) ts ≡ tasks_text ids ts
more_ids [] more [] h = no_tasks more
more_ids [] more (t ∷ ts) h = absurd (omega arith)
more_ids (i ∷ is) more [] h = refl
more_ids (i ∷ is) more (t ∷ ts) h = ap (λ l. task_text i t ++ l) (more_ids is more ts (omega arith))

open_long : (t : Option OpenTask) → length (open_task t) ≡ open_count t
open_long None = refl
open_long (Some t) = refl

pub count_is : (o : OpenRun) → length (tasks_in o) ≡ task_count_of o
count_is o = length-append o.run.tasks (open_task o.task) ∙ ap (λ n. length o.run.tasks + n) (open_long o.task)

-- what stands in a test of what may come next
pub next_parts : (b : ReportSoFar) (id : List ℕ) → is_next_id_at b id ≡ true → (has_its_item_at b ≡ true) × (is_next_in b.runs b.tasks b.run id ≡ true)
next_parts b id e = and_parts (has_its_item_at b) (is_next_in b.runs b.tasks b.run id) e

three_parts : (a b c : Bool) → (a && b) && c ≡ true → (a ≡ true) × ((b ≡ true) × (c ≡ true))
three_parts a b c e =
    let (both, third) = and_parts (a && b) c e in
    let (first, second) = and_parts a b both in
    (first, (second, third))

pub new_parts : (tasks : List (List ℕ)) (id : List ℕ) → is_new_id_in tasks id ≡ true → (is_id_in id ≡ true) × ((nat_lt (length tasks) 2_000 ≡ true) × (not (list_any (λ task. bytes_eq task id) tasks) ≡ true))
new_parts tasks id e = three_parts (is_id_in id) (nat_lt (length tasks) 2_000) (not (list_any (λ task. bytes_eq task id) tasks)) e

pub pull_parts : (version : Version) (complete : Bool) (x : InstanceReport) (p : Pull) → takes_at version complete x (GivenPart.Pull p) ≡ true
    → (complete ≡ true) × ((nat_lt (length x.pulls) (most_told version) ≡ true) × (not (list_any (λ q. bytes_eq q.task p.task) x.pulls) ≡ true))
pull_parts version complete x p e = three_parts complete (nat_lt (length x.pulls) (most_told version)) (not (list_any (λ q. bytes_eq q.task p.task) x.pulls)) e

-- the id of a task of the first run is UTF-8
pub first_utf8 : (runs : List RunReport) (tasks : List (List ℕ)) (run : Option OpenRun) (id : List ℕ) → length runs ≡ 0 → is_next_in runs tasks run id ≡ true → IsUtf8 id
first_utf8 [] tasks None id first next = absurd (true≢false (sym next))
first_utf8 [] tasks (Some o) id first next = id_utf8 id (new_parts tasks id next).0
first_utf8 (r ∷ rs) tasks run id first next = absurd (omega (arith, first))

pub further_parts : (b : ReportSoFar) (id : List ℕ) (index : ℕ) → is_next_instance_at b id index ≡ true → (has_its_item_at b ≡ true) × (goes_on_in b.tasks b.run id index ≡ true)
further_parts b id index e = and_parts (has_its_item_at b) (goes_on_in b.tasks b.run id index) e

pub whole_parts : (b : ReportSoFar) → is_whole_at b ≡ true → (has_its_item_at b ≡ true) × (is_whole_in b.run b.tasks ≡ true)
whole_parts b e = and_parts (has_its_item_at b) (is_whole_in b.run b.tasks) e

pub begin_parts : (b : ReportSoFar) (i : Interval) → may_begin_in b i ≡ true → (is_whole_at b ≡ true) × ((nat_lt (run_count_of b) 4_096 ≡ true) × (starts_before b.run i ≡ true))
begin_parts b i e = three_parts (is_whole_at b) (nat_lt (run_count_of b) 4_096) (starts_before b.run i) e

-- a run with one more task
run_more : (ids : List (List ℕ)) (run : RunReport) (ts us : List TaskReport) (id : List ℕ) (t : TaskReport) → slice_get ids (length ts) ≡ Some id → us ≡ ts ++ t ∷ []
    → run_text ids (record run { tasks = us }) ≡ run_text ids (record run { tasks = ts }) ++ task_text id t
run_more ids run ts us id t at e =
    ap (λ l. run_line run ++ l) (ap (tasks_text ids) e ∙ task_at ids ts id t at) ∙ sym (append_assoc (run_line run) (tasks_text ids ts) (task_text id t))

-- ---- all runs, with one more task in the last

one_more : (runs : List RunReport) (ids : List (List ℕ)) (o : OpenRun) (new : OpenRun) (id : List ℕ) (t : TaskReport) → closed new ≡ record o.run { tasks = tasks_in o ++ t ∷ [] }
    → IsCountedIn runs ids (Some o) → is_next_in runs ids (Some o) id ≡ true
    → flat_map (run_text (ids_with runs ids id)) (runs ++ closed new ∷ []) ≡ flat_map (run_text ids) (runs ++ closed o ∷ []) ++ task_text id t
one_more [] ids o new id t is counted next =
    let all : List (List ℕ) = ids ++ id ∷ [] in
    let size : length (tasks_in o) ≡ length ids = count_is o ∙ counted in
    append-nil (run_text all (closed new)) ∙ ap (run_text all) is
    ∙ run_more all o.run (tasks_in o) (tasks_in o ++ t ∷ []) id t (get_last ids id (length (tasks_in o)) size) refl
    ∙ ap (λ l. (run_line o.run ++ l) ++ task_text id t) (more_ids ids (id ∷ []) (tasks_in o) (omega (arith, size)))
    ∙ ap (λ l. l ++ task_text id t) (sym (append-nil (run_text ids (closed o))))
one_more (r ∷ rs) ids o new id t is counted next =
    let at : slice_get ids (length (tasks_in o)) ≡ Some id = ap (slice_get ids) (count_is o) ∙ is_text_of (slice_get ids (task_count_of o)) id next in
    flat_push (run_text ids) (r ∷ rs) (closed new)
    ∙ ap (λ l. flat_map (run_text ids) (r ∷ rs) ++ l) (ap (run_text ids) is ∙ run_more ids o.run (tasks_in o) (tasks_in o ++ t ∷ []) id t at refl)
    ∙ sym (append_assoc (flat_map (run_text ids) (r ∷ rs)) (run_text ids (closed o)) (task_text id t))
    ∙ ap (λ l. l ++ task_text id t) (sym (flat_push (run_text ids) (r ∷ rs) (closed o)))

counts_more : (runs : List RunReport) (ids : List (List ℕ)) (o new : OpenRun) (id : List ℕ) → task_count_of new ≡ task_count_of o + 1
    → IsCountedIn runs ids (Some o) → is_next_in runs ids (Some o) id ≡ true → IsCountedIn runs (ids_with runs ids id) (Some new)
counts_more [] ids o new id more counted next = omega (arith, more, counted, length-append ids (id ∷ []))
counts_more (r ∷ rs) ids o new id more counted next = omega (arith, more, get_within ids id (task_count_of o) (is_text_of (slice_get ids (task_count_of o)) id next))

-- ---- a task without a try

pub task_grows : (b c : ReportSoFar) (id : List ℕ) (t : TaskReport) → IsCounted b → with_task b id t ≡ Some c → GrowsBy b (task_text id t) c
task_grows b c id t counted e =
    let (next, is) = if_some (is_next_id_at b id) _ c e in
    let P : ReportSoFar → Type 0 = λ x. GrowsBy b (task_text id t) x in
    subst P is (grown b.run counted (next_parts b id next).1)
  where
    grown : (run : Option OpenRun) → IsCountedIn b.runs b.tasks run → is_next_in b.runs b.tasks run id ≡ true
        → GrowsBy (record b { run = run }) (task_text id t) (record b { tasks = ids_with b.runs b.tasks id; run = put_task run t })
    grown None counted next = absurd (true≢false (sym next))
    grown (Some o) counted next =
        let new : OpenRun = record { run = record o.run { tasks = tasks_in o ++ t ∷ [] }; task = None } in
        let same : tasks_in new ≡ tasks_in o ++ t ∷ [] = append-nil (tasks_in o ++ t ∷ []) in
        record {
          counted = counts_more b.runs b.tasks o new id (omega (arith, length-append (tasks_in o) (t ∷ []), count_is o)) counted next;
          read = ap (λ l. head_line b.version b.dag_id ++ l) (one_more b.runs b.tasks o new id t (ap (λ ts. record o.run { tasks = ts }) same) counted next)
              ∙ sym (append_assoc (head_line b.version b.dag_id) (flat_map (run_text b.tasks) (b.runs ++ closed o ∷ [])) (task_text id t));
        }

-- ---- a task that may have more lines

pub open_grows : (b c : ReportSoFar) (id : List ℕ) (t : OpenTask) → IsCounted b → with_open b id t ≡ Some c → GrowsBy b (task_text id (task_with t.before t.instance)) c
open_grows b c id t counted e =
    let (next, is) = if_some (is_next_id_at b id) _ c e in
    let P : ReportSoFar → Type 0 = λ x. GrowsBy b (task_text id (task_with t.before t.instance)) x in
    subst P is (grown b.run counted (next_parts b id next).1)
  where
    grown : (run : Option OpenRun) → IsCountedIn b.runs b.tasks run → is_next_in b.runs b.tasks run id ≡ true
        → GrowsBy (record b { run = run }) (task_text id (task_with t.before t.instance)) (record b { tasks = ids_with b.runs b.tasks id; run = put_open run t })
    grown None counted next = absurd (true≢false (sym next))
    grown (Some o) counted next =
        let new : OpenRun = record { run = closed o; task = Some t } in
        let report : TaskReport = task_with t.before t.instance in
        record {
          counted = counts_more b.runs b.tasks o new id (omega (arith, count_is o)) counted next;
          read = ap (λ l. head_line b.version b.dag_id ++ l) (one_more b.runs b.tasks o new id report refl counted next)
              ∙ sym (append_assoc (head_line b.version b.dag_id) (flat_map (run_text b.tasks) (b.runs ++ closed o ∷ [])) (task_text id report));
        }

-- an instance of which its own line was read
untold_text : (id index : List ℕ) (r : TaskResult) → instance_text id index (untold r) ≡ instance_line id index r
untold_text id index r = append-nil (instance_line id index r)

first_text : (id : List ℕ) (r : TaskResult) → mapped_text id (untold r ∷ []) ≡ instance_line id (decimal 0) r
first_text id r = append-nil (instance_text id (decimal 0) (untold r)) ∙ untold_text id (decimal 0) r

-- ---- the last task is longer

-- a run whose last task has a longer text
run_longer : (ids : List (List ℕ)) (run : RunReport) (old new : TaskReport) (id more : List ℕ) → slice_get ids (length run.tasks) ≡ Some id → task_text id new ≡ task_text id old ++ more
    → run_text ids (record run { tasks = run.tasks ++ new ∷ [] }) ≡ run_text ids (record run { tasks = run.tasks ++ old ∷ [] }) ++ more
run_longer ids run old new id more at longer =
    run_more ids run run.tasks (run.tasks ++ new ∷ []) id new at refl
    ∙ ap (λ l. run_text ids run ++ l) longer
    ∙ sym (append_assoc (run_text ids run) (task_text id old) more)
    ∙ ap (λ l. l ++ more) (sym (run_more ids run run.tasks (run.tasks ++ old ∷ []) id old at refl))

same_count : (runs : List RunReport) (ids : List (List ℕ)) (o new : OpenRun) → task_count_of new ≡ task_count_of o → IsCountedIn runs ids (Some o) → IsCountedIn runs ids (Some new)
same_count [] ids o new same counted = same ∙ counted
same_count (r ∷ rs) ids o new same counted = omega (arith, same, counted)

-- a run whose open task is t
abbrev with_last : ReportSoFar → RunReport → OpenTask → ReportSoFar
with_last b run t = record b { run = Some (record { run = run; task = Some t }) }

last_grows : (b : ReportSoFar) (run : RunReport) (t u : OpenTask) (id more : List ℕ) → IsCountedIn b.runs b.tasks (Some (record { run = run; task = Some t })) → slice_get b.tasks (length run.tasks) ≡ Some id
    → task_text id (task_with u.before u.instance) ≡ task_text id (task_with t.before t.instance) ++ more → GrowsBy (with_last b run t) more (with_last b run u)
last_grows b run t u id more counted at longer =
    let o : OpenRun = record { run = run; task = Some t } in
    let new : OpenRun = record { run = run; task = Some u } in
    record {
      counted = same_count b.runs b.tasks o new refl counted;
      read = ap (λ l. head_line b.version b.dag_id ++ l)
          (flat_push (run_text b.tasks) b.runs (closed new)
          ∙ ap (λ l. flat_map (run_text b.tasks) b.runs ++ l) (run_longer b.tasks run (task_with t.before t.instance) (task_with u.before u.instance) id more at longer)
          ∙ sym (append_assoc (flat_map (run_text b.tasks) b.runs) (run_text b.tasks (closed o)) more)
          ∙ ap (λ l. l ++ more) (sym (flat_push (run_text b.tasks) b.runs (closed o))))
          ∙ sym (append_assoc (head_line b.version b.dag_id) (flat_map (run_text b.tasks) (b.runs ++ closed o ∷ [])) more);
    }

-- ---- a further instance

further_text : (id : List ℕ) (xs : List InstanceReport) (x : InstanceReport) (r : TaskResult) (index : ℕ) → length xs + 1 ≡ index
    → mapped_text id ((xs ++ x ∷ []) ++ untold r ∷ []) ≡ mapped_text id (xs ++ x ∷ []) ++ instance_line id (decimal index) r
further_text id xs x r index is =
    numbered_more (λ p. instance_text id (decimal p.0) p.1) 0 index (xs ++ x ∷ []) (untold r) (omega (arith, is, length-append xs (x ∷ [])))
    ∙ ap (λ l. mapped_text id (xs ++ x ∷ []) ++ l) (untold_text id (decimal index) r)

pub further_grows : (b c : ReportSoFar) (id : List ℕ) (index : ℕ) (r : TaskResult) → IsCounted b → with_further b id index r ≡ Some c → GrowsBy b (instance_line id (decimal index) r) c
further_grows b c id index r counted e =
    let (next, is) = if_some (is_next_instance_at b id index) _ c e in
    let P : ReportSoFar → Type 0 = λ x. GrowsBy b (instance_line id (decimal index) r) x in
    subst P is (grown b.run counted (further_parts b id index next).1)
  where
    last : (run : RunReport) (before : Option (List InstanceReport)) (x : InstanceReport) → IsCountedIn b.runs b.tasks (Some (record { run = run; task = Some (record { before = before; instance = x }) }))
        → is_further before index ≡ true → slice_get b.tasks (length run.tasks) ≡ Some id
        → GrowsBy (with_last b run (record { before = before; instance = x })) (instance_line id (decimal index) r) (with_last b run (further (record { before = before; instance = x }) r))
    last run None x counted number at = absurd (true≢false (sym number))
    last run (Some xs) x counted number at =
        last_grows b run (record { before = Some xs; instance = x }) (record { before = Some (xs ++ x ∷ []); instance = untold r }) id (instance_line id (decimal index) r) counted at
        (further_text id xs x r index (eqb-true _ _ number))

    open_last : (run : RunReport) (task : Option OpenTask) → IsCountedIn b.runs b.tasks (Some (record { run = run; task = task })) → is_further_task task index ≡ true → slice_get b.tasks (length run.tasks) ≡ Some id
        → GrowsBy (record b { run = Some (record { run = run; task = task }) }) (instance_line id (decimal index) r) (record b { run = put_further (Some (record { run = run; task = task })) r })
    open_last run None counted number at = absurd (true≢false (sym number))
    open_last run (Some t) counted number at = last run t.before t.instance counted number at

    grown : (run : Option OpenRun) → IsCountedIn b.runs b.tasks run → goes_on_in b.tasks run id index ≡ true
        → GrowsBy (record b { run = run }) (instance_line id (decimal index) r) (record b { run = put_further run r })
    grown None counted next = absurd (true≢false (sym next))
    grown (Some o) counted next =
        let (number, at) = and_parts (is_further_task o.task index) (is_text (slice_get b.tasks (length o.run.tasks)) id) next in
        open_last o.run o.task counted number (is_text_of _ id at)

-- ---- what a line says of a task

pub entry_grows : (b c : ReportSoFar) (id : List ℕ) (e : Entry) → IsCounted b → with_entry b id e ≡ Some c → GrowsBy b (entry_line id e) c
unfolding with_entry
entry_grows b c id (Entry.Never Untried.NoStatus) counted e = task_grows b c id TaskReport.NoStatus counted e
entry_grows b c id (Entry.Never Untried.Skipped) counted e = task_grows b c id TaskReport.Skipped counted e
entry_grows b c id (Entry.Never Untried.UpstreamFailed) counted e = task_grows b c id TaskReport.UpstreamFailed counted e
entry_grows b c id (Entry.Tried None r) counted e =
    let P : List ℕ → Type 0 = λ l. GrowsBy b l c in
    subst P (untold_text id (codes "-1") r) (open_grows b c id (record { before = None; instance = untold r }) counted e)
entry_grows b c id (Entry.Tried (Some zero) r) counted e =
    let P : List ℕ → Type 0 = λ l. GrowsBy b l c in
    subst P (first_text id r) (open_grows b c id (record { before = Some []; instance = untold r }) counted e)
entry_grows b c id (Entry.Tried (Some (suc n)) r) counted e = further_grows b c id (suc n) r counted e

-- ---- a part of what an instance was given

pub no_item : (is_told : Bool) (item : Option Xval) → has_item is_told item ≡ false → item ≡ None
no_item is_told None lacks = refl
no_item is_told (Some v) lacks = absurd (true≢false lacks)

pub not_true : (b : Bool) → not b ≡ true → b ≡ false
not_true true e = absurd (true≢false (sym e))
not_true false e = refl

-- the line of a part
abbrev pub part_line : GivenPart → List ℕ
part_line part = part_text part ++ 10 ∷ []

part_longer : (version : Version) (expanded : Bool) (id index : List ℕ) (x : InstanceReport) (part : GivenPart) → IsOpenInstance version expanded x → takes_at version (has_item (tells_item version expanded) x.item) x part ≡ true
    → instance_text id index (with_told x part) ≡ instance_text id index x ++ part_line part
part_longer version expanded id index x (GivenPart.Item v) good takes_at =
    let lacks = not_true (has_item (tells_item version expanded) x.item) takes_at in
    item_more id index x v (no_item (tells_item version expanded) x.item lacks) (good.in_order lacks)
part_longer version expanded id index x (GivenPart.Pull p) good takes = pull_more id index x p

-- a task whose last instance has a longer text
task_longer : (id : List ℕ) (before : Option (List InstanceReport)) (x y : InstanceReport) (more : List ℕ) → ((index : List ℕ) → instance_text id index y ≡ instance_text id index x ++ more)
    → task_text id (task_with before y) ≡ task_text id (task_with before x) ++ more
task_longer id None x y more same = same (codes "-1")
task_longer id (Some xs) x y more same = last_more id xs x y more same

-- the task that stands last has an id
last_id : (runs : List RunReport) (ids : List (List ℕ)) (run : RunReport) (t : OpenTask) → IsCountedIn runs ids (Some (record { run = run; task = Some t })) → slice_get ids (length run.tasks) ≡ Some (get_or ids (length run.tasks) [])
last_id [] ids run t counted = slice_get-get_or ids (length run.tasks) [] (omega (arith, counted))
last_id (r ∷ rs) ids run t counted = slice_get-get_or ids (length run.tasks) [] (omega (arith, counted))

pub part_grows : (b c : ReportSoFar) (part : GivenPart) → IsCounted b → IsRuled b → with_part b part ≡ Some c → GrowsBy b (part_line part) c
part_grows b c part counted ruled e =
    let (next, is) = if_some (may_take_part_in b.version b.run part) _ c e in
    let P : ReportSoFar → Type 0 = λ x. GrowsBy b (part_line part) x in
    subst P is (grown b.run counted ruled.last next)
  where
    open_last : (run : RunReport) (task : Option OpenTask) → IsCountedIn b.runs b.tasks (Some (record { run = run; task = task })) → IsOpenTask b.version task → takes_task b.version task part ≡ true
        → GrowsBy (record b { run = Some (record { run = run; task = task }) }) (part_line part) (record b { run = put_part (Some (record { run = run; task = task })) part })
    open_last run None counted good next = absurd (true≢false (sym next))
    open_last run (Some t) counted good next =
        let id = get_or b.tasks (length run.tasks) [] in
        last_grows b run t (told t part) id (part_line part) counted (last_id b.runs b.tasks run t counted)
        (task_longer id t.before t.instance (with_told t.instance part) (part_line part) (λ index. part_longer b.version (is_some t.before) id index t.instance part good.1 next))

    grown : (run : Option OpenRun) → IsCountedIn b.runs b.tasks run → IsOpenRun b.version run → may_take_part_in b.version run part ≡ true → GrowsBy (record b { run = run }) (part_line part) (record b { run = put_part run part })
    grown None counted good next = absurd (true≢false (sym next))
    grown (Some o) counted good next = open_last o.run o.task counted good.2 next

-- ---- a run

run_begins : (runs : List RunReport) (ids : List (List ℕ)) (run : Option OpenRun) (o : OpenRun) → task_count_of o ≡ 0 → IsCountedIn runs ids run → IsCountedIn (runs ++ last_run run) ids (Some o)
run_begins [] ids None o none counted = none ∙ ap length (sym counted)
run_begins [] ids (Some p) o none counted = omega (arith, none)
run_begins (r ∷ rs) ids None o none counted = absurd counted
run_begins (r ∷ rs) ids (Some p) o none counted = omega (arith, none)

pub run_grows : (b c : ReportSoFar) (run : RunReport) → run.tasks ≡ [] → IsCounted b → with_run b run ≡ Some c → GrowsBy b (run_line run) c
run_grows b c run none counted e =
    let (next, is) = if_some (may_begin_in b run.interval) _ c e in
    let o : OpenRun = record { run = run; task = None } in
    let P : ReportSoFar → Type 0 = λ x. GrowsBy b (run_line run) x in
    let bare : run_text b.tasks (closed o) ≡ run_line run = ap (λ ts. run_line run ++ tasks_text b.tasks (ts ++ [])) none ∙ ap (λ l. run_line run ++ l) (no_tasks b.tasks) ∙ append-nil (run_line run) in
    subst P is (record {
      counted = run_begins b.runs b.tasks b.run o (ap (λ ts. length ts + 0) none) counted;
      read = ap (λ l. head_line b.version b.dag_id ++ l) (flat_push (run_text b.tasks) (runs_of b) (closed o) ∙ ap (λ l. flat_map (run_text b.tasks) (runs_of b) ++ l) bare)
          ∙ sym (append_assoc (head_line b.version b.dag_id) (flat_map (run_text b.tasks) (runs_of b)) (run_line run));
    })
