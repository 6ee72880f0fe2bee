-- What was read keeps the rules of a report.
use Rattle.std.proofs.Common.{◌≡◌, ◌≢◌, ◌<◌, ◌<ℤ◌, ◌==◌, ℕ, zero, suc, ℤ, List, [], ◌∷◌, ◌++◌, length, map, get_or, Option, Some, None, is_some, Bool, true, false, true≢false, not, int_lt, slice_get, refl, sym, ap, ◌∙◌, subst, arith, length-append, inl, inr}
use Rattle.std.specs.List.{list_any, AllByRecursion}
use Rattle.std.specs.Str.{bytes_eq}
use Rattle.std.specs.Cmp.Lexicographic.{bytes_decides}
use Rattle.std.proofs.lemmas.Int.{ints}
use Rattle.std.proofs.lemmas.Bool.{and_parts, eqb-true, cases_Bool, ltb-true}
use Rattle.std.proofs.lemmas.List.{map-append}
use Rattle.std.proofs.lemmas.List.Quantifiers.{all_pairs_push}
use Rattle.bf_plan.specs.Ids.{is_id_in}
use Rattle.bf_value.specs.Distinct.{AreDistinct}
use Rattle.bf_value.specs.declared.xval.Xval.{Xval}
use Rattle.bf_xcom.specs.declared.values.TaskResult.{TaskResult}
use Rattle.bf_report.specs.declared.report.Version.{Version}
use Rattle.bf_report.specs.declared.report.Pull.{Pull}
use Rattle.bf_report.specs.declared.report.InstanceReport.{InstanceReport}
use Rattle.bf_report.specs.declared.report.TaskReport.{TaskReport}
use Rattle.bf_report.specs.declared.report.RunReport.{RunReport}
use Rattle.bf_report.proofs.DatedFacts.{all_more}
use Rattle.bf_report_reader.specs.declared.entry.Untried.{Untried}
use Rattle.bf_report_reader.specs.declared.entry.Entry.{Entry}
use Rattle.bf_report_reader.specs.declared.part.GivenPart.{GivenPart}
use Rattle.bf_report_reader.specs.Open.{OpenTask}
use Rattle.bf_report_reader.specs.declared.open.OpenRun.{OpenRun}
use Rattle.bf_report_reader.specs.declared.beginning.ReportSoFar.{ReportSoFar}
use Rattle.bf_report_reader.specs.Entries.{IsShownResult}
use Rattle.bf_report_reader.specs.inner.Entries.{IsEntry}
use Rattle.bf_report_reader.specs.Runs.{IsRunInterval}
use Rattle.bf_report_reader.specs.inner.Parts.{IsPart}
use Rattle.bf_report_reader.specs.Beginning.{task_with, open_task, tasks_in, task_count_of, closed, tells_item, most_told, has_item, untold, is_given_task, is_given_in, is_text, is_next_in, is_next_id_at, ids_with, is_further, is_further_task, goes_on_in, is_next_instance_at, put_task, put_open, further, put_further, with_task, with_open, with_further, with_entry}
use Rattle.bf_report_reader.specs.inner.Beginning.{IsCountedIn, IsCounted, last_run, so_far, run_count_of, takes_at, with_told, is_whole_in, is_whole_at, starts_before, takes_task, may_take_part_in, told, put_part, may_begin_in, with_run, with_part}
use Rattle.bf_report_reader.specs.Rules.{AreToldPulls, IsShownInstance, IsShownTask, IsShownRun, Rise, IsShownReport}
use Rattle.bf_report_reader.specs.inner.Rules.{AreShownBefore, IsOpenInstance, IsOpenTask, IsOpenRun, IsRuled, KeepsRules}
use Rattle.bf_report_reader.proofs.Growth.{if_some, count_is, next_parts, further_parts, begin_parts, whole_parts, not_true, new_parts, pull_parts}

-- ---- lists

rise_same : (rs : List RunReport) (a b : RunReport) → a.interval ≡ b.interval → Rise (rs ++ a ∷ []) → Rise (rs ++ b ∷ [])
rise_same [] a b same rise = tt
rise_same (r ∷ []) a b same rise = (subst (λ i. r.interval.start.nanosecond <ℤ i.start.nanosecond) same rise.0, tt)
rise_same (r ∷ s ∷ rs) a b same rise = (rise.0, rise_same (s ∷ rs) a b same rise.1)

rise_push : (rs : List RunReport) (a b : RunReport) → a.interval.start.nanosecond <ℤ b.interval.start.nanosecond → Rise (rs ++ a ∷ []) → Rise ((rs ++ a ∷ []) ++ b ∷ [])
rise_push [] a b later rise = (later, tt)
rise_push (r ∷ []) a b later rise = (rise.0, (later, tt))
rise_push (r ∷ s ∷ rs) a b later rise = (rise.0, rise_push (s ∷ rs) a b later rise.1)

none_there : (ids : List (List ℕ)) (id : List ℕ) → not (list_any (λ task. bytes_eq task id) ids) ≡ true → (k : ℕ) (d : List ℕ) → k < length ids → get_or ids k d ≢ id
none_there [] id e k d h = absurd (omega arith)
none_there (i ∷ is) id e zero d h = λ same. let there = (bytes_decides i id).1 same in absurd (true≢false (sym e ∙ rw there refl))
none_there (i ∷ is) id e (suc k) d h = elim (cases_Bool (bytes_eq i id)) [
  | inl there ↦ absurd (true≢false (sym e ∙ rw there refl))
  | inr other ↦ none_there is id (rw other at e) k d (omega arith)
]

-- ---- instances

pub whole_instance : (version : Version) (expanded : Bool) (x : InstanceReport) → IsOpenInstance version expanded x → has_item (tells_item version expanded) x.item ≡ true → IsShownInstance version expanded x
whole_instance version expanded x good complete = record { result = good.result; item = good.item; complete = complete; pulls = good.pulls }

untold_open : (version : Version) (expanded : Bool) (r : TaskResult) → IsShownResult r → IsOpenInstance version expanded (untold r)
untold_open version expanded r good = record {
  result = good;
  item = tt;
  pulls = record { few = omega arith; distinct = λ i j d h k. absurd (omega (arith, k)); each = tt };
  in_order = λ lacks. refl;
}

is_told_item : (is_told : Bool) (item : Option Xval) → has_item is_told item ≡ false → is_told ≡ true
is_told_item true item lacks = refl
is_told_item false None lacks = absurd (true≢false lacks)
is_told_item false (Some v) lacks = absurd (true≢false lacks)

none_pulled : (pulls : List Pull) (id : List ℕ) → not (list_any (λ q. bytes_eq q.task id) pulls) ≡ true → (k : ℕ) (d : List ℕ) → k < length (map (λ (p : Pull). p.task) pulls) → get_or (map (λ (p : Pull). p.task) pulls) k d ≢ id
none_pulled [] id e k d h = absurd (omega arith)
none_pulled (p ∷ ps) id e zero d h = λ same. let there = (bytes_decides p.task id).1 same in absurd (true≢false (sym e ∙ rw there refl))
none_pulled (p ∷ ps) id e (suc k) d h = elim (cases_Bool (bytes_eq p.task id)) [
  | inl there ↦ absurd (true≢false (sym e ∙ rw there refl))
  | inr other ↦ none_pulled ps id (rw other at e) k d (omega arith)
]

-- one more pull
pulls_told : (version : Version) (pulls : List Pull) (p : Pull) → AreToldPulls version pulls → IsPart (GivenPart.Pull p) → length pulls < most_told version → not (list_any (λ q. bytes_eq q.task p.task) pulls) ≡ true → AreToldPulls version (pulls ++ p ∷ [])
pulls_told version pulls p told good few other = record {
  few = omega (arith, few, length-append pulls (p ∷ []));
  distinct = subst AreDistinct (sym (map-append (λ (q : Pull). q.task) pulls (p ∷ []))) (all_pairs_push (λ a b. a ≢ b) (map (λ (q : Pull). q.task) pulls) p.task told.distinct (none_pulled pulls p.task other));
  each = all_more _ pulls p told.each good;
}

told_open : (version : Version) (expanded : Bool) (x : InstanceReport) (part : GivenPart) → IsPart part → IsOpenInstance version expanded x → takes_at version (has_item (tells_item version expanded) x.item) x part ≡ true
    → IsOpenInstance version expanded (with_told x part)
told_open version expanded x (GivenPart.Item v) good begun next =
    let lacks = not_true (has_item (tells_item version expanded) x.item) next in
    record { result = begun.result; item = (is_told_item (tells_item version expanded) x.item lacks, good); pulls = begun.pulls; in_order = λ none. absurd (true≢false none) }
told_open version expanded x (GivenPart.Pull p) good begun next =
    let (complete, (few, other)) = pull_parts version (has_item (tells_item version expanded) x.item) x p next in
    record {
      result = begun.result;
      item = begun.item;
      pulls = pulls_told version x.pulls p begun.pulls good (ltb-true (length x.pulls) (most_told version) few) other;
      in_order = λ lacks. absurd (true≢false (sym complete ∙ lacks));
    }

-- ---- tasks

before_each : (version : Version) (before : Option (List InstanceReport)) (x : InstanceReport) → AreShownBefore version before → IsShownInstance version (is_some before) x → IsShownTask version (task_with before x)
before_each version None x each last = last
before_each version (Some xs) x each last = (omega (arith, length-append xs (x ∷ [])), omega (arith, each.0, length-append xs (x ∷ [])), all_more _ xs x each.1 last)

open_each : (version : Version) (task : Option OpenTask) → is_given_task version task ≡ true → IsOpenTask version task → AllByRecursion (IsShownTask version) (open_task task)
open_each version None given good = tt
open_each version (Some t) given good = (before_each version t.before t.instance good.0 (whole_instance version (is_some t.before) t.instance good.1 given), tt)

each_more : {X : Type 0} (P : X → Type 0) (xs ys : List X) → AllByRecursion P xs → AllByRecursion P ys → AllByRecursion P (xs ++ ys)
each_more P [] ys a b = b
each_more P (x ∷ xs) ys a b = (a.0, each_more P xs ys a.1 b)

tasks_each : (version : Version) (o : OpenRun) → is_given_in version (Some o) ≡ true → IsOpenRun version (Some o) → AllByRecursion (IsShownTask version) (tasks_in o)
tasks_each version o given shown = each_more (IsShownTask version) o.run.tasks (open_task o.task) shown.1 (open_each version o.task given shown.2)

-- ---- the ids

-- the ids with the next one, and the runs before
record AreNamed (version : Version) (runs : List RunReport) (ids : List (List ℕ)) : Type 0 where
  named : AllByRecursion (λ id. is_id_in id ≡ true) ids
  distinct : AreDistinct ids
  shown : AllByRecursion (IsShownRun version (length ids)) runs

names : (version : Version) (runs : List RunReport) (ids : List (List ℕ)) (o : OpenRun) (id : List ℕ) → is_next_in runs ids (Some o) id ≡ true → AllByRecursion (λ id. is_id_in id ≡ true) ids → AreDistinct ids
    → AllByRecursion (IsShownRun version (length ids)) runs → AreNamed version runs (ids_with runs ids id)
names version [] ids o id next named distinct shown =
    let (good, (few, other)) = new_parts ids id next in
    record { named = all_more (λ id. is_id_in id ≡ true) ids id named good; distinct = all_pairs_push (λ a b. a ≢ b) ids id distinct (none_there ids id other); shown = tt }
names version (r ∷ rs) ids o id next named distinct shown = record { named = named; distinct = distinct; shown = shown }

-- ---- a line of a task

-- the last run has changed but for its interval
put_ruled : (b : ReportSoFar) (o new : OpenRun) (id : List ℕ) → IsRuled (record b { run = Some o }) → is_next_in b.runs b.tasks (Some o) id ≡ true → new.run.interval ≡ o.run.interval → IsOpenRun b.version (Some new)
    → IsRuled (record b { tasks = ids_with b.runs b.tasks id; run = Some new })
put_ruled b o new id ruled next same shown =
    let named = names b.version b.runs b.tasks o id next ruled.ids ruled.distinct ruled.runs in
    record {
      dag_id = ruled.dag_id;
      ids = named.named;
      distinct = named.distinct;
      runs = named.shown;
      last = shown;
      few_runs = ruled.few_runs;
      rise = rise_same b.runs (closed o) (closed new) (sym same) ruled.rise;
    }

task_ruled : (b c : ReportSoFar) (id : List ℕ) (t : TaskReport) → IsShownTask b.version t → IsRuled b → with_task b id t ≡ Some c → IsRuled c
task_ruled b c id t good ruled e =
    let (next, is) = if_some (is_next_id_at b id) _ c e in
    let (given, first) = next_parts b id next in
    subst IsRuled is (go b.run ruled given first)
  where
    go : (run : Option OpenRun) → IsRuled (record b { run = run }) → is_given_in b.version run ≡ true → is_next_in b.runs b.tasks run id ≡ true → IsRuled (record b { tasks = ids_with b.runs b.tasks id; run = put_task run t })
    go None ruled given next = absurd (true≢false (sym next))
    go (Some o) ruled given next =
        let new : OpenRun = record { run = record o.run { tasks = tasks_in o ++ t ∷ [] }; task = None } in
        put_ruled b o new id ruled next refl (ruled.last.0, all_more (IsShownTask b.version) (tasks_in o) t (tasks_each b.version o given ruled.last) good, tt)

opened_ruled : (b c : ReportSoFar) (id : List ℕ) (t : OpenTask) → IsOpenTask b.version (Some t) → IsRuled b → with_open b id t ≡ Some c → IsRuled c
opened_ruled b c id t good ruled e =
    let (next, is) = if_some (is_next_id_at b id) _ c e in
    let (given, first) = next_parts b id next in
    subst IsRuled is (go b.run ruled given first)
  where
    go : (run : Option OpenRun) → IsRuled (record b { run = run }) → is_given_in b.version run ≡ true → is_next_in b.runs b.tasks run id ≡ true → IsRuled (record b { tasks = ids_with b.runs b.tasks id; run = put_open run t })
    go None ruled given next = absurd (true≢false (sym next))
    go (Some o) ruled given next =
        let new : OpenRun = record { run = closed o; task = Some t } in
        put_ruled b o new id ruled next refl (ruled.last.0, tasks_each b.version o given ruled.last, good)

-- the task that stands last has changed
last_ruled : (b : ReportSoFar) (run : RunReport) (t u : OpenTask) → IsRuled (record b { run = Some (record { run = run; task = Some t }) }) → IsOpenTask b.version (Some u) → IsRuled (record b { run = Some (record { run = run; task = Some u }) })
last_ruled b run t u ruled good = record {
  dag_id = ruled.dag_id;
  ids = ruled.ids;
  distinct = ruled.distinct;
  runs = ruled.runs;
  last = (ruled.last.0, ruled.last.1, good);
  few_runs = ruled.few_runs;
  rise = rise_same b.runs (closed (record { run = run; task = Some t })) (closed (record { run = run; task = Some u })) refl ruled.rise;
}

further_ruled : (b c : ReportSoFar) (id : List ℕ) (index : ℕ) (r : TaskResult) → index < 1_024 → IsShownResult r → IsRuled b → with_further b id index r ≡ Some c → IsRuled c
further_ruled b c id index r within good ruled e =
    let (next, is) = if_some (is_next_instance_at b id index) _ c e in
    let (given, last) = further_parts b id index next in
    subst IsRuled is (go b.run ruled given last)
  where
    open_further : (before : Option (List InstanceReport)) (x : InstanceReport) → is_further before index ≡ true → has_item (tells_item b.version (is_some before)) x.item ≡ true → IsOpenTask b.version (Some (record { before = before; instance = x }))
        → IsOpenTask b.version (Some (further (record { before = before; instance = x }) r))
    open_further None x number given begun = absurd (true≢false (sym number))
    open_further (Some xs) x number given begun =
        ((omega (arith, within, eqb-true _ _ number, length-append xs (x ∷ [])), all_more _ xs x begun.0.1 (whole_instance b.version true x begun.1 given)), untold_open b.version true r good)

    last : (run : RunReport) (task : Option OpenTask) → IsRuled (record b { run = Some (record { run = run; task = task }) }) → is_given_task b.version task ≡ true → is_further_task task index ≡ true
        → IsRuled (record b { run = put_further (Some (record { run = run; task = task })) r })
    last run None ruled given number = absurd (true≢false (sym number))
    last run (Some t) ruled given number = last_ruled b run t (further t r) ruled (open_further t.before t.instance number given ruled.last.2)

    go : (run : Option OpenRun) → IsRuled (record b { run = run }) → is_given_in b.version run ≡ true → goes_on_in b.tasks run id index ≡ true → IsRuled (record b { run = put_further run r })
    go None ruled given next = absurd (true≢false (sym next))
    go (Some o) ruled given next = last o.run o.task ruled given (and_parts (is_further_task o.task index) (is_text (slice_get b.tasks (length o.run.tasks)) id) next).0

pub entry_ruled : (b c : ReportSoFar) (id : List ℕ) (e : Entry) → IsEntry e → IsRuled b → with_entry b id e ≡ Some c → IsRuled c
unfolding with_entry
entry_ruled b c id (Entry.Never Untried.NoStatus) good ruled e = task_ruled b c id TaskReport.NoStatus tt ruled e
entry_ruled b c id (Entry.Never Untried.Skipped) good ruled e = task_ruled b c id TaskReport.Skipped tt ruled e
entry_ruled b c id (Entry.Never Untried.UpstreamFailed) good ruled e = task_ruled b c id TaskReport.UpstreamFailed tt ruled e
entry_ruled b c id (Entry.Tried None r) good ruled e = opened_ruled b c id (record { before = None; instance = untold r }) (tt, untold_open b.version false r good.1) ruled e
entry_ruled b c id (Entry.Tried (Some zero) r) good ruled e = opened_ruled b c id (record { before = Some []; instance = untold r }) ((omega arith, tt), untold_open b.version true r good.1) ruled e
entry_ruled b c id (Entry.Tried (Some (suc n)) r) good ruled e = further_ruled b c id (suc n) r good.0 good.1 ruled e

-- ---- a part of what an instance was given

pub part_ruled : (b c : ReportSoFar) (part : GivenPart) → IsPart part → IsRuled b → with_part b part ≡ Some c → IsRuled c
part_ruled b c part good ruled e =
    let (next, is) = if_some (may_take_part_in b.version b.run part) _ c e in
    subst IsRuled is (go b.run ruled next)
  where
    last : (run : RunReport) (task : Option OpenTask) → IsRuled (record b { run = Some (record { run = run; task = task }) }) → takes_task b.version task part ≡ true → IsRuled (record b { run = put_part (Some (record { run = run; task = task })) part })
    last run None ruled next = absurd (true≢false (sym next))
    last run (Some t) ruled next = last_ruled b run t (told t part) ruled (ruled.last.2.0, told_open b.version (is_some t.before) t.instance part good ruled.last.2.1 next)

    go : (run : Option OpenRun) → IsRuled (record b { run = run }) → may_take_part_in b.version run part ≡ true → IsRuled (record b { run = put_part run part })
    go None ruled next = absurd (true≢false (sym next))
    go (Some o) ruled next = last o.run o.task ruled next

-- ---- a run

close_ruled : (b : ReportSoFar) (o : OpenRun) → IsRuled (record b { run = Some o }) → is_given_in b.version (Some o) ≡ true → (task_count_of o == length b.tasks) ≡ true → AllByRecursion (IsShownRun b.version (length b.tasks)) (b.runs ++ closed o ∷ [])
close_ruled b o ruled given whole =
    all_more (IsShownRun b.version (length b.tasks)) b.runs (closed o) ruled.runs
    (record { interval = ruled.last.0; each = tasks_each b.version o given ruled.last; all = count_is o ∙ eqb-true _ _ whole })

-- before the first run there is nothing
none_before : (runs : List RunReport) (ids : List (List ℕ)) → IsCountedIn runs ids None → (runs ≡ []) × (ids ≡ [])
none_before [] ids counted = (refl, counted)
none_before (r ∷ rs) ids counted = absurd counted

starts_later : (m n : ℤ) → int_lt m n ≡ true → m <ℤ n
starts_later m n e = grind (arith, ints)

pub run_ruled : (b c : ReportSoFar) (run : RunReport) → run.tasks ≡ [] → IsRunInterval run.interval → IsCounted b → IsRuled b → with_run b run ≡ Some c → IsRuled c
run_ruled b c run none good counted ruled e =
    let (next, is) = if_some (may_begin_in b run.interval) _ c e in
    let (all, (few, later)) = begin_parts b run.interval next in
    let (given, whole) = whole_parts b all in
    let new : OpenRun = record { run = run; task = None } in
    let (shown, rise) = go b.run counted ruled given whole later in
    subst IsRuled is (record {
      dag_id = ruled.dag_id;
      ids = ruled.ids;
      distinct = ruled.distinct;
      runs = shown;
      last = (good, subst (AllByRecursion (IsShownTask b.version)) (sym none) tt, tt);
      few_runs = omega (arith, ltb-true (run_count_of b) 4_096 few, length-append b.runs (last_run b.run));
      rise = rise;
    })
  where
    go : (before : Option OpenRun) → IsCountedIn b.runs b.tasks before → IsRuled (record b { run = before }) → is_given_in b.version before ≡ true → is_whole_in before b.tasks ≡ true → starts_before before run.interval ≡ true
        → AllByRecursion (IsShownRun b.version (length b.tasks)) (b.runs ++ last_run before) × Rise ((b.runs ++ last_run before) ++ closed (record { run = run; task = None }) ∷ [])
    go None counted ruled given whole later =
        let last : RunReport = closed (record { run = run; task = None }) in
        let P : List RunReport → Type 0 = λ rs. AllByRecursion (IsShownRun b.version (length b.tasks)) (rs ++ []) × Rise ((rs ++ []) ++ last ∷ []) in
        subst P (sym (none_before b.runs b.tasks counted).0) (tt, tt)
    go (Some o) counted ruled given whole later = (close_ruled b o ruled given whole, rise_push b.runs (closed o) (closed (record { run = run; task = None })) (starts_later _ _ later) ruled.rise)

-- ---- the whole

pub report_ruled : (b : ReportSoFar) → KeepsRules b → is_whole_at b ≡ true → IsShownReport (so_far b)
report_ruled b keeps all =
    let (given, whole) = whole_parts b all in
    let (shown, known) = go b.run keeps.counted keeps.ruled given whole in
    record {
      dag_id = keeps.ruled.dag_id;
      ids = keeps.ruled.ids;
      distinct = keeps.ruled.distinct;
      few_tasks = keeps.small;
      runs = shown;
      few_runs = omega (arith, keeps.ruled.few_runs, length-append b.runs (last_run b.run));
      rise = keeps.ruled.rise;
      known = known;
    }
  where
    go : (last : Option OpenRun) → IsCountedIn b.runs b.tasks last → IsRuled (record b { run = last }) → is_given_in b.version last ≡ true → is_whole_in last b.tasks ≡ true
        → AllByRecursion (IsShownRun b.version (length b.tasks)) (b.runs ++ last_run last) × ((b.runs ++ last_run last) ≡ [] → b.tasks ≡ [])
    go None counted ruled given whole =
        let (none, nameless) = none_before b.runs b.tasks counted in
        let P : List RunReport → Type 0 = λ rs. AllByRecursion (IsShownRun b.version (length b.tasks)) (rs ++ []) in
        (subst P (sym none) tt, λ e. nameless)
    go (Some o) counted ruled given whole =
        (close_ruled b o ruled given whole, λ e. absurd (omega (arith, ap length e, length-append b.runs (closed o ∷ []))))
