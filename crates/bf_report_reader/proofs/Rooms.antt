-- Each line leaves less room for more.
use Rattle.std.proofs.Common.{◌≡◌, ◌≤◌, ◌<◌, ℕ, zero, suc, List, [], ◌∷◌, length, Option, Some, None, is_some, Bool, true, true≢false, slice_get, sym, ap, subst, arith, length-append}
use Rattle.std.proofs.lemmas.Bool.{and_parts, eqb-true, ltb-true}
use Rattle.bf_value.specs.declared.xval.Xval.{Xval}
use Rattle.bf_xcom.specs.declared.values.TaskResult.{TaskResult}
use Rattle.bf_report.specs.declared.report.Version.{Version}
use Rattle.bf_report.specs.declared.report.InstanceReport.{InstanceReport}
use Rattle.bf_report.specs.declared.report.TaskReport.{TaskReport}
use Rattle.bf_report.specs.declared.report.RunReport.{RunReport}
use Rattle.bf_report_reader.specs.declared.entry.Untried.{Untried}
use Rattle.bf_report_reader.specs.declared.entry.Entry.{Entry}
use Rattle.bf_report_reader.specs.declared.part.GivenPart.{GivenPart}
use Rattle.bf_report_reader.specs.Open.{OpenTask}
use Rattle.bf_report_reader.specs.declared.open.OpenRun.{OpenRun}
use Rattle.bf_report_reader.specs.declared.beginning.ReportSoFar.{ReportSoFar}
use Rattle.bf_report_reader.specs.inner.Entries.{IsEntry}
use Rattle.bf_report_reader.specs.Beginning.{tasks_in, task_count_of, tells_item, most_told, has_item, untold, is_text, is_next_in, is_next_id_at, ids_with, is_further, is_further_task, goes_on_in, is_next_instance_at, put_task, put_open, further, put_further, with_task, with_open, with_further, with_entry}
use Rattle.bf_report_reader.specs.inner.Beginning.{IsCountedIn, IsCounted, item_room, instance_room, before_room, task_room, open_room, room, IsSmall, last_run, run_count_of, takes_at, with_told, takes_task, may_take_part_in, put_part, may_begin_in, with_run, with_part}
use Rattle.bf_report_reader.proofs.Growth.{if_some, count_is, get_within, is_text_of, next_parts, further_parts, begin_parts, no_item, not_true, new_parts, pull_parts}

-- ---- a task

-- there is room for one more
fits : (runs : List RunReport) (ids : List (List ℕ)) (o : OpenRun) (id : List ℕ) → length ids ≤ 2_000 → IsCountedIn runs ids (Some o) → is_next_in runs ids (Some o) id ≡ true
    → (task_count_of o < 2_000) × (length (ids_with runs ids id) ≤ 2_000)
fits [] ids o id small counted next =
    let below : length ids < 2_000 = ltb-true (length ids) 2_000 (new_parts ids id next).1.0 in
    (omega (arith, below, counted), omega (arith, below, length-append ids (id ∷ [])))
fits (r ∷ rs) ids o id small counted next = (omega (arith, small, get_within ids id (task_count_of o) (is_text_of (slice_get ids (task_count_of o)) id next)), small)

-- how many lines an open task may have at most
before_most : (before : Option (List InstanceReport)) → before_room before ≤ 20_480
before_most None = omega arith
before_most (Some xs) = omega arith

item_most : (item : Option Xval) → item_room item ≤ 1
item_most None = omega arith
item_most (Some v) = omega arith

open_most : (task : Option OpenTask) → task_room task ≤ 20_497
open_most None = omega arith
open_most (Some t) = omega (arith, before_most t.before, item_most t.instance.item)

untried_room : (b c : ReportSoFar) (id : List ℕ) (t : TaskReport) → IsCounted b → IsSmall b → with_task b id t ≡ Some c → IsSmall c × (room c < room b)
untried_room b c id t counted small e =
    let (next, is) = if_some (is_next_id_at b id) _ c e in
    let P : ReportSoFar → Type 0 = λ x. IsSmall x × (room x < room b) in
    subst P is (go b.run counted (next_parts b id next).1)
  where
    go : (run : Option OpenRun) → IsCountedIn b.runs b.tasks run → is_next_in b.runs b.tasks run id ≡ true
        → (length (ids_with b.runs b.tasks id) ≤ 2_000) × (room (record b { tasks = ids_with b.runs b.tasks id; run = put_task run t }) < room (record b { run = run }))
    go None counted next = absurd (true≢false (sym next))
    go (Some o) counted next =
        let (below, few) = fits b.runs b.tasks o id small counted next in
        (few, omega (arith, below, length-append (tasks_in o) (t ∷ []), count_is o))

opened_room : (b c : ReportSoFar) (id : List ℕ) (t : OpenTask) → IsCounted b → IsSmall b → with_open b id t ≡ Some c → IsSmall c × (room c < room b)
opened_room b c id t counted small e =
    let (next, is) = if_some (is_next_id_at b id) _ c e in
    let P : ReportSoFar → Type 0 = λ x. IsSmall x × (room x < room b) in
    subst P is (go b.run counted (next_parts b id next).1)
  where
    go : (run : Option OpenRun) → IsCountedIn b.runs b.tasks run → is_next_in b.runs b.tasks run id ≡ true
        → (length (ids_with b.runs b.tasks id) ≤ 2_000) × (room (record b { tasks = ids_with b.runs b.tasks id; run = put_open run t }) < room (record b { run = run }))
    go None counted next = absurd (true≢false (sym next))
    go (Some o) counted next =
        let (below, few) = fits b.runs b.tasks o id small counted next in
        (few, omega (arith, below, count_is o, open_most (Some t)))

further_room : (b c : ReportSoFar) (id : List ℕ) (index : ℕ) (r : TaskResult) → index < 1_024 → IsSmall b → with_further b id index r ≡ Some c → IsSmall c × (room c < room b)
further_room b c id index r within small e =
    let (next, is) = if_some (is_next_instance_at b id index) _ c e in
    let P : ReportSoFar → Type 0 = λ x. IsSmall x × (room x < room b) in
    subst P is (small, go b.run (further_parts b id index next).1)
  where
    instance_less : (before : Option (List InstanceReport)) (x : InstanceReport) → is_further before index ≡ true → task_room (Some (further (record { before = before; instance = x }) r)) < task_room (Some (record { before = before; instance = x }))
    instance_less None x number = absurd (true≢false (sym number))
    instance_less (Some xs) x number = omega (arith, within, eqb-true _ _ number, length-append xs (x ∷ []))

    task_less : (run : RunReport) (task : Option OpenTask) → is_further_task task index ≡ true → open_room (put_further (Some (record { run = run; task = task })) r) < open_room (Some (record { run = run; task = task }))
    task_less run None number = absurd (true≢false (sym number))
    task_less run (Some t) number = omega (arith, instance_less t.before t.instance number)

    go : (run : Option OpenRun) → goes_on_in b.tasks run id index ≡ true → room (record b { run = put_further run r }) < room (record b { run = run })
    go None next = absurd (true≢false (sym next))
    go (Some o) next =
        let (number, at) = and_parts (is_further_task o.task index) (is_text (slice_get b.tasks (length o.run.tasks)) id) next in
        omega (arith, task_less o.run o.task number)

pub entry_room : (b c : ReportSoFar) (id : List ℕ) (e : Entry) → IsCounted b → IsSmall b → IsEntry e → with_entry b id e ≡ Some c → IsSmall c × (room c < room b)
unfolding with_entry
entry_room b c id (Entry.Never Untried.NoStatus) counted small good e = untried_room b c id TaskReport.NoStatus counted small e
entry_room b c id (Entry.Never Untried.Skipped) counted small good e = untried_room b c id TaskReport.Skipped counted small e
entry_room b c id (Entry.Never Untried.UpstreamFailed) counted small good e = untried_room b c id TaskReport.UpstreamFailed counted small e
entry_room b c id (Entry.Tried None r) counted small good e = opened_room b c id (record { before = None; instance = untold r }) counted small e
entry_room b c id (Entry.Tried (Some zero) r) counted small good e = opened_room b c id (record { before = Some []; instance = untold r }) counted small e
entry_room b c id (Entry.Tried (Some (suc n)) r) counted small good e = further_room b c id (suc n) r good.0 small e

-- ---- a part of what an instance was given

few_told : (version : Version) → most_told version ≤ 16
few_told Version.One = omega arith
few_told Version.Two = omega arith

told_less : (version : Version) (is_told : Bool) (x : InstanceReport) (part : GivenPart) → takes_at version (has_item is_told x.item) x part ≡ true → instance_room (with_told x part) < instance_room x
told_less version is_told x (GivenPart.Item v) next = omega (arith, ap item_room (no_item is_told x.item (not_true (has_item is_told x.item) next)))
told_less version is_told x (GivenPart.Pull p) next =
    omega (arith, ltb-true (length x.pulls) (most_told version) (pull_parts version (has_item is_told x.item) x p next).1.0, few_told version, length-append x.pulls (p ∷ []))

pub part_room : (b c : ReportSoFar) (part : GivenPart) → IsSmall b → with_part b part ≡ Some c → IsSmall c × (room c < room b)
part_room b c part small e =
    let (next, is) = if_some (may_take_part_in b.version b.run part) _ c e in
    let P : ReportSoFar → Type 0 = λ x. IsSmall x × (room x < room b) in
    subst P is (small, go b.run next)
  where
    task_less : (run : RunReport) (task : Option OpenTask) → takes_task b.version task part ≡ true → open_room (put_part (Some (record { run = run; task = task })) part) < open_room (Some (record { run = run; task = task }))
    task_less run None next = absurd (true≢false (sym next))
    task_less run (Some t) next = omega (arith, told_less b.version (tells_item b.version (is_some t.before)) t.instance part next)

    go : (run : Option OpenRun) → may_take_part_in b.version run part ≡ true → room (record b { run = put_part run part }) < room (record b { run = run })
    go None next = absurd (true≢false (sym next))
    go (Some o) next = omega (arith, task_less o.run o.task next)

-- ---- a run

pub run_room : (b c : ReportSoFar) (run : RunReport) → run.tasks ≡ [] → IsSmall b → with_run b run ≡ Some c → IsSmall c × (room c < room b)
run_room b c run none small e =
    let (next, is) = if_some (may_begin_in b run.interval) _ c e in
    let below : run_count_of b < 4_096 = ltb-true (run_count_of b) 4_096 (begin_parts b run.interval next).1.0 in
    let P : ReportSoFar → Type 0 = λ x. IsSmall x × (room x < room b) in
    subst P is (small, omega (arith, below, length-append b.runs (last_run b.run)))
