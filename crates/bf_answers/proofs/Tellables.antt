-- The entries of a report that can be read can be said by a table.
use Rattle.std.proofs.Common.{◌≡◌, ◌↔◌, ℕ, zero, suc, ◌+◌, ◌-◌, ◌≤◌, true, List, [], ◌∷◌, ◌++◌, Option, Some, None, pos, length, map, flat_map, IsUtf8, refl, arith}
use Rattle.std.specs.List.{AllByRecursion, enumerate_from, range_with_len}
use Rattle.std.proofs.lemmas.Str.{IsUtf8-nil}
use Rattle.bf_value.specs.Json.{json_of}
use Rattle.bf_value.specs.Line.{last_line_of}
use Rattle.bf_moment.specs.Long.{is_long, IsTextOfMoment}
use Rattle.bf_moment.specs.Moment.{moment_text}
use Rattle.bf_plan.specs.Ids.{is_id_in}
use Rattle.bf_table.specs.declared.table.TableEntry.{TableEntry}
use Rattle.bf_xcom.specs.declared.values.Outcome.{Outcome}
use Rattle.bf_xcom.specs.declared.values.Outcome.TheVariants.{Success, Failed, Skipped}
use Rattle.bf_xcom.specs.declared.values.TaskResult.{TaskResult}
use Rattle.bf_report.specs.declared.report.InstanceReport.{InstanceReport}
use Rattle.bf_report.specs.declared.report.TaskReport.{TaskReport}
use Rattle.bf_report.specs.declared.report.RunReport.{RunReport}
use Rattle.bf_report.specs.declared.report.Report.{Report}
use Rattle.bf_report.specs.declared.report.Version.{Version}
use Rattle.bf_report_reader.specs.Entries.{IsShownOutcome, IsShownResult}
use Rattle.bf_report_reader.specs.Rules.{IsShownInstance, IsShownReport, IsShownRun, IsShownTask}
use Rattle.bf_report_reader.proofs.Words.{id_utf8, moment_utf8}
use Rattle.bf_answers.specs.Answers.{answers_in, entries_for, entry_at, instance_entries, run_entries, task_entries, tasks_entries}
use Rattle.bf_answers.specs.inner.Answers.{number_of}
use Rattle.bf_answers.specs.inner.Tellable.{IsLow, IsTellable}
use Rattle.bf_answers.proofs.Ends.{text_is_its_last_line}

abbrev AreTellable : List TableEntry → Type 0
AreTellable es = AllByRecursion IsTellable es

both : (es fs : List TableEntry) → AreTellable es → AreTellable fs → AreTellable (es ++ fs)
both [] fs h k = k
both (e ∷ es) fs h k = (h.0, both es fs h.1 k)

nothing_last : last_line_of [] ≡ []
nothing_last = refl

module _ (run id : List ℕ) (long : is_long run ≡ true) (date : IsUtf8 run) (utf8 : IsUtf8 id) where
  module _ (index : Option ℕ) (low : IsLow index) where
    one : (attempt status : ℕ) (line : List ℕ) → attempt ≤ 101 → status ≤ 255 → IsUtf8 line → last_line_of line ≡ line → IsTellable (entry_at run id (number_of index) attempt status line)
    one attempt status line few code out last =
        record { run = run; task = id; index = index; attempt = attempt; status = status; line = line; is = refl; moment = long; date = date; id = utf8; low_index = low; low_attempt = omega (arith, few); exit_code = code; out = out; one_line = last }

    ended : (attempt : ℕ) (outcome : Outcome) → attempt ≤ 101 → IsShownOutcome outcome → AreTellable (entries_for run id (number_of index) attempt outcome)
    ended attempt (Success None) few shown = tt
    ended attempt (Success (Some value)) few shown = (one attempt 0 (json_of value) few (omega arith) shown.utf8 (text_is_its_last_line value), tt)
    ended attempt Failed few shown = (one attempt 1 [] few (omega arith) IsUtf8-nil nothing_last, tt)
    ended attempt Skipped few shown = (one attempt 99 [] few (omega arith) IsUtf8-nil nothing_last, tt)

    retried : (from n : ℕ) → from + n ≤ 102 → AreTellable (map (λ attempt. entry_at run id (number_of index) attempt 1 []) (range_with_len from n))
    retried from zero few = tt
    retried from (suc n) few = (one from 1 [] (omega (arith, few)) (omega arith) IsUtf8-nil nothing_last, retried (from + 1) n (omega (arith, few)))

    instance : (result : TaskResult) → IsShownResult result → AreTellable (instance_entries run id (number_of index) result)
    instance result shown =
        both _ (entries_for run id (number_of index) result.tries result.outcome) (retried 1 (result.tries - 1) (omega (arith, shown.tries.1))) (ended result.tries result.outcome shown.tries.1 shown.outcome)

  mapped : (version : Version) (n : ℕ) (instances : List InstanceReport) → n + length instances ≤ 1_024 → AllByRecursion (IsShownInstance version true) instances
      → AreTellable (flat_map (λ pair. instance_entries run id (pos pair.0) pair.1.result) (enumerate_from n instances))
  mapped version n [] few shown = tt
  mapped version n (x ∷ xs) few shown =
      both (instance_entries run id (pos n) x.result) (flat_map (λ pair. instance_entries run id (pos pair.0) pair.1.result) (enumerate_from (n + 1) xs))
      (instance (Some n) (omega (arith, few)) x.result shown.0.result) (mapped version (n + 1) xs (omega (arith, few)) shown.1)

  task : (version : Version) (told : TaskReport) → IsShownTask version told → AreTellable (task_entries run id told)
  task version TaskReport.NoStatus shown = tt
  task version TaskReport.Skipped shown = tt
  task version TaskReport.UpstreamFailed shown = tt
  task version (TaskReport.Ran x) shown = instance None tt x.result shown.result
  task version (TaskReport.Mapped xs) shown = mapped version 0 xs (omega (arith, shown.1)) shown.2

tasks : (run : List ℕ) → is_long run ≡ true → IsUtf8 run → (version : Version) (ids : List (List ℕ)) (told : List TaskReport) → AllByRecursion (λ id. is_id_in id ≡ true) ids → AllByRecursion (IsShownTask version) told
    → AreTellable (tasks_entries run ids told)
tasks run long date version [] told are shown = tt
tasks run long date version (id ∷ ids) [] are shown = tt
tasks run long date version (id ∷ ids) (x ∷ xs) are shown =
    both (task_entries run id x) (tasks_entries run ids xs) (task run id long date (id_utf8 id are.0) version x shown.0) (tasks run long date version ids xs are.1 shown.1)

module _ (long_form : (text : List ℕ) → (is_long text ≡ true) ↔ IsTextOfMoment text) where
  runs : (version : Version) (n : ℕ) (ids : List (List ℕ)) (rs : List RunReport) → AllByRecursion (λ id. is_id_in id ≡ true) ids → AllByRecursion (IsShownRun version n) rs → AreTellable (flat_map (run_entries ids) rs)
  runs version n ids [] are shown = tt
  runs version n ids (r ∷ rs) are shown =
      let at = r.interval.start.nanosecond in
      let start = shown.0.interval.start in
      both (run_entries ids r) (flat_map (run_entries ids) rs)
      (tasks (moment_text at) ((long_form (moment_text at)).1 (record { moment = at; shown = start.shown; whole = start.whole; is_text = refl })) (moment_utf8 at start.shown) version ids r.tasks are shown.0.each)
      (runs version n ids rs are shown.1)

  pub answers_tellable : (report : Report) → IsShownReport report → AllByRecursion IsTellable (answers_in report)
  answers_tellable report shown = runs report.version (length report.tasks) report.tasks report.runs shown.ids shown.runs
