-- The first entry that answers a try of a report is that of the try.
use Rattle.std.proofs.Common.{◌≡◌, ◌≢◌, ◌⊎◌, ℕ, zero, suc, ◌+◌, ◌-◌, ◌<◌, ◌<ℤ◌, ◌==◌, ◌&&◌, nat_lt, Bool, true, false, if◌then◌else◌, List, [], ◌∷◌, Option, Some, None, option_and_then, ℤ, pos, negsuc, length, map, find, zip, slice_get, refl, sym, ap, ap₂, ◌∙◌, inl, inr, subst, arith}
use Rattle.std.specs.List.{AllByRecursion, enumerate_from, range_with_len}
use Rattle.std.specs.Option.{option_or}
use Rattle.std.proofs.lemmas.Bool.Decides.{nat_tests}
use Rattle.std.proofs.lemmas.Int.{ints}
use Rattle.std.proofs.lemmas.List.Concat.{flat_map_single}
use Rattle.std.proofs.lemmas.List.Folds.{find-append}
use Rattle.std.proofs.lemmas.Option.{get_or_from_slice_get, slice_get_within}
use Rattle.bf_value.specs.Distinct.{AreDistinct}
use Rattle.bf_value.specs.declared.name.JobName.{JobName}
use Rattle.bf_moment.specs.Moment.{moment_text, IsShown, IsWhole}
use Rattle.bf_table.specs.declared.table.TableEntry.{TableEntry}
use Rattle.bf_xcom.specs.declared.values.Outcome.{Outcome}
use Rattle.bf_xcom.specs.declared.values.TaskResult.{TaskResult}
use Rattle.bf_report.specs.declared.report.InstanceReport.{InstanceReport}
use Rattle.bf_report.specs.declared.report.TaskReport.{TaskReport}
use Rattle.bf_report.specs.declared.report.RunReport.{RunReport}
use Rattle.bf_report.specs.declared.report.Report.{Report}
use Rattle.bf_report_reader.specs.Rules.{IsShownReport, IsShownRun, Rise}
use Rattle.bf_report_reader.specs.Runs.{IsReportMoment}
use Rattle.bf_clear.specs.Entries.{found_at, instance_in, outcome_of_try_in}
use Rattle.bf_answers.specs.Answers.{answers_in, entries_for, entry_at, instance_entries, run_entries, task_entries, tasks_entries}
use Rattle.bf_answers.proofs.Found.{first_of, somewhere, asks, retried_missed, instance_missed, task_missed, tasks_missed, ended_missed, ended_found}

-- ---- items of lists

range_at : (from n i attempt : ℕ) → slice_get (range_with_len from n) i ≡ Some attempt → (attempt ≡ from + i) × (i < n)
range_at from zero i attempt e = cc
range_at from (suc n) zero attempt e = let same : from ≡ attempt = cc in (omega (arith, same), omega arith)
range_at from (suc n) (suc i) attempt e = let rest = range_at (from + 1) n i attempt e in (omega (arith, rest.0), omega (arith, rest.1))

in_range : (from n i : ℕ) → i < n → slice_get (range_with_len from n) i ≡ Some (from + i)
in_range from zero i low = absurd (omega (arith, low))
in_range from (suc n) zero low = let same : from ≡ from + 0 = omega arith in ap Some same
in_range from (suc n) (suc i) low = in_range (from + 1) n i (omega (arith, low)) ∙ (let same : from + 1 + i ≡ from + suc i = omega arith in ap Some same)

numbered_at : {X : Type 0} (n : ℕ) (xs : List X) (i : ℕ) (x : X) → slice_get xs i ≡ Some x → slice_get (enumerate_from n xs) i ≡ Some (n + i, x)
numbered_at n [] i x e = cc
numbered_at n (y ∷ ys) zero x e = let same : y ≡ x = cc in let at : n ≡ n + 0 = omega arith in ap₂ (λ k z. Some (k, z)) at same
numbered_at n (y ∷ ys) (suc i) x e = numbered_at (n + 1) ys i x e ∙ (let at : n + 1 + i ≡ n + suc i = omega arith in ap (λ k. Some (k, x)) at)

number_at : {X : Type 0} (n : ℕ) (xs : List X) (i : ℕ) (pair : ℕ × X) → slice_get (enumerate_from n xs) i ≡ Some pair → pair.0 ≡ n + i
number_at n [] i pair e = cc
number_at n (y ∷ ys) zero pair e = let same : (n, y) ≡ pair = cc in ap (λ p. p.0) (sym same) ∙ omega arith
number_at n (y ∷ ys) (suc i) pair e = number_at (n + 1) ys i pair e ∙ omega arith

zipped_at : {X Y : Type 0} (xs : List X) (ys : List Y) (i : ℕ) (x : X) (y : Y) → slice_get xs i ≡ Some x → slice_get ys i ≡ Some y → slice_get (zip xs ys) i ≡ Some (x, y)
zipped_at [] ys i x y e f = cc
zipped_at (a ∷ us) [] i x y e f = cc
zipped_at (a ∷ us) (b ∷ vs) zero x y e f = let one : a ≡ x = cc in let two : b ≡ y = cc in ap₂ (λ u v. Some (u, v)) one two
zipped_at (a ∷ us) (b ∷ vs) (suc i) x y e f = zipped_at us vs i x y e f

left_at : {X Y : Type 0} (xs : List X) (ys : List Y) (i : ℕ) (pair : X × Y) → slice_get (zip xs ys) i ≡ Some pair → slice_get xs i ≡ Some pair.0
left_at [] ys i pair e = cc
left_at (a ∷ us) [] i pair e = cc
left_at (a ∷ us) (b ∷ vs) zero pair e = let same : (a, b) ≡ pair = cc in ap (λ p. Some p.0) same
left_at (a ∷ us) (b ∷ vs) (suc i) pair e = left_at us vs i pair e

either_less : (i j : ℕ) → i ≢ j → (i < j) ⊎ (j < i)
either_less i j unlike = grind (arith, unlike)

apart : (ids : List (List ℕ)) → AreDistinct ids → (i j : ℕ) (one two : List ℕ) → slice_get ids i ≡ Some one → slice_get ids j ≡ Some two → i ≢ j → one ≢ two
apart ids distinct i j one two e f unlike same = by (either_less i j unlike)
  where
    here : one ≡ two
    here = same

    by : (i < j) ⊎ (j < i) → ⊥
    by (inl less) = distinct i j [] less (slice_get_within ids j two f) (get_or_from_slice_get ids i one [] e ∙ same ∙ sym (get_or_from_slice_get ids j two [] f))
    by (inr less) = distinct j i [] less (slice_get_within ids i one e) (get_or_from_slice_get ids j two [] f ∙ sym same ∙ sym (get_or_from_slice_get ids i one [] e))

-- ---- the tries of an instance

module _ (id date : List ℕ) (name : JobName) where
  abbrev answer : Outcome → Option TableEntry
  answer outcome = first_of (entries_for date id name.index name.attempt outcome)

  abbrev retried : TaskResult → List TableEntry
  retried result = map (λ attempt. entry_at date id name.index attempt 1 []) (range_with_len 1 (result.tries - 1))

  last_found : (result : TaskResult) → name.attempt ≡ result.tries → find (asks id date name) (instance_entries date id name.index result) ≡ answer result.outcome
  last_found result is =
      find-append (asks id date name) (retried result) (entries_for date id name.index result.tries result.outcome)
      ∙ ap (λ o. option_or o (find (asks id date name) (entries_for date id name.index result.tries result.outcome)))
      (retried_missed id date name date id name.index (range_with_len 1 (result.tries - 1)) (λ i attempt e. inr (inr (inr (λ same. let at = range_at 1 (result.tries - 1) i attempt e in omega (arith, at.0, at.1, same, is))))))
      ∙ ap (λ n. find (asks id date name) (entries_for date id name.index n result.outcome)) (sym is) ∙ ended_found id date name result.outcome

  earlier_found : (result : TaskResult) → 0 < name.attempt → name.attempt < result.tries → find (asks id date name) (instance_entries date id name.index result) ≡ answer Outcome.Failed
  earlier_found result some less =
      let n = result.tries - 1 in
      let f : ℕ → List TableEntry = λ attempt. entry_at date id name.index attempt 1 [] ∷ [] in
      let at : slice_get (range_with_len 1 n) (name.attempt - 1) ≡ Some name.attempt = in_range 1 n (name.attempt - 1) (omega (arith, some, less)) ∙ (let same : 1 + (name.attempt - 1) ≡ name.attempt = omega (arith, some) in ap Some same) in
      let here : find (asks id date name) (f name.attempt) ≡ Some (entry_at date id name.index name.attempt 1 []) = ended_found id date name Outcome.Failed in
      find-append (asks id date name) (retried result) (entries_for date id name.index result.tries result.outcome)
      ∙ ap (λ o. option_or o (find (asks id date name) (entries_for date id name.index result.tries result.outcome)))
      (ap (find (asks id date name)) (sym (flat_map_single (λ attempt. entry_at date id name.index attempt 1 []) (range_with_len 1 n)))
      ∙ somewhere (asks id date name) f (range_with_len 1 n) (name.attempt - 1) name.attempt at
      (λ i attempt e other. ended_missed id date name date id name.index attempt Outcome.Failed (inr (inr (inr (λ same. let place = range_at 1 n i attempt e in other (omega (arith, place.0, same)))))))
      ∙ here)

  instance_found : (result : TaskResult) (outcome : Outcome) → outcome_of_try_in result name.attempt ≡ Some outcome → find (asks id date name) (instance_entries date id name.index result) ≡ answer outcome
  instance_found result outcome e = by (name.attempt == result.tries) refl (nat_lt 0 name.attempt) refl (nat_lt name.attempt result.tries) refl e
    where
      by : (b : Bool) → (name.attempt == result.tries) ≡ b → (c : Bool) → nat_lt 0 name.attempt ≡ c → (d : Bool) → nat_lt name.attempt result.tries ≡ d
          → (if b then Some result.outcome else (if c && d then Some Outcome.Failed else None)) ≡ Some outcome → find (asks id date name) (instance_entries date id name.index result) ≡ answer outcome
      by true is c f d g h = let same : result.outcome ≡ outcome = cc in let last : name.attempt ≡ result.tries = grind (arith, nat_tests, is) in last_found result last ∙ ap answer same
      by false is true f true g h =
          let same : Outcome.Failed ≡ outcome = cc in let some : 0 < name.attempt = grind (arith, nat_tests, f) in let less : name.attempt < result.tries = grind (arith, nat_tests, g) in earlier_found result some less ∙ ap answer same
      by false is false f d g h = cc
      by false is true f false g h = cc

  -- ---- an instance of a task

  task_found : (told : TaskReport) (x : InstanceReport) (outcome : Outcome) → instance_in told name.index ≡ Some x → outcome_of_try_in x.result name.attempt ≡ Some outcome
      → find (asks id date name) (task_entries date id told) ≡ answer outcome
  task_found told x outcome e f = by told name.index refl e
    where
      at_index : (index : ℤ) → name.index ≡ index → (y : InstanceReport) → y ≡ x → find (asks id date name) (instance_entries date id index y.result) ≡ answer outcome
      at_index index is y same =
          ap₂ (λ (i : ℤ) (z : InstanceReport). find (asks id date name) (instance_entries date id i z.result)) (sym is) same ∙ instance_found x.result outcome f

      by : (told : TaskReport) (index : ℤ) → name.index ≡ index → instance_in told index ≡ Some x → find (asks id date name) (task_entries date id told) ≡ answer outcome
      by TaskReport.NoStatus index is h = cc
      by TaskReport.Skipped index is h = cc
      by TaskReport.UpstreamFailed index is h = cc
      by (TaskReport.Ran y) (pos k) is h = cc
      by (TaskReport.Ran y) (negsuc (suc k)) is h = cc
      by (TaskReport.Ran y) (negsuc zero) is h = let same : y ≡ x = cc in at_index (negsuc 0) is y same
      by (TaskReport.Mapped ys) (negsuc k) is h = cc
      by (TaskReport.Mapped ys) (pos k) is h =
          let g : ℕ × InstanceReport → List TableEntry = λ pair. instance_entries date id (pos pair.0) pair.1.result in
          somewhere (asks id date name) g (enumerate_from 0 ys) k (k, x) (numbered_at 0 ys k x h ∙ (let at : 0 + k ≡ k = omega arith in ap (λ n. Some (n, x)) at))
          (λ i pair e other. instance_missed id date name date id (pos pair.0) pair.1.result
          (λ attempt. inr (inr (inl (λ same. other (let here : pos pair.0 ≡ pos k = same ∙ is in let at : pair.0 ≡ k = cc in let number = number_at 0 ys i pair e in omega (arith, at, number)))))))
          ∙ at_index (pos k) is x refl

  -- ---- a task of a run

  tasks_found : (ids : List (List ℕ)) (told : List TaskReport) → AreDistinct ids → (t : ℕ) (task : TaskReport) (x : InstanceReport) (outcome : Outcome)
      → slice_get ids t ≡ Some id → slice_get told t ≡ Some task → instance_in task name.index ≡ Some x → outcome_of_try_in x.result name.attempt ≡ Some outcome
      → find (asks id date name) (tasks_entries date ids told) ≡ answer outcome
  tasks_found ids told distinct t task x outcome is_id is_task e f =
      somewhere (asks id date name) (λ pair. task_entries date pair.0 pair.1) (zip ids told) t (id, task) (zipped_at ids told t id task is_id is_task)
      (λ i pair h other. task_missed id date name date pair.0 pair.1 (λ index attempt. inl (apart ids distinct i t pair.0 id (left_at ids told i pair h) is_id other)))
      ∙ task_found task x outcome e f

-- ---- a run of a report

less_less : (a b c : ℤ) → a <ℤ b → b <ℤ c → a <ℤ c
less_less a b c h k = omega (arith, ints, h, k)

rising : (runs : List RunReport) → Rise runs → (i j : ℕ) (one two : RunReport) → slice_get runs i ≡ Some one → slice_get runs j ≡ Some two → i < j → one.interval.start.nanosecond <ℤ two.interval.start.nanosecond
rising [] rise i j one two e f low = cc
rising (r ∷ []) rise i zero one two e f low = absurd (omega (arith, low))
rising (r ∷ []) rise i (suc j) one two e f low = cc
rising (r ∷ s ∷ rest) rise i zero one two e f low = absurd (omega (arith, low))
rising (r ∷ s ∷ rest) rise zero (suc zero) one two e f low =
    let first : r ≡ one = cc in let second : s ≡ two = cc in
    subst (λ (x : RunReport). x.interval.start.nanosecond <ℤ two.interval.start.nanosecond) first (subst (λ (y : RunReport). r.interval.start.nanosecond <ℤ y.interval.start.nanosecond) second rise.0)
rising (r ∷ s ∷ rest) rise zero (suc (suc j)) one two e f low =
    let first : r ≡ one = cc in
    let more = rising (s ∷ rest) rise.1 0 (suc j) s two refl f (omega arith) in
    subst (λ (x : RunReport). x.interval.start.nanosecond <ℤ two.interval.start.nanosecond) first (less_less r.interval.start.nanosecond s.interval.start.nanosecond two.interval.start.nanosecond rise.0 more)
rising (r ∷ s ∷ rest) rise (suc i) (suc j) one two e f low = rising (s ∷ rest) rise.1 i j one two e f (omega (arith, low))

pub shown_at : (version : _) (n : ℕ) (runs : List RunReport) → AllByRecursion (IsShownRun version n) runs → (i : ℕ) (run : RunReport) → slice_get runs i ≡ Some run → IsShownRun version n run
shown_at version n [] h i run e = cc
shown_at version n (r ∷ rs) h zero run e = let same : r ≡ run = cc in subst (IsShownRun version n) same h.0
shown_at version n (r ∷ rs) h (suc i) run e = shown_at version n rs h.1 i run e

module _ (differ : (m n : ℤ) → IsShown m → IsShown n → IsWhole m → IsWhole n → moment_text m ≡ moment_text n → m ≡ n) (report : Report) (shown : IsShownReport report) where
  dates_apart : (i j : ℕ) (one two : RunReport) → slice_get report.runs i ≡ Some one → slice_get report.runs j ≡ Some two → i ≢ j → moment_text one.interval.start.nanosecond ≢ moment_text two.interval.start.nanosecond
  dates_apart i j one two e f unlike same = by (either_less i j unlike)
    where
      first : IsReportMoment one.interval.start
      first = (shown_at report.version (length report.tasks) report.runs shown.runs i one e).interval.start

      second : IsReportMoment two.interval.start
      second = (shown_at report.version (length report.tasks) report.runs shown.runs j two f).interval.start

      equal : one.interval.start.nanosecond ≡ two.interval.start.nanosecond
      equal = differ one.interval.start.nanosecond two.interval.start.nanosecond first.shown second.shown first.whole second.whole same

      by : (i < j) ⊎ (j < i) → ⊥
      by (inl less) = let h = rising report.runs shown.rise i j one two e f less in omega (arith, ints, h, equal)
      by (inr less) = let h = rising report.runs shown.rise j i two one f e less in omega (arith, ints, h, equal)

  -- the entry of a try that the report tells of
  pub answer_found : (name : JobName) (id : List ℕ) (run : RunReport) (x : InstanceReport) (outcome : Outcome) → slice_get report.runs name.run ≡ Some run → slice_get report.tasks name.task ≡ Some id
      → found_at report name.run name.task name.index ≡ Some x → outcome_of_try_in x.result name.attempt ≡ Some outcome
      → find (asks id (moment_text run.interval.start.nanosecond) name) (answers_in report) ≡ first_of (entries_for (moment_text run.interval.start.nanosecond) id name.index name.attempt outcome)
  answer_found name id run x outcome is_run is_id found e =
      let date = moment_text run.interval.start.nanosecond in
      somewhere (asks id date name) (run_entries report.tasks) report.runs name.run run is_run
      (λ i other h unlike. tasks_missed id date name (moment_text other.interval.start.nanosecond) report.tasks other.tasks (dates_apart i name.run other run h is_run unlike))
      ∙ by (slice_get run.tasks name.task) refl (ap (λ o. option_and_then (λ told. instance_in told name.index) (option_and_then (λ r. slice_get r.tasks name.task) o)) (sym is_run) ∙ found)
    where
      date : List ℕ
      date = moment_text run.interval.start.nanosecond

      by : (o : Option TaskReport) → slice_get run.tasks name.task ≡ o → option_and_then (λ told. instance_in told name.index) o ≡ Some x
          → find (asks id date name) (run_entries report.tasks run) ≡ first_of (entries_for date id name.index name.attempt outcome)
      by None is h = cc
      by (Some task) is h = tasks_found id date name report.tasks run.tasks shown.distinct name.task task x outcome is_id is h e
