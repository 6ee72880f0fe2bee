-- What a backfill that has ended keeps: its moments, values, results, and what its instances are given.
use Rattle.std.proofs.Common.{◌≡◌, ◌<◌, ◌≤◌, ◌+◌, ◌*◌, ◌%◌, ℕ, zero, suc, pos, Bool, true, false, if◌then◌else◌, List, [], ◌∷◌, length, map, Option, None, Some, is_some, option_map, refl, sym, ap, ◌∙◌, subst, arith}
use Rattle.std.specs.List.{AllByRecursion}
use Rattle.std.proofs.lemmas.Int.{ints}
use Rattle.std.proofs.lemmas.Bool.{and_parts}
use Rattle.std.proofs.lemmas.Bool.Decides.{nat_tests}
use Rattle.jiff.specs.declared.timestamp.Timestamp.{Timestamp}
use Rattle.bf_value.specs.declared.xval.Xval.{Xval}
use Rattle.bf_value.specs.declared.xval.Xval.TheVariants.{Flag, Int, Text, List as ListOf, Nil}
use Rattle.bf_value.specs.Plain.{IsSound}
use Rattle.bf_value.specs.Views.{plain_of}
use Rattle.bf_value.proofs.TextLemmas.{value_of_line_text_of}
use Rattle.bf_value.proofs.TextLemmas.{IsUtf8-text_of}
use Rattle.bf_interval.specs.declared.interval.Interval.{Interval}
use Rattle.bf_interval.specs.Runs.{IsOfRun, IsSecondTo2208}
use Rattle.bf_plan.specs.declared.plan.Dag.{Dag}
use Rattle.bf_plan.specs.Plans.{task_of}
use Rattle.bf_plan.specs.Sound.{IsSound as IsSoundDag}
use Rattle.bf_mapped.specs.declared.source.Items.{Items}
use Rattle.bf_xcom.specs.declared.values.Given.{Given}
use Rattle.bf_xcom.specs.declared.values.Outcome.{Outcome}
use Rattle.bf_xcom.specs.declared.values.Outcome.TheVariants.{Success, Failed, Skipped}
use Rattle.bf_xcom.specs.declared.values.TaskResult.{TaskResult}
use Rattle.bf_xcom.specs.declared.values.TaskValue.{TaskValue}
use Rattle.bf_try.specs.Grades.{fits_in, is_readable_from_line_in, may_push_in, is_short_value_in}
use Rattle.bf_try.specs.Tries.{Ledger, result_of, outcome_at, last_try, is_failed}
use Rattle.bf_core.specs.declared.event.Event.{Event}
use Rattle.bf_core.specs.declared.state.State.{State}
use Rattle.bf_core.specs.declared.state.Cell.{Cell}
use Rattle.bf_core.specs.declared.state.Instance.{Instance}
use Rattle.bf_core.specs.Terms.{Limits, Verdict, items}
use Rattle.bf_core.specs.declared.decision.Decision.{Decision}
use Rattle.bf_core.specs.Deciding.{Seen, settled, decision, after_verdict, instances_of, mapped, pulled, task_verdict_of}
use Rattle.bf_core.specs.Recursion.{out, before, decided, results_from}
use Rattle.bf_core.specs.Events.{IsLegal, replay, after, start, cell_at, value_in, entry_in, results}
use Rattle.bf_core.specs.Agreement.{IsOutcome, final_cell, finished_from}
use Rattle.bf_core.specs.Cores.{IsJournal}
use Rattle.bf_core.specs.Few.{AreFew, AreFitting, IsFew, IsFitting, HasFitting}
use Rattle.bf_core.proofs.Attempts.{last_try_from}
use Rattle.bf_core.proofs.Fitting.{few_after, fitting_after}
use Rattle.bf_core.proofs.Outcomes.{finished_results, outcome_value}
use Rattle.bf_core.proofs.Starting.{start_few, start_fitting}
use Rattle.bf_report.specs.Values.{IsSoundOutcome}
use Rattle.bf_report_reader.specs.Entries.{IsShownValue, IsShownOutcome, IsTries}
use Rattle.bf_report_reader.specs.Runs.{IsReportMoment, IsRunInterval}
use Rattle.bf_report_reader.proofs.Given.{IsPushed, FitsValue, AreFittingResults, items_pushed}

-- ---- data intervals

report_moment : (t : Timestamp) → IsSecondTo2208 t.nanosecond → IsReportMoment t
report_moment t s =
    let is = s.is in
    let last = s.to_2208 in
    let none : s.second * 1_000_000_000 % 1_000_000_000 ≡ 0 = omega arith in
    record { shown = (omega (arith, ints), omega (arith, ints)); whole = rw is (ap pos none); from_1970 = omega (arith, ints); to_2208 = omega (arith, ints) }

pub run_interval : (i : Interval) → IsOfRun i → IsRunInterval i
run_interval i is = record { start = report_moment i.start is.start; end = report_moment i.end is.end; in_years = is.in_years; in_order = is.in_order }

-- ---- values

-- what fits, with sound numbers and texts, is a value that lines have
shown_value : (x : Xval) → IsSound (plain_of x) → is_readable_from_line_in (Some x) ≡ true → is_short_value_in (Some x) ≡ true → IsShownValue x
shown_value (Flag b) sound good short = record { utf8 = IsUtf8-text_of (Flag b) sound; pushed = value_of_line_text_of (Flag b) sound (omega arith) (λ e. cc e); short = grind (arith, nat_tests, short) }
shown_value (Int n) sound good short = record { utf8 = IsUtf8-text_of (Int n) sound; pushed = value_of_line_text_of (Int n) sound (omega arith) (λ e. cc e); short = grind (arith, nat_tests, short) }
shown_value (Text t) sound good short = record { utf8 = IsUtf8-text_of (Text t) sound; pushed = value_of_line_text_of (Text t) sound (omega arith) (λ e. cc e); short = grind (arith, nat_tests, short) }
shown_value (ListOf ps) sound good short = record { utf8 = IsUtf8-text_of (ListOf ps) sound; pushed = value_of_line_text_of (ListOf ps) sound (grind (arith, nat_tests, good)) (λ e. cc e); short = grind (arith, nat_tests, short) }
shown_value Nil sound good short = absurd (cc good)

pub shown_outcome : (dag : Dag) (t : ℕ) (o : Outcome) → IsSoundOutcome o → fits_in dag t o ≡ true → IsShownOutcome o
unfolding fits_in
shown_outcome dag t (Success None) sound fit = tt
shown_outcome dag t (Success (Some x)) sound fit =
    let (line, push) = and_parts (is_readable_from_line_in (Some x)) (may_push_in dag t (Some x)) fit in
    shown_value x sound line (and_parts (is_short_value_in (Some x)) _ push).0
shown_outcome dag t Failed sound fit = tt
shown_outcome dag t Skipped sound fit = tt

-- ---- results

last_try_to : (f : ℕ → Outcome) (a left : ℕ) → last_try f a left ≤ a + left
last_try_to f a zero = omega arith
last_try_to f a (suc left) = go (is_failed (f a)) (last_try_to f (suc a) left)
  where
    go : (b : Bool) → last_try f (suc a) left ≤ suc a + left → (if b then last_try f (suc a) left else a) ≤ a + suc left
    go true h = omega arith
    go false h = omega arith

pub tries_are : (dag : Dag) (ledger : Ledger) (k t i : ℕ) → (task_of dag t).retries ≤ 100 → IsTries (result_of dag ledger k t i).tries
unfolding result_of
tries_are dag ledger k t i few =
    (last_try_from (outcome_at dag ledger k t i) 1 (task_of dag t).retries, omega (arith, last_try_to (outcome_at dag ledger k t i) 1 (task_of dag t).retries))

length_results_from : (result : ℕ → TaskResult) (i : ℕ) (gs : List Given) → length (results_from result i gs) ≡ length (finished_from result i gs)
length_results_from result i [] = refl
length_results_from result i (g ∷ gs) = ap suc (length_results_from result (suc i) gs)

pub length_finished_from : (result : ℕ → TaskResult) (i : ℕ) (gs : List Given) → length (finished_from result i gs) ≡ length gs
length_finished_from result i [] = refl
length_finished_from result i (g ∷ gs) = ap suc (length_finished_from result (suc i) gs)

-- ---- tasks

-- an expansion has an item
some_mapped : (pulls : List (Option Xval)) (found : Items) (gs : List Given) → mapped pulls found ≡ Decision.Instances gs → 1 ≤ length gs
some_mapped pulls Items.Missing gs e = absurd (cc e)
some_mapped pulls (Items.List []) gs e = absurd (cc e)
some_mapped pulls (Items.List (x ∷ xs)) [] e = absurd (cc e)
some_mapped pulls (Items.List (x ∷ xs)) (g ∷ gs) e = omega arith

some_instances : (dag : Dag) (seen : ℕ → Seen) (pulls : List (Option Xval)) (expand : Option ℕ) (gs : List Given) → instances_of dag seen pulls expand ≡ Decision.Instances gs → is_some expand ≡ true → 1 ≤ length gs
some_instances dag seen pulls None gs e expanded = absurd (cc expanded)
some_instances dag seen pulls (Some source) gs e expanded = go (seen source).value e
  where
    go : (o : Option TaskValue) → (elim o [ None ↦ Decision.Wait | Some v ↦ mapped pulls (items (task_of dag source) v) ]) ≡ Decision.Instances gs → 1 ≤ length gs
    go None e = absurd (cc e)
    go (Some v) e = some_mapped pulls (items (task_of dag source) v) gs e

some_decided : (dag : Dag) (k : ℕ) (seen : ℕ → Seen) (before : Option TaskValue) (t : ℕ) (gs : List Given) → decision dag k seen before t ≡ Decision.Instances gs → is_some (task_of dag t).expand ≡ true → 1 ≤ length gs
unfolding decision
some_decided dag k seen before t gs e expanded = go (task_verdict_of dag k seen before t) e
  where
    go : (v : Verdict) → after_verdict dag seen t v ≡ Decision.Instances gs → 1 ≤ length gs
    go Verdict.Wait e = absurd (cc e)
    go Verdict.Blocked e = absurd (cc e)
    go Verdict.Skip e = absurd (cc e)
    go Verdict.UpstreamFailed e = absurd (cc e)
    go Verdict.Run e = some_instances dag seen (pulled dag seen t) (task_of dag t).expand gs e expanded

pub some_in_run : (dag : Dag) (ledger : Ledger) (k t : ℕ) (gs : List Given) → decided dag ledger k t ≡ Decision.Instances gs → is_some (task_of dag t).expand ≡ true → 1 ≤ length gs
unfolding decided
some_in_run dag ledger k t gs e expanded = some_decided dag k (λ u. settled (out dag ledger k u)) (Some (before dag ledger k t)) t gs e expanded

results_fit : (dag : Dag) (t : ℕ) (result : ℕ → TaskResult) (i : ℕ) (gs : List Given) → AllByRecursion (λ (x : Instance). IsFitting dag t x.phase) (finished_from result i gs) → AreFittingResults dag t (results_from result i gs)
results_fit dag t result i [] fit = tt
results_fit dag t result i (g ∷ gs) fit = (fit.0, results_fit dag t result (suc i) gs fit.1)

-- ---- ended backfills

kept_by : (dag : Dag) (limits : Limits) (events : List Event) (s : State) → IsLegal dag limits s events → AreFew s → AreFitting dag s → AreFew (replay dag s events) × AreFitting dag (replay dag s events)
kept_by dag limits [] s legal few fit = (few, fit)
kept_by dag limits (e ∷ es) s legal few fit = kept_by dag limits es (after dag s e) legal.1 (few_after dag s e few fit) (fitting_after dag limits s e legal.0 fit)

pub journal_keeps : (dag : Dag) (limits : Limits) (runs : ℕ) (journal : List Event) (s : State) → IsJournal dag limits runs journal s → AreFew s × AreFitting dag s
journal_keeps dag limits runs journal s is =
    let P : State → Type 0 = λ s. AreFew s × AreFitting dag s in
    subst P is.led_to (kept_by dag limits journal (start dag runs) is.legal (start_few dag runs) (start_fitting dag runs))

-- the value of a decided task fits, as what its cell came to does
value_fits : (dag : Dag) (t : ℕ) (result : ℕ → TaskResult) (d : Decision) (v : TaskValue) → IsFew (final_cell d result) → HasFitting dag t (final_cell d result) → value_in (final_cell d result) ≡ Some v → FitsValue dag t v
value_fits dag t result Decision.Wait v few fit is = absurd (cc is)
value_fits dag t result Decision.Blocked v few fit is = let same : TaskValue.Blocked ≡ v = cc is in subst (FitsValue dag t) same tt
value_fits dag t result Decision.Skipped v few fit is = let same : TaskValue.Skipped ≡ v = cc is in subst (FitsValue dag t) same tt
value_fits dag t result Decision.UpstreamFailed v few fit is = let same : TaskValue.UpstreamFailed ≡ v = cc is in subst (FitsValue dag t) same tt
value_fits dag t result (Decision.Instances gs) v few fit is =
    let rs = results_from result 0 gs in
    let ran : option_map TaskValue.Ran (results (finished_from result 0 gs)) ≡ Some (TaskValue.Ran rs) = ap (option_map TaskValue.Ran) (finished_results result 0 gs) in
    let same : TaskValue.Ran rs ≡ v = cc (ran, is) in
    subst (FitsValue dag t) same (omega (arith, length_results_from result 0 gs, few), results_fit dag t result 0 gs fit)

pub out_fits : (dag : Dag) → IsSoundDag dag → (runs : ℕ) (s : State) → IsOutcome dag runs s → AreFew s → AreFitting dag s → (k t : ℕ) → k < runs → t < length dag.tasks → FitsValue dag t (out dag (entry_in s.ledger) k t)
out_fits dag sound runs s is few fit k t l m =
    let ledger = entry_in s.ledger in
    let cell : cell_at s k t ≡ final_cell (decided dag ledger k t) (result_of dag ledger k t) = is.cells k t l m in
    let F : Cell → Type 0 = λ c. HasFitting dag t c in
    value_fits dag t (result_of dag ledger k t) (decided dag ledger k t) (out dag ledger k t) (subst IsFew cell (few k t)) (subst F cell (fit k t)) (ap value_in (sym cell) ∙ outcome_value dag sound runs s is k t l m)

-- ---- what instances are given

-- an item is there exactly where the task is expanded
abbrev pub IsGivenItem : Bool → Option Xval → Type 0
IsGivenItem expanded None = expanded ≡ false
IsGivenItem expanded (Some x) = (expanded ≡ true) × IsPushed x

pub record IsGivenSo (expanded : Bool) (pulls : List (Option Xval)) (g : Given) : Type 0 where
  pub pulled : g.pulled ≡ pulls
  pub item : IsGivenItem expanded g.item

givens_in : Decision → List Given
givens_in Decision.Wait = []
givens_in Decision.Blocked = []
givens_in Decision.Skipped = []
givens_in Decision.UpstreamFailed = []
givens_in (Decision.Instances gs) = gs

given_each : (pulls : List (Option Xval)) (xs : List Xval) → AllByRecursion IsPushed xs → AllByRecursion (IsGivenSo true pulls) (map (λ (item : Xval). record { item = Some item; pulled = pulls }) xs)
given_each pulls [] each = tt
given_each pulls (x ∷ xs) each = (record { pulled = refl; item = (refl, each.0) }, given_each pulls xs each.1)

given_mapped : (pulls : List (Option Xval)) (found : Items) (gs : List Given) → ((xs : List Xval) → found ≡ Items.List xs → AllByRecursion IsPushed xs) → mapped pulls found ≡ Decision.Instances gs → AllByRecursion (IsGivenSo true pulls) gs
unfolding givens_in
given_mapped pulls Items.Missing gs each e = absurd (cc e)
given_mapped pulls (Items.List []) gs each e = absurd (cc e)
given_mapped pulls (Items.List (x ∷ xs)) gs each e = subst (AllByRecursion (IsGivenSo true pulls)) (ap givens_in e) (given_each pulls (x ∷ xs) (each (x ∷ xs) refl))

given_instances : (dag : Dag) (value : ℕ → TaskValue) (pulls : List (Option Xval)) (expand : Option ℕ) (gs : List Given) → ((source : ℕ) → expand ≡ Some source → FitsValue dag source (value source))
    → instances_of dag (λ u. settled (value u)) pulls expand ≡ Decision.Instances gs → AllByRecursion (IsGivenSo (is_some expand) pulls) gs
unfolding givens_in
given_instances dag value pulls None gs source_fits e = subst (AllByRecursion (IsGivenSo false pulls)) (ap givens_in e) (record { pulled = refl; item = refl }, tt)
given_instances dag value pulls (Some source) gs source_fits e =
    given_mapped pulls (items (task_of dag source) (value source)) gs (λ xs is. items_pushed dag source (value source) xs (source_fits source refl) is) e

given_decided : (dag : Dag) (k : ℕ) (value : ℕ → TaskValue) (before : Option TaskValue) (t : ℕ) (gs : List Given) → ((source : ℕ) → (task_of dag t).expand ≡ Some source → FitsValue dag source (value source))
    → decision dag k (λ u. settled (value u)) before t ≡ Decision.Instances gs → AllByRecursion (IsGivenSo (is_some (task_of dag t).expand) (pulled dag (λ u. settled (value u)) t)) gs
unfolding decision
given_decided dag k value before t gs source_fits e = go (task_verdict_of dag k (λ u. settled (value u)) before t) e
  where
    go : (v : Verdict) → after_verdict dag (λ u. settled (value u)) t v ≡ Decision.Instances gs → AllByRecursion (IsGivenSo (is_some (task_of dag t).expand) (pulled dag (λ u. settled (value u)) t)) gs
    go Verdict.Wait e = absurd (cc e)
    go Verdict.Blocked e = absurd (cc e)
    go Verdict.Skip e = absurd (cc e)
    go Verdict.UpstreamFailed e = absurd (cc e)
    go Verdict.Run e = given_instances dag value (pulled dag (λ u. settled (value u)) t) (task_of dag t).expand gs source_fits e

pub given_in_run : (dag : Dag) (ledger : Ledger) (k t : ℕ) (gs : List Given) → ((source : ℕ) → (task_of dag t).expand ≡ Some source → FitsValue dag source (out dag ledger k source))
    → decided dag ledger k t ≡ Decision.Instances gs → AllByRecursion (IsGivenSo (is_some (task_of dag t).expand) (pulled dag (λ u. settled (out dag ledger k u)) t)) gs
unfolding decided
given_in_run dag ledger k t gs source_fits e = given_decided dag k (out dag ledger k) (Some (before dag ledger k t)) t gs source_fits e
