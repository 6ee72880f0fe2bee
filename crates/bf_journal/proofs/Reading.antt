-- The fields of a record tell of its try, and those of a try are the fields of its record.
use Rattle.std.proofs.Common.{◌≡◌, ◌<◌, ℕ, zero, suc, pos, List, [], ◌∷◌, Option, Some, None, map, length, get_or, drop, position, refl, sym, ap, ◌∙◌, subst, inl, inr, true, false, option_map, unwrap_or, if◌then◌else◌, arith}
use Rattle.std.specs.Prelude.{slice_get}
use Rattle.std.specs.Str.{bytes_eq}
use Rattle.std.specs.Cmp.Lexicographic.{bytes_decides}
use Rattle.std.proofs.lemmas.Bool.{cases_Bool}
use Rattle.std.proofs.lemmas.List.{length-map, get_or-map, drop_more, drop_all}
use Rattle.std.proofs.lemmas.List.Quantifiers.{position-Some}
use Rattle.std.proofs.lemmas.Option.{unwrap_or-slice_get}
use Rattle.bf_value.specs.Distinct.{AreDistinct}
use Rattle.bf_value.specs.declared.name.JobName.{JobName}
use Rattle.bf_value.specs.declared.xval.Xval.{Xval}
use Rattle.bf_value.specs.declared.xval.Xval.TheVariants.{Int, Text, Nil}
use Rattle.bf_value.specs.Codes.{xval_of-plain_of}
use Rattle.bf_value.specs.Views.{list_of}
use Rattle.bf_plan.specs.declared.plan.Dag.{Dag}
use Rattle.bf_plan.specs.declared.plan.Task.{Task}
use Rattle.bf_plan.specs.Plans.{no_task, shape_of, task_of}
use Rattle.bf_plan.specs.Sound.{IsNamed}
use Rattle.bf_plan.proofs.ListLemmas.{some_same}
use Rattle.bf_plan.proofs.PlanLemmas.{task_found}
use Rattle.bf_interval.specs.declared.interval.Interval.{Interval}
use Rattle.bf_moment.specs.Moment.{moment_text}
use Rattle.bf_xcom.specs.Pulls.{pushed_by}
use Rattle.bf_try.specs.declared.ledger.Entry.{Entry}
use Rattle.bf_journal.specs.Records.{optional_value_of, outcome_word, record_in, record_value}
use Rattle.bf_journal.specs.Tells.{Tells}
use Rattle.bf_journal.specs.inner.Tells.{StartsAt, TellsEntry, TellsName}
use Rattle.bf_journal.proofs.Telling.{items_back, items_in}

-- ---- runs and tasks

-- there is such a run
pub run_of : (o : Option Interval) (bytes : List ℕ) → StartsAt o bytes → (r : Interval) × (o ≡ Some r) × (bytes ≡ moment_text r.start.nanosecond)
run_of None bytes starts = absurd starts
run_of (Some r) bytes starts = (r, refl, starts)

-- there is such a task, and that is its id
pub id_of : (dag : Dag) (id : List ℕ) (t : ℕ) → position (bytes_eq id) (shape_of dag).ids ≡ Some t → (t < length dag.tasks) × (id ≡ (task_of dag t).id)
unfolding task_of
id_of dag id t found =
    let ids : List (List ℕ) = map (λ (task : Task). task.id) dag.tasks in
    let (within, is, before) = position-Some (bytes_eq id) ids t [] found in
    let inside : t < length dag.tasks = omega (arith, within, length-map dag.tasks (λ (task : Task). task.id)) in
    (inside, (bytes_decides id (get_or ids t [])).0 is ∙ get_or-map (λ (task : Task). task.id) dag.tasks t no_task [] inside)

-- where there is no such task, one that asks for nothing is meant
pub no_task_there : (dag : Dag) (t : ℕ) → slice_get dag.tasks t ≡ None → task_of dag t ≡ no_task
unfolding task_of
no_task_there dag t none = sym (unwrap_or-slice_get dag.tasks t no_task) ∙ ap (λ o. unwrap_or o no_task) none

-- ---- from fields to the record

at_drop : (xs : List Xval) (k : ℕ) (v : Xval) → slice_get xs k ≡ Some v → drop k xs ≡ v ∷ drop (suc k) xs
at_drop [] k v is = absurd (cc)
at_drop (x ∷ xs) zero v is = ap (λ y. y ∷ xs) (some_same is)
at_drop (x ∷ xs) (suc k) v is = at_drop xs k v is

-- the nine fields are those of a record
fields_are : (dag : Dag) (intervals : List Interval) (fields : List Xval) (n : JobName) (e : Entry) → length fields ≡ 9 → (name : TellsName dag intervals fields n) → TellsEntry fields e
    → list_of fields ≡ record_value name.run name.task n e.given e.outcome (get_or fields 8 Nil)
fields_are dag intervals fields n e long name entry =
    let stamp = get_or fields 8 Nil in
    let last : drop 8 fields ≡ stamp ∷ [] = drop_more fields 8 Nil (omega (arith, long)) ∙ ap (λ l. stamp ∷ l) (drop_all 9 fields (omega (arith, long))) in
    let word = Text (outcome_word e.outcome) in
    let pushed = optional_value_of (pushed_by e.outcome) in
    let item = optional_value_of e.given.item in
    let pulled = list_of (map optional_value_of e.given.pulled) in
    ap list_of (at_drop fields 0 (Text name.run) name.run_is
    ∙ ap (λ l. Text name.run ∷ l) (at_drop fields 1 (Text name.task) name.task_is
    ∙ ap (λ l. Text name.task ∷ l) (at_drop fields 2 (Int n.index) name.index_is
    ∙ ap (λ l. Int n.index ∷ l) (at_drop fields 3 (Int (pos n.attempt)) name.attempt_is
    ∙ ap (λ l. Int (pos n.attempt) ∷ l) (at_drop fields 4 word entry.outcome.word_is
    ∙ ap (λ l. word ∷ l) (at_drop fields 5 pushed entry.outcome.pushed_is
    ∙ ap (λ l. pushed ∷ l) (at_drop fields 6 item entry.item_is
    ∙ ap (λ l. item ∷ l) (at_drop fields 7 pulled entry.pulled_is
    ∙ ap (λ l. pulled ∷ l) last))))))))

pub tells_of : (dag : Dag) (intervals : List Interval) (fields : List Xval) (n : JobName) (e : Entry) → length fields ≡ 9 → TellsName dag intervals fields n → TellsEntry fields e
    → Tells dag intervals (list_of fields) n e
tells_of dag intervals fields n e long name entry =
    let (run, is_run, starts) = run_of (slice_get intervals n.run) name.run name.starts in
    let (is_task, id) = id_of dag name.task n.task name.is_task in
    let stamp = get_or fields 8 Nil in
    record {
      run = run;
      is_run = is_run;
      is_task = is_task;
      is_name = name.is_name;
      stamp = stamp;
      is = fields_are dag intervals fields n e long name entry
          ∙ ap (λ r. record_value r name.task n e.given e.outcome stamp) starts
          ∙ ap (λ t. record_value (moment_text run.start.nanosecond) t n e.given e.outcome stamp) id;
    }

-- ---- from the record to fields

module _ (dag : Dag) (intervals : List Interval) (fields : List Xval) (n : JobName) (e : Entry) (tells : Tells dag intervals (list_of fields) n e) where
  nine : List Xval
  nine = items_in (record_in dag tells.run n e.given e.outcome tells.stamp)

  fields_of : fields ≡ nine
  unfolding nine
  fields_of = sym (items_back fields) ∙ ap items_in tells.is

  pub count_of : length fields ≡ 9
  unfolding nine
  count_of = ap length fields_of

  at : (k : ℕ) → slice_get fields k ≡ slice_get nine k
  at k = ap (λ l. slice_get l k) fields_of

  pub name_of : IsNamed dag → TellsName dag intervals fields n
  unfolding nine
  name_of named = record {
    run = moment_text tells.run.start.nanosecond;
    task = (task_of dag n.task).id;
    starts = subst (λ o. StartsAt o (moment_text tells.run.start.nanosecond)) (sym tells.is_run) refl;
    is_task = task_found dag n.task named tells.is_task;
    is_name = tells.is_name;
    run_is = at 0;
    task_is = at 1;
    index_is = at 2;
    attempt_is = at 3;
  }

  pub entry_of : TellsEntry fields e
  unfolding nine
  entry_of = record {
    outcome = record { word_is = at 4; pushed_is = at 5 ∙ ap Some (xval_of-plain_of (optional_value_of (pushed_by e.outcome))) };
    item_is = at 6 ∙ ap Some (xval_of-plain_of (optional_value_of e.given.item));
    pulled_is = at 7;
  }
