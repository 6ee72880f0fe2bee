-- A record tells of one try alone.
use Rattle.std.proofs.Common.{◌≡◌, ◌<◌, length, ℕ, ℤ, pos, unsigned_abs, arith, List, [], ◌∷◌, Option, Some, None, map, get_or, refl, sym, ap, ◌∙◌}
use Rattle.std.specs.Prelude.{slice_get}
use Rattle.bf_value.specs.declared.xval.Xval.{Xval}
use Rattle.bf_value.specs.declared.xval.Xval.TheVariants.{Flag, Int, Text, List as ListOf, Nil}
use Rattle.bf_value.specs.Plain.{Plains, none, more}
use Rattle.bf_value.specs.Views.{list_of, plain_of, plains_of, xval_of, xvals_of}
use Rattle.bf_value.specs.Codes.{xval_of-plain_of}
use Rattle.bf_value.specs.declared.name.JobName.{JobName}
use Rattle.bf_xcom.specs.declared.values.Given.{Given}
use Rattle.bf_xcom.specs.declared.values.Outcome.{Outcome}
use Rattle.bf_xcom.specs.declared.values.Outcome.TheVariants.{Success, Failed, Skipped}
use Rattle.bf_xcom.specs.Pulls.{pushed_by}
use Rattle.bf_plan.specs.declared.plan.Dag.{Dag}
use Rattle.bf_plan.specs.Plans.{task_of}
use Rattle.bf_interval.specs.declared.interval.Interval.{Interval}
use Rattle.bf_moment.specs.Moment.{moment_text}
use Rattle.bf_try.specs.declared.ledger.Entry.{Entry}
use Rattle.bf_journal.specs.Records.{optional_value_of, outcome_word, record_value}
use Rattle.bf_journal.specs.Tells.{Tells, TellAll}

-- ---- what records are made by, back

-- the value of a list of one, or none of another list
abbrev first_in : Plains → Option Xval
first_in none = None
first_in (more p ps) = Some (xval_of p)

abbrev optional_in : Xval → Option Xval
optional_in (ListOf ps) = first_in ps
optional_in (Flag b) = None
optional_in (Int z) = None
optional_in (Text t) = None
optional_in Nil = None

abbrev pub items_in : Xval → List Xval
items_in (ListOf ps) = xvals_of ps
items_in (Flag b) = []
items_in (Int z) = []
items_in (Text t) = []
items_in Nil = []

optional_back : (o : Option Xval) → optional_in (optional_value_of o) ≡ o
optional_back None = refl
optional_back (Some v) = ap Some (xval_of-plain_of v)

placed_back : (o : Option Xval) → optional_in (xval_of (plain_of (optional_value_of o))) ≡ o
placed_back o = ap optional_in (xval_of-plain_of (optional_value_of o)) ∙ optional_back o

pub items_back : (xs : List Xval) → xvals_of (plains_of xs) ≡ xs
items_back [] = refl
items_back (x ∷ xs) = ap (λ l. l ∷ xvals_of (plains_of xs)) (xval_of-plain_of x) ∙ ap (λ l. x ∷ l) (items_back xs)

all_back : (os : List (Option Xval)) → map optional_in (map optional_value_of os) ≡ os
all_back [] = refl
all_back (o ∷ os) = ap (λ l. l ∷ map optional_in (map optional_value_of os)) (optional_back o) ∙ ap (λ l. o ∷ l) (all_back os)

-- the place k of a record
abbrev place : ℕ → Xval → Xval
place k value = get_or (items_in value) k Nil

abbrev int_in : Xval → ℤ
int_in (Int z) = z
int_in (Flag b) = pos 0
int_in (Text t) = pos 0
int_in (ListOf ps) = pos 0
int_in Nil = pos 0

abbrev text_in : Xval → List ℕ
text_in (Text t) = t
text_in (Int z) = []
text_in (Flag b) = []
text_in (ListOf ps) = []
text_in Nil = []

module _ (run run2 task task2 : List ℕ) (n n2 : JobName) (given given2 : Given) (outcome outcome2 : Outcome) (stamp stamp2 : Xval)
    (same : record_value run task n given outcome stamp ≡ record_value run2 task2 n2 given2 outcome2 stamp2) where
  pub runs : run ≡ run2
  runs = ap (λ v. text_in (place 0 v)) same

  pub tasks : task ≡ task2
  tasks = ap (λ v. text_in (place 1 v)) same

  indexes : n.index ≡ n2.index
  indexes = ap (λ v. int_in (place 2 v)) same

  attempts : n.attempt ≡ n2.attempt
  attempts = ap (λ v. unsigned_abs (int_in (place 3 v))) same

  pub words : outcome_word outcome ≡ outcome_word outcome2
  words = ap (λ v. text_in (place 4 v)) same

  pub pushed : pushed_by outcome ≡ pushed_by outcome2
  pushed = sym (placed_back (pushed_by outcome)) ∙ ap (λ v. optional_in (place 5 v)) same ∙ placed_back (pushed_by outcome2)

  pub item : given.item ≡ given2.item
  item = sym (placed_back given.item) ∙ ap (λ v. optional_in (place 6 v)) same ∙ placed_back given2.item

  pub pulled : given.pulled ≡ given2.pulled
  pulled =
      let back : (g : Given) → map optional_in (items_in (list_of (map optional_value_of g.pulled))) ≡ g.pulled = λ g. ap (map optional_in) (items_back (map optional_value_of g.pulled)) ∙ all_back g.pulled in
      sym (back given) ∙ ap (λ v. map optional_in (items_in (place 7 v))) same ∙ back given2

same_outcome : (a b : Outcome) → outcome_word a ≡ outcome_word b → pushed_by a ≡ pushed_by b → a ≡ b
same_outcome (Success v) (Success w) word push = ap Success push
same_outcome (Success v) Failed word push = absurd (omega (arith, ap (λ l. get_or l 0 0) word))
same_outcome (Success v) Skipped word push = absurd (omega (arith, ap (λ l. get_or l 1 0) word))
same_outcome Failed (Success w) word push = absurd (omega (arith, ap (λ l. get_or l 0 0) word))
same_outcome Failed Failed word push = refl
same_outcome Failed Skipped word push = absurd (omega (arith, ap (λ l. get_or l 0 0) word))
same_outcome Skipped (Success w) word push = absurd (omega (arith, ap (λ l. get_or l 1 0) word))
same_outcome Skipped Failed word push = absurd (omega (arith, ap (λ l. get_or l 0 0) word))
same_outcome Skipped Skipped word push = refl

-- no two tasks have one id, and no two runs start at one moment
pub record AreTold (dag : Dag) (intervals : List Interval) : Type 0 where
  pub ids : (a b : ℕ) → a < length dag.tasks → b < length dag.tasks → (task_of dag a).id ≡ (task_of dag b).id → a ≡ b
  pub starts : (a b : ℕ) (x y : Interval) → slice_get intervals a ≡ Some x → slice_get intervals b ≡ Some y
      → moment_text x.start.nanosecond ≡ moment_text y.start.nanosecond → a ≡ b

-- a value is the record of one try alone
pub one_name : (dag : Dag) (intervals : List Interval) (value : Xval) (n n2 : JobName) (e e2 : Entry) → AreTold dag intervals → Tells dag intervals value n e → Tells dag intervals value n2 e2 → n ≡ n2
one_name dag intervals value n n2 e e2 told one other =
    let same : record_value (moment_text one.run.start.nanosecond) (task_of dag n.task).id n e.given e.outcome one.stamp ≡ record_value (moment_text other.run.start.nanosecond) (task_of dag n2.task).id n2 e2.given e2.outcome other.stamp = sym one.is ∙ other.is in
    let run : n.run ≡ n2.run = told.starts n.run n2.run one.run other.run one.is_run other.is_run (runs _ _ _ _ n n2 e.given e2.given e.outcome e2.outcome one.stamp other.stamp same) in
    let task : n.task ≡ n2.task = told.ids n.task n2.task one.is_task other.is_task (tasks _ _ _ _ n n2 e.given e2.given e.outcome e2.outcome one.stamp other.stamp same) in
    let index : n.index ≡ n2.index = indexes _ _ _ _ n n2 e.given e2.given e.outcome e2.outcome one.stamp other.stamp same in
    let attempt : n.attempt ≡ n2.attempt = attempts _ _ _ _ n n2 e.given e2.given e.outcome e2.outcome one.stamp other.stamp same in
    λ i. record { run = run i; task = task i; index = index i; attempt = attempt i }

pub one_entry : (dag : Dag) (intervals : List Interval) (value : Xval) (n n2 : JobName) (e e2 : Entry) → Tells dag intervals value n e → Tells dag intervals value n2 e2 → e ≡ e2
one_entry dag intervals value n n2 e e2 one other =
    let same : record_value (moment_text one.run.start.nanosecond) (task_of dag n.task).id n e.given e.outcome one.stamp ≡ record_value (moment_text other.run.start.nanosecond) (task_of dag n2.task).id n2 e2.given e2.outcome other.stamp = sym one.is ∙ other.is in
    let an_item : e.given.item ≡ e2.given.item = item _ _ _ _ n n2 e.given e2.given e.outcome e2.outcome one.stamp other.stamp same in
    let a_pull : e.given.pulled ≡ e2.given.pulled = pulled _ _ _ _ n n2 e.given e2.given e.outcome e2.outcome one.stamp other.stamp same in
    let an_outcome : e.outcome ≡ e2.outcome = same_outcome e.outcome e2.outcome (words _ _ _ _ n n2 e.given e2.given e.outcome e2.outcome one.stamp other.stamp same) (pushed _ _ _ _ n n2 e.given e2.given e.outcome e2.outcome one.stamp other.stamp same) in
    λ i. record { given = record { item = an_item i; pulled = a_pull i }; outcome = an_outcome i }

-- values are the records of one list of tries alone
pub one_reading : (dag : Dag) (intervals : List Interval) → AreTold dag intervals → (values : List (Option Xval)) (tries others : List (JobName × Entry)) → TellAll dag intervals values tries → TellAll dag intervals values others → tries ≡ others
one_reading dag intervals told [] [] [] one other = refl
one_reading dag intervals told [] [] (o ∷ os) one other = absurd other
one_reading dag intervals told [] (t ∷ ts) others one other = absurd one
one_reading dag intervals told (v ∷ vs) [] others one other = absurd one
one_reading dag intervals told (v ∷ vs) (t ∷ ts) [] one other = absurd other
one_reading dag intervals told (None ∷ vs) (t ∷ ts) (o ∷ os) one other = absurd one
one_reading dag intervals told (Some v ∷ vs) (t ∷ ts) (o ∷ os) one other =
    let name : t.0 ≡ o.0 = one_name dag intervals v t.0 o.0 t.1 o.1 told one.0 other.0 in
    let entry : t.1 ≡ o.1 = one_entry dag intervals v t.0 o.0 t.1 o.1 one.0 other.0 in
    ap (λ l. t ∷ l) (one_reading dag intervals told vs ts os one.1 other.1) ∙ (λ i. (name i, entry i) ∷ os)
