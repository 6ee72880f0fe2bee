-- What a source has for an expansion, by its instances, and how many items it gives at most.
use Rattle.std.proofs.Common.{◌≡◌, ℕ, zero, suc, ◌≤◌, ◌==◌, Bool, true, false, not, ◌&&◌, ◌||◌, if◌then◌else◌, List, [], ◌∷◌, length, map, slice_index_or, Option, None, Some, is_some, is_none, option_map, refl, sym, ap, ap₂, ◌∙◌, subst, arith}
use Rattle.std.specs.List.{AllByRecursion, cons_option, filter_map, list_any}
use Rattle.std.proofs.lemmas.Bool.Decides.{nat_tests}
use Rattle.std.proofs.lemmas.List.{length-map}
use Rattle.std.proofs.lemmas.Bool.{and_parts}
use Rattle.bf_value.specs.declared.xval.Xval.TheVariants.{Nil, Flag, Int, Text, List as ListOf}
use Rattle.bf_value.specs.Views.{xvals_of}
use Rattle.bf_mapped.specs.Items.{items_of}
use Rattle.bf_xcom.specs.Pulls.{only_pushed_value_in}
use Rattle.bf_plan.specs.Plans.{no_task}
use Rattle.bf_rule.specs.Branches.{names_downstreams_in}
use Rattle.bf_try.specs.Grades.{gives_items_in, is_list_of_items_in, is_short_value_in, is_source, is_readable_from_line_in, most_items}
use Rattle.bf_core.specs.Terms.{Cell, Dag, Instance, Items, Outcome, Phase, SourceValues, Task, TaskResult, TaskValue, Xval, fits_in, is_branch_in, items, pushed_value_of, shape_of, source_values, task_of}
use Rattle.bf_core.specs.Events.{cons_result, results, value_in}
use Rattle.bf_core.specs.Few.{HasFitting, IsFew, IsFitting}
use Rattle.bf_core.specs.inner.Words.{pushed_by_first, pushed_by_one, pushed_in, sourced_from}
use Rattle.bf_core.proofs.Pulled.{first_pushed}
use Rattle.bf_core.proofs.Sums.{some_results}
use Rattle.bf_core.proofs.Numbers.{le_from}

-- ---- by instances

-- each result has pushed what its instance has
each_cons : (a : ℕ) (p : Phase) (o : Option (List TaskResult)) (values : List (Option Xval)) → ((ts : List TaskResult) → o ≡ Some ts → map pushed_value_of ts ≡ values) →
    (rs : List TaskResult) → cons_result a p o ≡ Some rs → map pushed_value_of rs ≡ pushed_in p ∷ values
each_cons a (Phase.Finished o) (Some ts) values h [] e = cc
each_cons a (Phase.Finished o) (Some ts) values h (r ∷ rs) e =
    let out : r.outcome ≡ o = cc in
    let same : ts ≡ rs = cc in
    ap₂ (λ x vs. pushed_in (Phase.Finished x) ∷ vs) out (h rs (ap Some same))
each_cons a (Phase.Finished o) None values h rs e = cc
each_cons a Phase.Waiting o values h rs e = cc
each_cons a Phase.Running o values h rs e = cc

each_pushed : (xs : List Instance) (rs : List TaskResult) → results xs ≡ Some rs → map pushed_value_of rs ≡ map pushed_by_one xs
each_pushed [] [] e = refl
each_pushed [] (r ∷ rs) e = cc
each_pushed (x ∷ xs) rs e = each_cons x.attempt x.phase (results xs) _ (each_pushed xs) rs e

either : (expand : Option ℕ) (one each : SourceValues) → (if is_none expand then Some one else Some each) ≡ Some (if is_some expand then each else one)
either None one each = refl
either (Some source) one each = refl

source_of : (source : Task) (one : Option Xval) (each : List (Option Xval)) (o : Option (List TaskResult)) (f : Bool) → is_some o ≡ f →
    ((rs : List TaskResult) → o ≡ Some rs → only_pushed_value_in rs ≡ one) → ((rs : List TaskResult) → o ≡ Some rs → map pushed_value_of rs ≡ each) →
    (if not f then None else (if is_none source.expand then Some (SourceValues.Pushed one) else Some (SourceValues.Each each))) ≡ option_map (source_values source) (option_map TaskValue.Ran o)
source_of source one each None f e alone all = rw (← e)
source_of source one each (Some rs) f e alone all =
    let known : f ≡ true = sym e in
    ap (λ b. if not b then None else (if is_none source.expand then Some (SourceValues.Pushed one) else Some (SourceValues.Each each))) known
    ∙ either source.expand (SourceValues.Pushed one) (SourceValues.Each each)
    ∙ ap₂ (λ a vs. Some (if is_some source.expand then SourceValues.Each vs else SourceValues.Pushed a)) (sym (alone rs refl)) (sym (all rs refl))

-- what a source has by its instances is what it has by their value
pub ran_source : (source : Task) (xs : List Instance) → sourced_from source xs ≡ option_map (source_values source) (option_map TaskValue.Ran (results xs))
ran_source source xs = source_of source _ _ (results xs) _ (some_results xs) (first_pushed xs) (each_pushed xs)

-- ---- how many items

abbrev pub AreFewItems : Items → Type 0
AreFewItems Items.Missing = Unit {0}
AreFewItems (Items.List xs) = length xs ≤ most_items

length_cons : {Y : Type 0} (o : Option Y) (ys : List Y) → length (cons_option o ys) ≤ suc (length ys)
length_cons None ys = omega arith
length_cons (Some y) ys = omega arith

length_filter_map : {X Y : Type 0} (h : X → Option Y) (xs : List X) → length (filter_map h xs) ≤ length xs
length_filter_map h [] = omega arith
length_filter_map h (x ∷ xs) = omega (arith, length_cons (h x) (filter_map h xs), length_filter_map h xs)

length_result : (a : ℕ) (p : Phase) (o : Option (List TaskResult)) (n : ℕ) → ((ts : List TaskResult) → o ≡ Some ts → length ts ≡ n) →
    (rs : List TaskResult) → cons_result a p o ≡ Some rs → length rs ≡ suc n
length_result a (Phase.Finished o) (Some ts) n h [] e = cc
length_result a (Phase.Finished o) (Some ts) n h (r ∷ rs) e =
    let same : ts ≡ rs = cc in
    ap suc (h rs (ap Some same))
length_result a (Phase.Finished o) None n h rs e = cc
length_result a Phase.Waiting o n h rs e = cc
length_result a Phase.Running o n h rs e = cc

length_results : (xs : List Instance) (rs : List TaskResult) → results xs ≡ Some rs → length rs ≡ length xs
length_results [] [] e = refl
length_results [] (r ∷ rs) e = cc
length_results (x ∷ xs) rs e = length_result x.attempt x.phase (results xs) (length xs) (length_results xs) rs e

or_else : (a b : Bool) → (not a || b) ≡ true → a ≡ true → b ≡ true
or_else true b e h = e
or_else false b e h = cc

-- an unmapped task that a task is expanded over gives items
same_number : (n : ℕ) → (n == n) ≡ true
same_number n = grind (arith, nat_tests)

source_in : (tasks : List Task) (t p : ℕ) → (slice_index_or tasks t no_task).expand ≡ Some p → list_any (λ task. is_source task.expand p) tasks ≡ true
source_in [] t p e = cc
source_in (x ∷ xs) zero p e = ap (λ o. is_source o p || list_any (λ task. is_source task.expand p) xs) e ∙ ap (λ b. b || list_any (λ task. is_source task.expand p) xs) (same_number p)
source_in (x ∷ xs) (suc t) p e = go (is_source x.expand p) (source_in xs t p e)
  where
    go : (b : Bool) → list_any (λ task. is_source task.expand p) xs ≡ true → (b || list_any (λ task. is_source task.expand p) xs) ≡ true
    go true h = refl
    go false h = h

gives : (dag : Dag) (t p : ℕ) → (task_of dag t).expand ≡ Some p → (task_of dag p).expand ≡ None → gives_items_in dag p ≡ true
unfolding task_of
gives dag t p e alone = ap (λ o. not (is_some o) && list_any (λ task. is_source task.expand p) dag.tasks) alone ∙ source_in dag.tasks t p e

few_list : (dag : Dag) (p : ℕ) (v : Option Xval) → fits_in dag p (Outcome.Success v) ≡ true → gives_items_in dag p ≡ true → is_list_of_items_in v ≡ true
unfolding fits_in
few_list dag p v e h =
    or_else (gives_items_in dag p) (is_list_of_items_in v)
    (and_parts (not (is_branch_in (task_of dag p)) || names_downstreams_in (shape_of dag) p v) _ (and_parts (is_short_value_in v) _ (and_parts (is_readable_from_line_in v) _ e).1).1).1 h

few_pushed : (v : Option Xval) → is_list_of_items_in v ≡ true → AreFewItems (items_of (SourceValues.Pushed v))
few_pushed None e = tt
few_pushed (Some Nil) e = tt
few_pushed (Some (Flag b)) e = tt
few_pushed (Some (Int n)) e = tt
few_pushed (Some (Text t)) e = tt
few_pushed (Some (ListOf values)) e = le_from (length (xvals_of values)) most_items e

-- the one instance of a source has finished with a list of few, or with no value
few_first : (dag : Dag) (p : ℕ) (q : Phase) → IsFitting dag p q → gives_items_in dag p ≡ true → AreFewItems (items_of (SourceValues.Pushed (pushed_in q)))
few_first dag p (Phase.Finished (Outcome.Success v)) fit h = few_pushed v (few_list dag p v fit h)
few_first dag p (Phase.Finished Outcome.Failed) fit h = tt
few_first dag p (Phase.Finished Outcome.Skipped) fit h = tt
few_first dag p Phase.Waiting fit h = tt
few_first dag p Phase.Running fit h = tt

few_alone : (dag : Dag) (p : ℕ) (xs : List Instance) → AllByRecursion (λ x. IsFitting dag p x.phase) xs → gives_items_in dag p ≡ true → AreFewItems (items_of (SourceValues.Pushed (pushed_by_first xs)))
few_alone dag p [] fit h = tt
few_alone dag p (x ∷ xs) fit h = few_first dag p x.phase fit.0 h

few_each : (xs : List Instance) (rs : List TaskResult) → length xs ≤ most_items → length rs ≡ length xs → length (filter_map (λ v. v) (map pushed_value_of rs)) ≤ most_items
few_each xs rs few same = omega (arith, length_filter_map (λ (v : Option Xval). v) (map pushed_value_of rs), length-map rs pushed_value_of, few, same)

by_kind : (o : Option ℕ) (each one : SourceValues) → AreFewItems (items_of each) → (o ≡ None → AreFewItems (items_of one)) → AreFewItems (items_of (if is_some o then each else one))
by_kind None each one x y = y refl
by_kind (Some p) each one x y = x

few_ran : (source : Task) (v : TaskValue) (o : Option (List TaskResult)) → ((rs : List TaskResult) → o ≡ Some rs → AreFewItems (items source (TaskValue.Ran rs))) → option_map TaskValue.Ran o ≡ Some v →
    AreFewItems (items source v)
few_ran source v None h e = cc
few_ran source v (Some rs) h e =
    let is : TaskValue.Ran rs ≡ v = cc in
    subst (λ (w : TaskValue). AreFewItems (items source w)) is (h rs refl)

-- a source of few instances, of which each came to what it may come to, gives few items
pub few_items : (dag : Dag) (t p : ℕ) → (task_of dag t).expand ≡ Some p → (c : Cell) → IsFew c → HasFitting dag p c → (v : TaskValue) → value_in c ≡ Some v → AreFewItems (items (task_of dag p) v)
few_items dag t p e Cell.Undecided few fit v is = cc
few_items dag t p e Cell.Blocked few fit v is = let same : TaskValue.Blocked ≡ v = cc in subst (λ (w : TaskValue). AreFewItems (items (task_of dag p) w)) same tt
few_items dag t p e Cell.Skipped few fit v is = let same : TaskValue.Skipped ≡ v = cc in subst (λ (w : TaskValue). AreFewItems (items (task_of dag p) w)) same tt
few_items dag t p e Cell.UpstreamFailed few fit v is = let same : TaskValue.UpstreamFailed ≡ v = cc in subst (λ (w : TaskValue). AreFewItems (items (task_of dag p) w)) same tt
few_items dag t p e (Cell.Ran xs) few fit v is =
    few_ran (task_of dag p) v (results xs) (λ rs h.
    by_kind (task_of dag p).expand (SourceValues.Each (map pushed_value_of rs)) (SourceValues.Pushed (only_pushed_value_in rs))
    (few_each xs rs few (length_results xs rs h))
    (λ alone. subst (λ (w : Option Xval). AreFewItems (items_of (SourceValues.Pushed w))) (sym (first_pushed xs rs h)) (few_alone dag p xs fit (gives dag t p e alone)))) is
