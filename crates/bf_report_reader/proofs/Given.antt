-- What the instances of a backfill are given can be read back.
use Rattle.std.proofs.Common.{◌≡◌, ◌≢◌, ◌<◌, ◌≤◌, ◌*◌, ◌==◌, ℕ, suc, Bool, true, false, if◌then◌else◌, List, [], ◌∷◌, length, map, Option, None, Some, is_some, refl, ap, subst, arith}
use Rattle.std.specs.List.{AllByRecursion, filter_map, sum_by}
use Rattle.std.proofs.lemmas.Bool.{and_parts}
use Rattle.std.proofs.lemmas.Bool.Decides.{nat_tests}
use Rattle.std.proofs.lemmas.List.Sums.{sum_by-cons}
use Rattle.bf_value.specs.declared.xval.Xval.{Xval}
use Rattle.bf_value.specs.declared.xval.Xval.TheVariants.{Flag, Int, Text, List as ListOf, Nil}
use Rattle.bf_value.specs.Json.{json_of}
use Rattle.bf_value.specs.Plain.{Plains, IsSound, plain_depth, plains_depth}
use Rattle.bf_value.specs.Views.{plain_of, plains_of, xvals_of, list_of}
use Rattle.bf_value.proofs.ValueLemmas.{plains_of_xvals_of}
use Rattle.bf_value.proofs.SizeLemmas.{item_size, list_size}
use Rattle.bf_value.proofs.TextLemmas.{value_of_text_text_of, IsUtf8-text_of}
use Rattle.bf_plan.specs.declared.plan.Dag.{Dag}
use Rattle.bf_plan.specs.Plans.{task_of}
use Rattle.bf_mapped.specs.Items.{items_of}
use Rattle.bf_mapped.specs.declared.source.Items.{Items}
use Rattle.bf_mapped.specs.declared.source.SourceValues.{SourceValues}
use Rattle.bf_xcom.specs.declared.values.Outcome.{Outcome}
use Rattle.bf_xcom.specs.declared.values.Outcome.TheVariants.{Success, Failed, Skipped}
use Rattle.bf_xcom.specs.declared.values.TaskResult.{TaskResult}
use Rattle.bf_xcom.specs.declared.values.TaskValue.{TaskValue}
use Rattle.bf_xcom.specs.Pulls.{pushed_by, pushed_value_of, only_pushed_value_in, pushed_values_in, pull_of, items}
use Rattle.bf_try.specs.Grades.{fits_in, is_readable_from_line_in, may_push_in, is_short_value_in}
use Rattle.bf_report.specs.Values.{IsSoundValue}
use Rattle.bf_report_reader.specs.Parts.{IsToldValue, IsToldPulled}

-- ---- values

-- how deep a value is, and how long its text
pub record IsSized (deepest longest : ℕ) (x : Xval) : Type 0 where
  pub deep : plain_depth (plain_of x) ≤ deepest
  pub short : length (json_of x) ≤ longest

pub told_value : (n m : ℕ) (x : Xval) → n ≤ 127 → IsSound (plain_of x) → IsSized n m x → IsToldValue n m x
told_value n m x few sound sized = record { utf8 = IsUtf8-text_of x sound; says = value_of_text_text_of n x sound sized.deep few; short = sized.short }

-- a pushed value, and one of a pushed list
abbrev pub IsPushed : Xval → Type 0
IsPushed x = IsSized 64 65_536 x

line_sized : (x : Xval) → is_readable_from_line_in (Some x) ≡ true → is_short_value_in (Some x) ≡ true → IsPushed x × (x ≢ Nil)
line_sized (Flag b) line short = (record { deep = omega arith; short = grind (arith, nat_tests, short) }, λ e. cc e)
line_sized (Int n) line short = (record { deep = omega arith; short = grind (arith, nat_tests, short) }, λ e. cc e)
line_sized (Text t) line short = (record { deep = omega arith; short = grind (arith, nat_tests, short) }, λ e. cc e)
line_sized (ListOf ps) line short = (record { deep = grind (arith, nat_tests, line); short = grind (arith, nat_tests, short) }, λ e. cc e)
line_sized Nil line short = absurd (cc line)

pushed_sized : (dag : Dag) (u : ℕ) (x : Xval) → fits_in dag u (Success (Some x)) ≡ true → IsPushed x × (x ≢ Nil)
unfolding fits_in
pushed_sized dag u x fit =
    let (line, push) = and_parts (is_readable_from_line_in (Some x)) (may_push_in dag u (Some x)) fit in
    line_sized x line (and_parts (is_short_value_in (Some x)) _ push).0

-- ---- lists

list_deep : (xs : List Xval) → AllByRecursion IsPushed xs → plains_depth (plains_of xs) ≤ 65
list_deep [] each = omega arith
list_deep (x ∷ xs) each = omega (arith, each.0.deep, list_deep xs each.1)

list_sum : (xs : List Xval) → AllByRecursion IsPushed xs → sum_by item_size xs ≤ 65_537 * length xs
list_sum [] each = omega arith
list_sum (x ∷ xs) each = omega (arith, sum_by-cons item_size x xs, each.0.short, list_sum xs each.1)

some_count : (n : ℕ) → 0 < n → false ≡ (n == 0)
some_count n some = grind (arith, nat_tests, some)

-- a list of few pushed values
list_sized : (xs : List Xval) → AllByRecursion IsPushed xs → length xs ≤ 1_024 → IsSized 65 67_109_889 (list_of xs)
list_sized [] each few = record { deep = omega arith; short = omega arith }
list_sized (x ∷ xs) each few = record {
  deep = list_deep (x ∷ xs) each;
  short = omega (arith, few, list_size (plains_of (x ∷ xs)) (x ∷ xs) (length (x ∷ xs)) refl refl (some_count (length (x ∷ xs)) (omega arith)), list_sum (x ∷ xs) each);
}

parts_sized : (xs : List Xval) → plains_depth (plains_of xs) ≤ 64 → sum_by item_size xs ≤ 65_536 → AllByRecursion IsPushed xs
parts_sized [] deep sum = tt
parts_sized (x ∷ xs) deep sum = (record { deep = omega (arith, deep); short = omega (arith, sum, sum_by-cons item_size x xs) }, parts_sized xs (omega (arith, deep)) (omega (arith, sum, sum_by-cons item_size x xs)))

-- the items of a pushed list
items_sized : (ps : Plains) → IsPushed (ListOf ps) → AllByRecursion IsPushed (xvals_of ps)
items_sized ps sized = go (xvals_of ps) (plains_of_xvals_of ps)
  where
    go : (xs : List Xval) → plains_of xs ≡ ps → AllByRecursion IsPushed xs
    go [] same = tt
    go (x ∷ xs) same =
        parts_sized (x ∷ xs) (omega (arith, sized.deep, ap plains_depth same)) (omega (arith, sized.short, list_size ps (x ∷ xs) (length (x ∷ xs)) same refl (some_count (length (x ∷ xs)) (omega arith))))

-- ---- what a task came to

abbrev pub AreFittingResults : Dag → ℕ → List TaskResult → Type 0
AreFittingResults dag u rs = AllByRecursion (λ (r : TaskResult). fits_in dag u r.outcome ≡ true) rs

-- the value of a task has few results, and each fits
abbrev pub FitsValue : Dag → ℕ → TaskValue → Type 0
FitsValue dag u TaskValue.Blocked = Unit {0}
FitsValue dag u TaskValue.Skipped = Unit {0}
FitsValue dag u TaskValue.UpstreamFailed = Unit {0}
FitsValue dag u (TaskValue.Ran rs) = (length rs ≤ 1_024) × AreFittingResults dag u rs

one_pushed : (dag : Dag) (u : ℕ) (o : Outcome) (n : ℕ) (rs : List TaskResult) → fits_in dag u o ≡ true → AllByRecursion IsPushed (pushed_values_in rs) → AllByRecursion IsPushed (pushed_values_in (record { outcome = o; tries = n } ∷ rs))
one_pushed dag u (Success None) n rs fit each = each
one_pushed dag u (Success (Some x)) n rs fit each = ((pushed_sized dag u x fit).0, each)
one_pushed dag u Failed n rs fit each = each
one_pushed dag u Skipped n rs fit each = each

pushed_each : (dag : Dag) (u : ℕ) (rs : List TaskResult) → AreFittingResults dag u rs → AllByRecursion IsPushed (pushed_values_in rs)
pushed_each dag u [] fit = tt
pushed_each dag u (r ∷ rs) fit = one_pushed dag u r.outcome r.tries rs fit.0 (pushed_each dag u rs fit.1)

one_fewer : (o : Outcome) (n : ℕ) (rs : List TaskResult) → length (pushed_values_in rs) ≤ length rs → length (pushed_values_in (record { outcome = o; tries = n } ∷ rs)) ≤ suc (length rs)
one_fewer (Success None) n rs few = omega (arith, few)
one_fewer (Success (Some x)) n rs few = omega (arith, few)
one_fewer Failed n rs few = omega (arith, few)
one_fewer Skipped n rs few = omega (arith, few)

few_pushed : (rs : List TaskResult) → length (pushed_values_in rs) ≤ length rs
few_pushed [] = omega arith
few_pushed (r ∷ rs) = one_fewer r.outcome r.tries rs (few_pushed rs)

one_item : (dag : Dag) (u : ℕ) (o : Outcome) (vs : List (Option Xval)) → fits_in dag u o ≡ true → AllByRecursion IsPushed (filter_map (λ v. v) vs) → AllByRecursion IsPushed (filter_map (λ v. v) (pushed_by o ∷ vs))
one_item dag u (Success None) vs fit each = each
one_item dag u (Success (Some x)) vs fit each = ((pushed_sized dag u x fit).0, each)
one_item dag u Failed vs fit each = each
one_item dag u Skipped vs fit each = each

items_each : (dag : Dag) (u : ℕ) (rs : List TaskResult) → AreFittingResults dag u rs → AllByRecursion IsPushed (filter_map (λ v. v) (map pushed_value_of rs))
items_each dag u [] fit = tt
items_each dag u (r ∷ rs) fit = one_item dag u r.outcome (map pushed_value_of rs) fit.0 (items_each dag u rs fit.1)

-- ---- pulls

alone_told : (dag : Dag) (u : ℕ) (o : Outcome) → fits_in dag u o ≡ true → IsSoundValue (pushed_by o) → IsToldPulled (pushed_by o)
alone_told dag u (Success None) fit sound = tt
alone_told dag u (Success (Some x)) fit sound =
    let (sized, some) = pushed_sized dag u x fit in
    (told_value 65 67_109_889 x (omega arith) sound (record { deep = omega (arith, sized.deep); short = omega (arith, sized.short) }), some)
alone_told dag u Failed fit sound = tt
alone_told dag u Skipped fit sound = tt

-- what is pulled from a task
pub pulled_told : (dag : Dag) (u : ℕ) (v : TaskValue) → FitsValue dag u v → IsSoundValue (pull_of (task_of dag u) v) → IsToldPulled (pull_of (task_of dag u) v)
pulled_told dag u TaskValue.Blocked fit sound = tt
pulled_told dag u TaskValue.Skipped fit sound = tt
pulled_told dag u TaskValue.UpstreamFailed fit sound = tt
pulled_told dag u (TaskValue.Ran rs) fit sound = go (is_some (task_of dag u).expand) rs fit sound
  where
    go : (b : Bool) (rs : List TaskResult) → (length rs ≤ 1_024) × AreFittingResults dag u rs → IsSoundValue (if b then Some (list_of (pushed_values_in rs)) else only_pushed_value_in rs) → IsToldPulled (if b then Some (list_of (pushed_values_in rs)) else only_pushed_value_in rs)
    go true rs fit sound =
        (told_value 65 67_109_889 (list_of (pushed_values_in rs)) (omega arith) sound (list_sized (pushed_values_in rs) (pushed_each dag u rs fit.1) (omega (arith, fit.0, few_pushed rs))), λ e. cc e)
    go false [] fit sound = tt
    go false (r ∷ rs) fit sound = alone_told dag u r.outcome fit.1.0 sound

-- ---- items

list_in : Items → List Xval
list_in Items.Missing = []
list_in (Items.List xs) = xs

alone_items : (dag : Dag) (u : ℕ) (o : Outcome) (xs : List Xval) → fits_in dag u o ≡ true → items_of (SourceValues.Pushed (pushed_by o)) ≡ Items.List xs → AllByRecursion IsPushed xs
unfolding list_in
alone_items dag u (Success (Some (ListOf ps))) xs fit is = subst (AllByRecursion IsPushed) (ap list_in is) (items_sized ps (pushed_sized dag u (ListOf ps) fit).0)
alone_items dag u (Success (Some (Flag b))) xs fit is = absurd (cc is)
alone_items dag u (Success (Some (Int n))) xs fit is = absurd (cc is)
alone_items dag u (Success (Some (Text t))) xs fit is = absurd (cc is)
alone_items dag u (Success (Some Nil)) xs fit is = absurd (cc is)
alone_items dag u (Success None) xs fit is = absurd (cc is)
alone_items dag u Failed xs fit is = absurd (cc is)
alone_items dag u Skipped xs fit is = absurd (cc is)

-- the items that a task gives
pub items_pushed : (dag : Dag) (u : ℕ) (v : TaskValue) (xs : List Xval) → FitsValue dag u v → items (task_of dag u) v ≡ Items.List xs → AllByRecursion IsPushed xs
unfolding list_in
items_pushed dag u TaskValue.Blocked xs fit is = absurd (cc is)
items_pushed dag u TaskValue.Skipped xs fit is = absurd (cc is)
items_pushed dag u TaskValue.UpstreamFailed xs fit is = absurd (cc is)
items_pushed dag u (TaskValue.Ran rs) xs fit is = go (is_some (task_of dag u).expand) rs fit.1 is
  where
    go : (b : Bool) (rs : List TaskResult) → AreFittingResults dag u rs → items_of (if b then SourceValues.Each (map pushed_value_of rs) else SourceValues.Pushed (only_pushed_value_in rs)) ≡ Items.List xs → AllByRecursion IsPushed xs
    go true rs fit is = subst (AllByRecursion IsPushed) (ap list_in is) (items_each dag u rs fit)
    go false [] fit is = absurd (cc is)
    go false (r ∷ rs) fit is = alone_items dag u r.outcome xs fit.0 is
