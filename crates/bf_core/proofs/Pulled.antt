-- What is pulled from a task, by its instances.
use Rattle.std.proofs.Common.{◌≡◌, Bool, true, not, if◌then◌else◌, List, [], ◌∷◌, Option, None, Some, is_some, is_none, option_map, option_and_then, ℕ, refl, sym, ap, ap₂, ◌∙◌}
use Rattle.std.specs.List.{filter_map, cons_option}
use Rattle.bf_value.specs.Views.{list_of}
use Rattle.bf_xcom.specs.Pulls.{only_pushed_value_in, pushed_by, pushed_values_in}
use Rattle.bf_core.specs.Terms.{Instance, Phase, Task, TaskResult, TaskValue, Xval, pull_of}
use Rattle.bf_core.specs.Events.{results, cons_result}
use Rattle.bf_core.specs.inner.Words.{pushed_in, pushed_by_one, pushed_by_first, pulled_from}
use Rattle.bf_core.proofs.Sums.{some_results}

-- the first result is the first instance's
first_cons : (a : ℕ) (p : Phase) (o : Option (List TaskResult)) (rs : List TaskResult) → cons_result a p o ≡ Some rs → only_pushed_value_in rs ≡ pushed_in p
first_cons a (Phase.Finished o) (Some ts) [] e = cc
first_cons a (Phase.Finished o) (Some ts) (r ∷ rs) e = let out : r.outcome ≡ o = cc in rw out
first_cons a (Phase.Finished o) None rs e = cc
first_cons a Phase.Waiting o rs e = cc
first_cons a Phase.Running o rs e = cc

pub first_pushed : (xs : List Instance) (rs : List TaskResult) → results xs ≡ Some rs → only_pushed_value_in rs ≡ pushed_by_first xs
first_pushed [] [] e = refl
first_pushed [] (r ∷ rs) e = cc
first_pushed (x ∷ xs) rs e = first_cons x.attempt x.phase (results xs) rs e

-- the results have pushed what the instances have
all_cons : (a : ℕ) (p : Phase) (o : Option (List TaskResult)) (values : List Xval) → ((ts : List TaskResult) → o ≡ Some ts → pushed_values_in ts ≡ values) →
    (rs : List TaskResult) → cons_result a p o ≡ Some rs → pushed_values_in rs ≡ cons_option (pushed_in p) values
all_cons a (Phase.Finished o) (Some ts) values h [] e = cc
all_cons a (Phase.Finished o) (Some ts) values h (r ∷ rs) e =
    let out : r.outcome ≡ o = cc in
    let same : ts ≡ rs = cc in
    ap₂ (λ x vs. cons_option (pushed_by x) vs) out (h rs (ap Some same))
all_cons a (Phase.Finished o) None values h rs e = cc
all_cons a Phase.Waiting o values h rs e = cc
all_cons a Phase.Running o values h rs e = cc

all_have_pushed : (xs : List Instance) (rs : List TaskResult) → results xs ≡ Some rs → pushed_values_in rs ≡ filter_map pushed_by_one xs
all_have_pushed [] [] e = refl
all_have_pushed [] (r ∷ rs) e = cc
all_have_pushed (x ∷ xs) rs e = all_cons x.attempt x.phase (results xs) _ (all_have_pushed xs) rs e

either : (expand : Option ℕ) (one list : Option Xval) → (if is_none expand then one else list) ≡ (if is_some expand then list else one)
either None one list = refl
either (Some source) one list = refl

pull_of_source : (source : Task) (one : Option Xval) (values : List Xval) (o : Option (List TaskResult)) (f : Bool) → is_some o ≡ f →
    ((rs : List TaskResult) → o ≡ Some rs → only_pushed_value_in rs ≡ one) → ((rs : List TaskResult) → o ≡ Some rs → pushed_values_in rs ≡ values) →
    (if not f then None else (if is_none source.expand then one else Some (list_of values))) ≡ option_and_then (pull_of source) (option_map TaskValue.Ran o)
pull_of_source source one values None f e alone all = rw (← e)
pull_of_source source one values (Some rs) f e alone all =
    let known : f ≡ true = sym e in
    ap (λ b. if not b then None else (if is_none source.expand then one else Some (list_of values))) known ∙ either source.expand one (Some (list_of values))
    ∙ ap₂ (λ a vs. if is_some source.expand then Some (list_of vs) else a) (sym (alone rs refl)) (sym (all rs refl))

-- what is pulled by instances is what is pulled by their value
pub ran_pull : (source : Task) (xs : List Instance) → pulled_from source xs ≡ option_and_then (pull_of source) (option_map TaskValue.Ran (results xs))
ran_pull source xs = pull_of_source source _ _ (results xs) _ (some_results xs) (first_pushed xs) (all_have_pushed xs)
