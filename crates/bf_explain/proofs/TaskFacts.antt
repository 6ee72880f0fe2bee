-- What stands in a place of a list.
use Rattle.std.proofs.Common.{◌≡◌, ℕ, zero, suc, List, [], ◌∷◌, Some, refl, sym, subst, ◌∙◌}
use Rattle.std.specs.Prelude.{All, slice_get, slice_index_or}
use Rattle.std.specs.List.{AllByRecursion}
use Rattle.std.proofs.lemmas.List.Elements.{recursion_from_All}
use Rattle.bf_report.specs.declared.report.Report.{Report}
use Rattle.bf_reason.specs.Runs.{tasks_before, tasks_in_run}
use Rattle.bf_explain.specs.Tasks.{run_before_of}

holds_by_recursion : {X : Type 0} (P : X → Type 0) (xs : List X) (place : ℕ) (x : X) → AllByRecursion P xs → slice_get xs place ≡ Some x → P x
holds_by_recursion P [] place x all is = cc
holds_by_recursion {X = X} P (first ∷ rest) zero x all is = subst P (some_same first x is) all.0
  where
    some_same : (a b : X) → Some a ≡ Some b → a ≡ b
    some_same a b same = cc
holds_by_recursion P (first ∷ rest) (suc place) x all is = holds_by_recursion P rest place x all.1 is

-- what holds of all holds of the one in this place
pub holds_there : {X : Type 0} (P : X → Type 0) (xs : List X) (place : ℕ) (x : X) → All P xs → slice_get xs place ≡ Some x → P x
holds_there P xs place x all is = holds_by_recursion P xs place x (recursion_from_All P xs all) is

pub told_there : {X : Type 0} (xs : List X) (place : ℕ) (x y : X) → slice_get xs place ≡ Some x → y ≡ slice_index_or xs place y → x ≡ y
told_there [] place x y is same = cc
told_there {X = X} (first ∷ rest) zero x y is same = some_first first x is ∙ sym same
  where
    some_first : (a b : X) → Some a ≡ Some b → b ≡ a
    some_first a b e = cc
told_there (first ∷ rest) (suc place) x y is same = told_there rest place x y is same

-- the tasks of the run before
pub tasks_of_before : (report : Report) (run : ℕ) → tasks_in_run (run_before_of report run) ≡ tasks_before report run
tasks_of_before report zero = refl
tasks_of_before report (suc run) = refl
