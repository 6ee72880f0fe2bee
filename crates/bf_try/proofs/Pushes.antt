-- What the tasks of a plan may push, and the grades of lines.
use Rattle.std.proofs.Common.{◌≡◌, ℕ, suc, ◌<◌, Bool, true, false, not, ◌&&◌, ◌||◌, List, [], ◌∷◌, length, get_or, Option, None, Some, is_some, if◌then◌else◌, IsUtf8, refl, sym, ap, ◌∙◌, inl, inr, arith, true≢false}
use Rattle.std.specs.List.{list_any}
use Rattle.std.specs.Str.{is_utf8}
use Rattle.std.proofs.Math.Bool.{and-false}
use Rattle.std.proofs.lemmas.Bool.{cases_lt, eqb-true, or_from, or_parts}
use Rattle.std.proofs.lemmas.List.{get_or_past}
use Rattle.std.proofs.lemmas.List.Folds.{list_any_at}
use Rattle.std.proofs.lemmas.Str.{IsUtf8-from_is_utf8, is_utf8-from_IsUtf8}
use Rattle.bf_value.specs.Json.{value_of_line}
use Rattle.bf_value.specs.declared.xval.Xval.{Xval}
use Rattle.bf_graph.specs.Edges.{IsUpstream}
use Rattle.bf_graph.specs.Lookups.{IsRisingListOf}
use Rattle.bf_plan.specs.declared.plan.Task.{Task}
use Rattle.bf_plan.specs.declared.plan.Dag.{Dag}
use Rattle.bf_plan.specs.Plans.{expands_in, no_task, task_of, shape_of}
use Rattle.bf_plan.specs.Sound.{IsSound}
use Rattle.bf_plan.proofs.PlanLemmas.{is_upstream}
use Rattle.bf_plan.proofs.ListLemmas.{any_contained}
use Rattle.bf_xcom.specs.declared.values.Outcome.{Outcome}
use Rattle.bf_try.specs.Grades.{gives_items_in, grade_line_of, grade_value, is_source, may_push_in}

-- ---- whether one of a list passes

record IsFoundAt {X : Type 0} (p : X → Bool) (xs : List X) (d : X) (k : ℕ) : Type 0 where
  within : k < length xs
  passes : p (get_or xs k d) ≡ true

found_at : {X : Type 0} (p : X → Bool) (xs : List X) (d : X) → list_any p xs ≡ true → (k : ℕ) × IsFoundAt p xs d k
found_at p [] d e = absurd (true≢false (sym e))
found_at p (x ∷ xs) d e = go (p x) refl e (λ e. found_at p xs d e)
  where
    go : (b : Bool) → p x ≡ b → (b || list_any p xs) ≡ true → (list_any p xs ≡ true → (k : ℕ) × IsFoundAt p xs d k) → (k : ℕ) × IsFoundAt p (x ∷ xs) d k
    go true f e rest = (0, record { within = omega arith; passes = f })
    go false f e rest = let found = rest e in (suc found.0, record { within = omega (arith, found.1.within); passes = found.1.passes })

pub same_answer : (a b : Bool) → (a ≡ true → b ≡ true) → (b ≡ true → a ≡ true) → a ≡ b
same_answer true b f g = sym (f refl)
same_answer false false f g = refl
same_answer false true f g = g refl

-- ---- a task that another is expanded over

source_is : (expand : Option ℕ) (t : ℕ) → is_source expand t ≡ true → expand ≡ Some t
source_is None t e = absurd (true≢false (sym e))
source_is (Some source) t e = ap Some (eqb-true source t e)

-- it is a direct upstream of that one, so the downstreams tell
module _ (dag : Dag) (sound : IsSound dag) (source : ℕ) (downstreams : List ℕ) (rising : IsRisingListOf (IsUpstream (shape_of dag).upstreams source) downstreams) where
  task_there : (t : ℕ) → is_source (task_of dag t).expand source ≡ true → t < length dag.tasks
  unfolding task_of
  task_there t e = elim (cases_lt t (length dag.tasks)) as (λ _. t < length dag.tasks) [
    | inl lt ↦ lt
    | inr ge ↦ absurd (true≢false (sym e ∙ ap (λ (task : Task). is_source task.expand source) (get_or_past dag.tasks t no_task ge)))
  ]

  some_task : list_any (λ t. is_source (task_of dag t).expand source) downstreams ≡ true → list_any (λ task. is_source task.expand source) dag.tasks ≡ true
  unfolding task_of
  some_task e =
      let found = found_at (λ t. is_source (task_of dag t).expand source) downstreams 0 e in
      let t = get_or downstreams found.0 0 in
      list_any_at (λ (task : Task). is_source task.expand source) dag.tasks t no_task (task_there t found.1.passes) found.1.passes

  some_downstream : list_any (λ task. is_source task.expand source) dag.tasks ≡ true → list_any (λ t. is_source (task_of dag t).expand source) downstreams ≡ true
  unfolding task_of
  some_downstream e =
      let found = found_at (λ (task : Task). is_source task.expand source) dag.tasks no_task e in
      let t = found.0 in
      let up = is_upstream dag t source (sound.source_is_upstream t source (source_is (task_of dag t).expand source found.1.passes)) in
      any_contained (λ u. is_source (task_of dag u).expand source) downstreams t ((rising.exact t).1 up) found.1.passes

  pub downstreams_tell : list_any (λ t. is_source (task_of dag t).expand source) downstreams ≡ list_any (λ task. is_source task.expand source) dag.tasks
  downstreams_tell = same_answer _ _ some_task some_downstream

-- ---- where no task is expanded, none gives items

no_source : (expand : Option ℕ) (t : ℕ) → is_some expand ≡ false → is_source expand t ≡ false
no_source None t e = refl
no_source (Some source) t e = absurd (true≢false e)

none_is_source : (t : ℕ) (tasks : List Task) → list_any (λ (task : Task). is_some task.expand) tasks ≡ false → list_any (λ (task : Task). is_source task.expand t) tasks ≡ false
none_is_source t [] e = refl
none_is_source t (task ∷ tasks) e =
    let parts = or_parts (is_some task.expand) (list_any (λ (task : Task). is_some task.expand) tasks) e in
    or_from _ _ (no_source task.expand t parts.0) (none_is_source t tasks parts.1)

pub none_gives_items : (dag : Dag) (t : ℕ) → expands_in dag ≡ false → gives_items_in dag t ≡ false
none_gives_items dag t e =
    ap (λ b. not (is_some (task_of dag t).expand) && b) (none_is_source t dag.tasks e) ∙ and-false (not (is_some (task_of dag t).expand))

-- ---- the grade of a line

pub graded_pushed : (dag : Dag) (t : ℕ) (line : List ℕ) (v : Option Xval) → IsUtf8 line → v ≡ value_of_line line → true ≡ may_push_in dag t v → Outcome.Success v ≡ grade_line_of dag t line
graded_pushed dag t line v text same may =
    rw (is_utf8-from_IsUtf8 line text) (ap (λ b. if b then Outcome.Success v else Outcome.Failed) may ∙ ap (grade_value dag t) same)

pub graded_not_utf8 : (dag : Dag) (t : ℕ) (line : List ℕ) → ¬ (IsUtf8 line) → Outcome.Failed ≡ grade_line_of dag t line
graded_not_utf8 dag t line not_text = rw (is_false (is_utf8 line) (λ e. not_text (IsUtf8-from_is_utf8 line e)))
  where
    is_false : (b : Bool) → (b ≡ true → ⊥) → b ≡ false
    is_false true h = absurd (h refl)
    is_false false h = refl
