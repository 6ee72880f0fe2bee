-- No two tasks of a plan have one id, and no two runs start at one moment.
use Rattle.std.proofs.Common.{◌≡◌, ◌<◌, ◌∙◌, ℕ, nat_lt, List, [], length, map, get_or, slice_get, Some, sym, ap, inl, inr, arith}
use Rattle.std.proofs.lemmas.Bool.{cases_Bool}
use Rattle.std.proofs.lemmas.Bool.Decides.{nat_tests}
use Rattle.std.proofs.lemmas.Int.{ints}
use Rattle.std.proofs.lemmas.List.{length-map, get_or-map}
use Rattle.std.proofs.lemmas.Option.{get_or_from_slice_get, slice_get_within}
use Rattle.bf_plan.specs.declared.plan.Dag.{Dag}
use Rattle.bf_plan.specs.declared.plan.Task.{Task}
use Rattle.bf_plan.specs.Plans.{no_task, task_of}
use Rattle.bf_plan.specs.Sound.{IsNamed}
use Rattle.bf_interval.specs.declared.interval.Interval.{Interval}
use Rattle.bf_interval.specs.Runs.{AreOfRuns}
use Rattle.bf_moment.specs.Moment.{moment_text}
use Rattle.bf_moment.proofs.OneText.{one_text}
use Rattle.bf_journal.proofs.Telling.{AreTold}
use Rattle.bf_journal.proofs.Starting.{of_run, shown_run, start_of, whole_run}

-- the later of two tasks has another id
other_id : (dag : Dag) → IsNamed dag → (a b : ℕ) → a < b → b < length dag.tasks → (task_of dag a).id ≡ (task_of dag b).id → ⊥
unfolding task_of
other_id dag named a b below within same =
    let id : Task → List ℕ = λ task. task.id in
    let at : (t : ℕ) → t < length dag.tasks → get_or (map id dag.tasks) t [] ≡ id (get_or dag.tasks t no_task) = λ t inside. get_or-map id dag.tasks t no_task [] inside in
    named.distinct a b [] below (omega (arith, within, length-map dag.tasks id)) (at a (omega arith) ∙ same ∙ sym (at b within))

-- the later of two runs starts at another moment
other_start : (runs : List Interval) → AreOfRuns runs → (a b : ℕ) (x y : Interval) → a < b → slice_get runs a ≡ Some x → slice_get runs b ≡ Some y → moment_text (start_of x) ≡ moment_text (start_of y) → ⊥
other_start runs are a b x y below is_x is_y same =
    let starts : start_of x ≡ start_of y = one_text (start_of x) (start_of y) (shown_run runs are a x is_x) (shown_run runs are b y is_y) (whole_run x (of_run runs are a x is_x)) (whole_run y (of_run runs are b y is_y)) same in
    let at_a : get_or runs a x ≡ x = get_or_from_slice_get runs a x x is_x in
    let at_b : get_or runs b x ≡ y = get_or_from_slice_get runs b y x is_y in
    omega (arith, ints, are.rising a b x below (slice_get_within runs b y is_y), ap start_of at_a, ap start_of at_b, starts)

pub are_told : (dag : Dag) (runs : List Interval) → IsNamed dag → AreOfRuns runs → AreTold dag runs
are_told dag runs named are = record { ids = ids; starts = starts }
  where
    ids : (a b : ℕ) → a < length dag.tasks → b < length dag.tasks → (task_of dag a).id ≡ (task_of dag b).id → a ≡ b
    ids a b inside within same = elim (cases_Bool (nat_lt a b)) as (λ _. a ≡ b) [
      | inl below ↦ absurd (other_id dag named a b (grind (arith, nat_tests, below)) within same)
      | inr not_below ↦ elim (cases_Bool (nat_lt b a)) as (λ _. a ≡ b) [
        | inl above ↦ absurd (other_id dag named b a (grind (arith, nat_tests, above)) inside (sym same))
        | inr not_above ↦ grind (arith, nat_tests, not_below, not_above)
      ]
    ]

    starts : (a b : ℕ) (x y : Interval) → slice_get runs a ≡ Some x → slice_get runs b ≡ Some y → moment_text (start_of x) ≡ moment_text (start_of y) → a ≡ b
    starts a b x y is_x is_y same = elim (cases_Bool (nat_lt a b)) as (λ _. a ≡ b) [
      | inl below ↦ absurd (other_start runs are a b x y (grind (arith, nat_tests, below)) is_x is_y same)
      | inr not_below ↦ elim (cases_Bool (nat_lt b a)) as (λ _. a ≡ b) [
        | inl above ↦ absurd (other_start runs are b a y x (grind (arith, nat_tests, above)) is_y is_x (sym same))
        | inr not_above ↦ grind (arith, nat_tests, not_below, not_above)
      ]
    ]
