-- Marks while they are made.
use Rattle.std.specs.Prelude.{◌≡◌, ◌<◌, ◌&&◌, ◌↔◌, nat_lt, if◌then◌else◌, ℕ, zero, suc, Bool, true, false, List, length, slice_set}
use Rattle.std.specs.List.{list_any}
use Rattle.bf_graph.specs.Reach.{is_marked_in, row_at}
use Rattle.bf_plan.specs.declared.plan.Dag.{Dag}
use Rattle.bf_plan.specs.Plans.{task_of}
use Rattle.bf_plan.specs.Sound.{IsOneOf}
use Rattle.bf_dependents.specs.declared.place.Place.{Place}
use Rattle.bf_dependents.specs.Marks.{is_of}

-- ---- seeds

-- so many rows for so many tasks, without a mark
pub record AreUnmarked (runs tasks : ℕ) (rows : List (List Bool)) : Type 0 where
  pub len : length rows ≡ runs
  pub each : (k : ℕ) → k < runs → length (row_at rows k) ≡ tasks
  pub clear : (k t : ℕ) → k < runs → t < tasks → is_marked_in (row_at rows k) t ≡ false

-- one more is marked, if it is there
abbrev pub with_mark : List (List Bool) → Place → List (List Bool)
with_mark rows p =
    if nat_lt p.run (length rows) && nat_lt p.task (length (row_at rows p.run))
    then slice_set rows p.run (slice_set (row_at rows p.run) p.task true)
    else rows

-- of the tasks just the seeds in the run k are marked
abbrev pub IsSeedRow : List Place → ℕ → ℕ → List Bool → Type 0
IsSeedRow seeds tasks k row = (t : ℕ) → t < tasks → is_marked_in row t ≡ list_any (is_of k t) seeds

-- so many rows for so many tasks, in which just the seeds are marked
pub record AreSeeded (seeds : List Place) (runs tasks : ℕ) (rows : List (List Bool)) : Type 0 where
  pub len : length rows ≡ runs
  pub each : (k : ℕ) → k < runs → length (row_at rows k) ≡ tasks
  pub right : (k : ℕ) → k < runs → IsSeedRow seeds tasks k (row_at rows k)

-- ---- what follows

-- an instance of the task t in the run k follows from the seeds
pub data IsTouched (dag : Dag) (seeds : List Place) : ℕ → ℕ → Type 0 where
  Seed : {k t : ℕ} → list_any (is_of k t) seeds ≡ true → IsTouched dag seeds k t
  Downstream : {k t u : ℕ} → IsOneOf (task_of dag t).upstreams u → IsTouched dag seeds k u
      → IsTouched dag seeds k t
  NextRun : {k t : ℕ} → (task_of dag t).depends_on_past ≡ true → IsTouched dag seeds k t
      → IsTouched dag seeds (suc k) t

-- the marks say of which tasks of the run k an instance follows
pub record AreMarks (dag : Dag) (seeds : List Place) (k : ℕ) (marks : List Bool) : Type 0 where
  pub len : length marks ≡ length dag.tasks
  pub right : (t : ℕ) → t < length dag.tasks → (is_marked_in marks t ≡ true)
      ↔ IsTouched dag seeds k t

-- so many runs have their marks
pub record AreTouched (dag : Dag) (seeds : List Place) (runs : ℕ)
    (rows : List (List Bool)) : Type 0 where
  pub len : length rows ≡ runs
  pub each : (k : ℕ) → k < runs → AreMarks dag seeds k (row_at rows k)

-- of which tasks of the run before k an instance follows
abbrev pub WasTouched : Dag → List Place → ℕ → ℕ → Type 0
WasTouched dag seeds zero t = ⊥
WasTouched dag seeds (suc k) t = IsTouched dag seeds k t

abbrev pub ArePast : Dag → List Place → ℕ → List Bool → Type 0
ArePast dag seeds k before =
    (t : ℕ) → t < length dag.tasks → (is_marked_in before t ≡ true) ↔ WasTouched dag seeds k t

-- whatever seeds these rows are of, the marks are right
abbrev pub AreMarksFor : Dag → List Bool → List Bool → List Bool → Type 0
AreMarksFor dag seeded before marks =
    (seeds : List Place) (k : ℕ) → IsSeedRow seeds (length dag.tasks) k seeded
    → ArePast dag seeds k before → AreMarks dag seeds k marks
