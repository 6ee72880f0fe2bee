-- Tasks that stand behind their upstreams.
use Rattle.std.specs.Prelude.{◌≡◌, ℕ, true, Bool, List, [], ◌∷◌, slice_set}
use Rattle.std.specs.List.{list_all}
use Rattle.bf_plan.specs.declared.plan.Dag.{Dag}
use Rattle.bf_plan.specs.Plans.{task_of}
use Rattle.bf_marks.specs.RowOrder.{stands}

-- all upstreams of a task stand
abbrev pub IsReady : Dag → List Bool → ℕ → Type 0
IsReady dag standing task = list_all (stands standing) (task_of dag task).upstreams ≡ true

-- of each of these the upstreams stand, or come before it
abbrev pub AreBehind : Dag → List Bool → List ℕ → Type 0
AreBehind dag standing [] = Unit {0}
AreBehind dag standing (task ∷ rest) =
    IsReady dag standing task × AreBehind dag (slice_set standing task true) rest
