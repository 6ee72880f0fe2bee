-- The upstream that a task waits for.
use Rattle.std.specs.Prelude.{◌≡◌, ℕ, ◌<◌, Bool, false, length, slice_index}
use Rattle.bf_plan.specs.declared.plan.Dag.{Dag}
use Rattle.bf_core.specs.Terms.{task_of}
use Rattle.bf_core.specs.declared.state.State.{State}
use Rattle.bf_due.specs.Cursors.{lets}

-- the task has an upstream at the place, and waits for it
abbrev pub Awaits : Bool → Dag → State → ℕ → ℕ → ℕ → Type 0
Awaits early dag state run task place =
    (place < length (task_of dag task).upstreams)
    × (lets early dag state run (slice_index (task_of dag task).upstreams place) ≡ false)
