-- A try that has begun: it runs, has what it was given, and may end.
use Rattle.std.proofs.Common.{◌≡◌, ℕ, Some, refl, sym, ap, ◌∙◌}
use Rattle.bf_core.specs.Terms.{JobName}
use Rattle.bf_core.specs.declared.event.Event.{Event}
use Rattle.bf_core.specs.declared.state.Instance.{Instance}
use Rattle.bf_core.specs.declared.state.Phase.{Phase}
use Rattle.bf_core.specs.declared.state.State.{State}
use Rattle.bf_core.specs.Cores.{Backfill, moved}
use Rattle.bf_core.specs.Events.{IsPresent, after, begun, cell_at, change_instance, given_in, given_of, instance_of, place_in, put}
use Rattle.bf_core.proofs.Instances.{instance_here}
use Rattle.bf_core.proofs.Known.{has_instance}
use Rattle.bf_core.proofs.Reading.{put_here}

-- the cell of a task after an instance of it is changed
changed_cell : (s : State) (k t p : ℕ) (f : Instance → Instance) (x : Instance) → instance_of (cell_at s k t) p ≡ Some x → cell_at (put s k t (change_instance f (cell_at s k t) p)) k t ≡ change_instance f (cell_at s k t) p
changed_cell s k t p f x e = put_here s k t _ (has_instance (cell_at s k t) p x e)

begun_held : (b : Backfill) (n : JobName) → (at : IsPresent b.dag b.state n Phase.Waiting) → instance_of (cell_at (moved b (Event.Begin n)).state n.run n.task) (place_in b.dag n) ≡ Some (begun at.held)
unfolding after
begun_held b n at =
    ap (λ c. instance_of c (place_in b.dag n)) (changed_cell b.state n.run n.task (place_in b.dag n) begun at.held at.is_held)
    ∙ instance_here begun (cell_at b.state n.run n.task) (place_in b.dag n) at.held at.is_held

pub running_at : (b : Backfill) (n : JobName) → IsPresent b.dag b.state n Phase.Waiting → IsPresent b.dag (moved b (Event.Begin n)).state n Phase.Running
running_at b n at = record { held = begun at.held; is_held = begun_held b n at; is_named = at.is_named; is_present = at.is_present; in_phase = refl }

-- a try that has begun was given what it is given
pub begun_given : (b : Backfill) (n : JobName) → IsPresent b.dag b.state n Phase.Waiting → given_in (cell_at (moved b (Event.Begin n)).state n.run n.task) (place_in b.dag n) ≡ given_in (cell_at b.state n.run n.task) (place_in b.dag n)
begun_given b n at = ap given_of (begun_held b n at) ∙ sym (ap given_of at.is_held)
