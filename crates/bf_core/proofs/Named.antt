-- The present try of an instance, and its name.
use Rattle.std.proofs.Common.{◌≡◌, ℕ, Some, refl, ap}
use Rattle.bf_plan.specs.Plans.{task_of}
use Rattle.bf_try.specs.Tries.{map_index, name_of, place_of}
use Rattle.bf_core.specs.declared.state.Phase.{Phase}
use Rattle.bf_core.specs.declared.state.Instance.{Instance}
use Rattle.bf_core.specs.Events.{IsPresent, cell_at, instance_of, place_in}
use Rattle.bf_core.specs.Cores.{Backfill, IsReplay}
use Rattle.bf_core.proofs.Kept.{replay_invariant}
use Rattle.bf_core.proofs.Stuck.{placed_in}

module _ (b : Backfill) (replayed : IsReplay b) (k t i : ℕ) (x : Instance) (is_held : instance_of (cell_at b.state k t) i ≡ Some x) where
  pub place_named : place_in b.dag (name_of b.dag k t i x.attempt) ≡ i
  unfolding name_of
  place_named = placed_in b.dag b.state (replay_invariant b replayed) k t i (cell_at b.state k t) refl x is_held

  -- where the instance waits, it is the present one of its name
  pub present_named : (p : Phase) → x.phase ≡ p → IsPresent b.dag b.state (name_of b.dag k t i x.attempt) p
  unfolding name_of
  present_named p phase =
      let place : place_of (task_of b.dag t) (map_index (task_of b.dag t) i) ≡ i = placed_in b.dag b.state (replay_invariant b replayed) k t i (cell_at b.state k t) refl x is_held in
      record { held = x; is_held = rw place is_held; is_named = ap (map_index (task_of b.dag t)) place; is_present = refl; in_phase = phase }
