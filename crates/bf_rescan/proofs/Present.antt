-- The present tries of the instances that wait, and their names.
use Rattle.std.proofs.Common.{◌≡◌, ◌⊎◌, ◌<◌, ◌≤◌, ◌+◌, ℕ, length, Some, refl, sym, ap, ◌∙◌, inl, inr, arith}
use Rattle.std.proofs.lemmas.Option.{slice_get_within}
use Rattle.bf_value.specs.declared.name.JobName.{JobName}
use Rattle.bf_plan.specs.declared.plan.Dag.{Dag}
use Rattle.bf_plan.specs.Plans.{task_of}
use Rattle.bf_try.specs.Tries.{map_index, name_of}
use Rattle.bf_core.specs.declared.state.State.{State}
use Rattle.bf_core.specs.declared.state.Phase.{Phase}
use Rattle.bf_core.specs.declared.state.Instance.{Instance}
use Rattle.bf_core.specs.Events.{IsPresent, cell_at, instance_of, place_in}
use Rattle.bf_core.specs.Cores.{Backfill, IsReplay}
use Rattle.bf_core.proofs.Named.{place_named}
use Rattle.bf_waiting.proofs.Taking.{held_in}
use Rattle.bf_rescan.specs.inner.Looks.{IsTryAt, IsTryBefore, IsTryOf}
use Rattle.bf_waiting.specs.Standings.{instances_of}

-- the same, of an instance before place i
abbrev pub IsTryBelow : Dag → ℕ → ℕ → ℕ → JobName → Type 0
IsTryBelow dag k t i m = IsTryOf k t m × (place_in dag m < i)

-- ---- names

module _ (b : Backfill) (replayed : IsReplay b) (k t i : ℕ) (x : Instance) (is_held : instance_of (cell_at b.state k t) i ≡ Some x) where
  pub one_named : IsTryAt b.dag k t i (name_of b.dag k t i x.attempt)
  unfolding name_of
  one_named = ((refl, refl), place_named b replayed k t i x is_held)

  held_at : (m : JobName) → IsTryAt b.dag k t i m → (p : Phase) → (at : IsPresent b.dag b.state m p) → at.held ≡ x
  held_at m is p at =
      let same : instance_of (cell_at b.state m.run m.task) (place_in b.dag m) ≡ instance_of (cell_at b.state k t) i = λ j. instance_of (cell_at b.state (is.0.0 j) (is.0.1 j)) (is.1 j) in
      let e : Some at.held ≡ Some x = sym at.is_held ∙ (same ∙ is_held) in
      cc

  -- the name of a try of the instance at that place is the one of its present try
  pub named_so : (m : JobName) → IsTryAt b.dag k t i m → (p : Phase) → IsPresent b.dag b.state m p → m ≡ name_of b.dag k t i x.attempt
  unfolding name_of
  named_so m is p at =
      let index : m.index ≡ map_index (task_of b.dag t) i = sym at.is_named ∙ (λ j. map_index (task_of b.dag (is.0.1 j)) (is.1 j)) in
      let attempt : m.attempt ≡ x.attempt = sym at.is_present ∙ ap (λ (y : Instance). y.attempt) (held_at m is p at) in
      λ j. record { run = is.0.0 j; task = is.0.1 j; index = index j; attempt = attempt j }

  pub phase_at : (m : JobName) → IsTryAt b.dag k t i m → (p : Phase) → IsPresent b.dag b.state m p → x.phase ≡ p
  phase_at m is p at = ap (λ (y : Instance). y.phase) (sym (held_at m is p at)) ∙ at.in_phase

-- ---- places

-- a try of the task is one of an instance that its cell has
pub below_count : (dag : Dag) (s : State) (k t : ℕ) (m : JobName) → IsTryOf k t m → (p : Phase) → IsPresent dag s m p → IsTryBelow dag k t (length (instances_of (cell_at s k t))) m
below_count dag s k t m is p at = (is, slice_get_within (instances_of (cell_at s k t)) (place_in dag m) at.held (held_in (cell_at s k t) (place_in dag m) at.held held))
  where
    held : instance_of (cell_at s k t) (place_in dag m) ≡ Some at.held
    held = (λ j. instance_of (cell_at s (sym is.0 j) (sym is.1 j)) (place_in dag m)) ∙ at.is_held

split : (a b : ℕ) → b ≤ a → (b < a) ⊎ (b ≡ a)
split a b h = grind arith

-- one more place
pub last_place : (dag : Dag) (k t i : ℕ) (m : JobName) → IsTryBelow dag k t (i + 1) m → IsTryBelow dag k t i m ⊎ IsTryAt dag k t i m
last_place dag k t i m h = elim (split i (place_in dag m) (omega (arith, h.1))) [ inl l ↦ inl (h.0, l) | inr same ↦ inr (h.0, same) ]

pub one_more_place : (dag : Dag) (k t i : ℕ) (m : JobName) → IsTryBelow dag k t i m ⊎ IsTryAt dag k t i m → IsTryBelow dag k t (i + 1) m
one_more_place dag k t i m h = elim h [ inl b ↦ (b.0, omega (arith, b.1)) | inr a ↦ (a.0, omega (arith, a.1)) ]

-- one more task
pub last_task : (k t : ℕ) (m : JobName) → IsTryBefore k (t + 1) m → IsTryBefore k t m ⊎ IsTryOf k t m
last_task k t m h = elim h [ inl l ↦ inl (inl l) | inr e ↦ elim (split t m.task (omega (arith, e.1))) [ inl l ↦ inl (inr (e.0, l)) | inr same ↦ inr (e.0, same) ] ]

pub one_more_task : (k t : ℕ) (m : JobName) → IsTryBefore k t m ⊎ IsTryOf k t m → IsTryBefore k (t + 1) m
one_more_task k t m h = elim h [ inl b ↦ elim b [ inl l ↦ inl l | inr e ↦ inr (e.0, omega (arith, e.1)) ] | inr e ↦ inr (e.0, omega (arith, e.1)) ]

-- after the last task the run is passed
pub last_run : (k t tasks : ℕ) → tasks ≤ t → (m : JobName) → m.task < tasks → IsTryBefore (k + 1) 0 m → IsTryBefore k t m
last_run k t tasks end m task h = elim h [ inl l ↦ elim (split k m.run (omega (arith, l))) [ inl x ↦ inl x | inr same ↦ inr (same, omega (arith, task, end)) ] | inr e ↦ absurd (omega (arith, e.1)) ]

pub one_more_run : (k t : ℕ) (m : JobName) → IsTryBefore k t m → IsTryBefore (k + 1) 0 m
one_more_run k t m h = elim h [ inl l ↦ inl (omega (arith, l)) | inr e ↦ inl (omega (arith, e.0)) ]
