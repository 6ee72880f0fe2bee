-- Tasks and runs that are not there.
use Rattle.std.proofs.Common.{◌≡◌, ◌⊎◌, ℕ, zero, suc, ◌<◌, ◌≤◌, List, [], ◌∷◌, length, None, Some, slice_index_or, refl, sym, ap, ◌∙◌, inl, inr, arith}
use Rattle.bf_plan.specs.declared.plan.Dag.{Dag}
use Rattle.bf_core.specs.declared.state.Cell.{Cell}
use Rattle.bf_core.specs.declared.state.Instance.{Instance}
use Rattle.bf_core.specs.declared.state.Run.{Run}
use Rattle.bf_core.specs.declared.state.State.{State}
use Rattle.bf_core.specs.inner.Checks.{HasRows}
use Rattle.bf_core.specs.Cores.{Backfill, IsReplay, IsThere}
use Rattle.bf_core.specs.Events.{cell_at, cell_in, instance_of, no_run}
use Rattle.bf_core.proofs.Kept.{replay_rows}
use Rattle.bf_waiting.specs.Standings.{instances_of}

past_end : {X : Type 0} (xs : List X) (i : ℕ) (d : X) → length xs ≤ i → slice_index_or xs i d ≡ d
past_end [] i d l = refl
past_end (x ∷ xs) zero d l = absurd (omega (arith, l))
past_end (x ∷ xs) (suc i) d l = past_end xs i d (omega arith)

within : (a b : ℕ) → (a < b) ⊎ (b ≤ a)
within a b = grind arith

not_there : (dag : Dag) (s : State) → HasRows dag s → (k t : ℕ) → ¬ (IsThere dag s k t) → cell_at s k t ≡ Cell.Undecided
unfolding cell_in
not_there dag s rows k t away = elim (within k (length s.runs)) [
  | inl run ↦ elim (within t (length dag.tasks)) [ inl task ↦ absurd (away (run, task)) | inr no_task ↦ past_end (slice_index_or s.runs k no_run).cells t Cell.Undecided (rw (rows k run) no_task) ]
  | inr no_run_there ↦ ap (λ (r : Run). slice_index_or r.cells t Cell.Undecided) (past_end s.runs k no_run no_run_there)
]

-- a task or a run that is not there has no instances
pub beyond_none : (b : Backfill) → IsReplay b → (k t : ℕ) → ¬ (IsThere b.dag b.state k t) → [] ≡ instances_of (cell_at b.state k t)
beyond_none b is k t away = ap instances_of (sym (not_there b.dag b.state (replay_rows b is) k t away))

-- a task and a run of an instance are there
pub not_beyond : (b : Backfill) → IsReplay b → (k t i : ℕ) (x : Instance) → instance_of (cell_at b.state k t) i ≡ Some x → IsThere b.dag b.state k t
not_beyond b is k t i x held = elim (within k (length b.state.runs)) [
  | inl run ↦ elim (within t (length b.dag.tasks)) [ inl task ↦ (run, task) | inr no_task ↦ absurd (none (λ there. omega (arith, there.1, no_task))) ]
  | inr no_run_there ↦ absurd (none (λ there. omega (arith, there.0, no_run_there)))
]
  where
    none : ¬ (IsThere b.dag b.state k t) → ⊥
    none away =
        let e : None ≡ Some x = sym (ap (λ (c : Cell). instance_of c i) (not_there b.dag b.state (replay_rows b is) k t away)) ∙ held in
        cc
