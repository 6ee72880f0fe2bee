-- Every state that a legal list of events leads to keeps the invariant, from the start on.
use Rattle.std.proofs.Common.{◌≡◌, ℕ, suc, zero, List, [], ◌∷◌, length, slice_index_or, None, refl}
use Rattle.std.specs.FinMap as map
use Rattle.bf_core.specs.Terms.{name_cmp, Dag, JobName, Ledger, IsSound, State, Cell, Event, Limits}
use Rattle.bf_core.specs.Events.{cell_at, instance_of, entry_in, cell_in, after, IsLegal, replay, start, undecided_cells_of, empty_runs_of, no_run}
use Rattle.bf_core.specs.Agreement.{Holds, Agrees}
use Rattle.bf_core.proofs.Invariant.{Invariant}
use Rattle.bf_core.proofs.Steps.{event_keeps}

pub legal_keeps : (dag : Dag) → IsSound dag → (limits : Limits) (s : State) (es : List Event) → Invariant dag s → IsLegal dag limits s es → Invariant dag (replay dag s es)
legal_keeps dag sound limits s [] inv legal = inv
legal_keeps dag sound limits s (e ∷ es) inv legal =
    legal_keeps dag sound limits (after dag s e) es (event_keeps dag sound s inv limits e legal.0) legal.1

-- ---- the start

undecided_read : (n t : ℕ) → slice_index_or (undecided_cells_of n) t Cell.Undecided ≡ Cell.Undecided
undecided_read zero t = refl
undecided_read (suc n) zero = refl
undecided_read (suc n) (suc t) = undecided_read n t

empty_read : (tasks n k t : ℕ) → slice_index_or (slice_index_or (empty_runs_of tasks n) k no_run).cells t Cell.Undecided ≡ Cell.Undecided
empty_read tasks zero k t = refl
empty_read tasks (suc n) zero t = undecided_read tasks t
empty_read tasks (suc n) (suc k) t = empty_read tasks n k t

pub start_cell : (dag : Dag) (runs k t : ℕ) → cell_at (start dag runs) k t ≡ Cell.Undecided
unfolding cell_in
start_cell dag runs k t = empty_read (length dag.tasks) runs k t

no_entry : (n : JobName) → entry_in map.empty n ≡ None
no_entry n = map.get-empty name_cmp n

pub start_keeps : (dag : Dag) (runs : ℕ) → Invariant dag (start dag runs)
start_keeps dag runs = record {
  agrees = λ ledger holds k t. rw (start_cell dag runs k t) tt;
  tried = λ k t i x h. absurd (let none : instance_of (cell_at (start dag runs) k t) i ≡ None = rw (start_cell dag runs k t) in cc);
  recorded = λ n e h. absurd (let none : entry_in map.empty n ≡ None = no_entry n in cc);
  awaited = λ k t d w. absurd (d (start_cell dag runs k t));
}

-- every state that a legal list leads to agrees with every ledger that holds its entries
pub legal_agrees : (dag : Dag) → IsSound dag → (limits : Limits) (runs : ℕ) (es : List Event) → IsLegal dag limits (start dag runs) es →
    (ledger : Ledger) → Holds ledger (entry_in (replay dag (start dag runs) es).ledger) → Agrees dag (replay dag (start dag runs) es) ledger
legal_agrees dag sound limits runs es legal = (legal_keeps dag sound limits (start dag runs) es (start_keeps dag runs) legal).agrees
