-- How many runs are open.
use Rattle.std.proofs.Common.{◌≡◌, ◌⊎◌, ℕ, zero, suc, ◌+◌, ◌-◌, ◌<◌, ◌≤◌, if◌then◌else◌, length, slice_index_or, slice_set, refl, ap, inl, inr, arith, sum_by}
use Rattle.std.specs.List.{count_by}
use Rattle.std.proofs.lemmas.List.{set_past}
use Rattle.std.proofs.lemmas.List.Sums.{count_by-le-length, sum_by-cons, sum_by-set}
use Rattle.bf_core.specs.Terms.{Cell, Dag, Event, Limits, Run, RunPhase, State}
use Rattle.bf_core.specs.Events.{no_run, after, empty_runs_of, is_open, next_run, open_now, phase_in, phase_of, phase_put_in, put, put_in, undecided_cells_of, with_phase, IsEnabled}
use Rattle.bf_core.proofs.NextRun.{next_there}
use Rattle.bf_core.proofs.Pools.{decide_in}
use Rattle.bf_core.proofs.Shape.{open_run_exists}

unfoldable pub one_open : RunPhase → ℕ
one_open p = if is_open p then 1 else 0

-- a decided task leaves as many runs open
pub put_active : (s : State) (k t : ℕ) (c : Cell) → open_now (put s k t c) ≡ open_now s
unfolding put_in one_open
put_active s k t c = go (decide_in k (length s.runs))
  where
    f : Run → ℕ
    f r = one_open r.phase

    row : Run
    row = record { phase = (slice_index_or s.runs k no_run).phase; cells = slice_set (slice_index_or s.runs k no_run).cells t c }

    go : (k < length s.runs) ⊎ (length s.runs ≤ k) → sum_by f (slice_set s.runs k row) ≡ sum_by f s.runs
    go (inl l) = let e : _ = sum_by-set f s.runs k row no_run l in omega (arith, e)
    go (inr m) = ap (sum_by f) (set_past s.runs k row m)

-- a run in another phase counts as that phase says
phase_active : (s : State) (k : ℕ) (p : RunPhase) → k < length s.runs → open_now (with_phase s k p) + one_open (phase_of s k) ≡ open_now s + one_open p
unfolding phase_in phase_put_in one_open
phase_active s k p l = sum_by-set (λ (r : Run). one_open r.phase) s.runs k (record { phase = p; cells = (slice_index_or s.runs k no_run).cells }) no_run l

-- one more where the event opens a run, one fewer where it closes one
abbrev pub active_of : Event → ℕ → ℕ
active_of Event.Open n = suc n
active_of (Event.Close k) n = n - 1
active_of e n = n

opened_active : (s : State) → next_run s < length s.runs → open_now (with_phase s (next_run s) RunPhase.Open) ≡ suc (open_now s)
unfolding one_open
opened_active s l =
    let was : one_open (phase_of s (next_run s)) ≡ 0 = ap one_open (next_there s l) in
    let one : one_open RunPhase.Open ≡ 1 = refl in
    omega (arith, phase_active s (next_run s) RunPhase.Open l, was, one)

closed_active : (s : State) (k : ℕ) → phase_of s k ≡ RunPhase.Open → open_now (with_phase s k RunPhase.Closed) + 1 ≡ open_now s
unfolding one_open
closed_active s k e =
    let was : one_open (phase_of s k) ≡ 1 = ap one_open e in
    let none : one_open RunPhase.Closed ≡ 0 = refl in
    omega (arith, phase_active s k RunPhase.Closed (open_run_exists s k e), was, none)

pub some_active : (s : State) (k : ℕ) → phase_of s k ≡ RunPhase.Open → 1 ≤ open_now s
some_active s k e = omega (arith, closed_active s k e)

pub active_within : (s : State) → open_now s ≤ length s.runs
active_within s = count_by-le-length (λ (r : Run). is_open r.phase) s.runs

-- how many runs are open after an event
pub active_after : (dag : Dag) (limits : Limits) (s : State) (e : Event) → IsEnabled dag limits s e → open_now (after dag s e) ≡ active_of e (open_now s)
unfolding after
active_after dag limits s Event.Open able = opened_active s able.0
active_after dag limits s (Event.Settle k t) able = put_active s k t _
active_after dag limits s (Event.Expand k t) able = put_active s k t _
active_after dag limits s (Event.Begin m) able = put_active s m.run m.task _
active_after dag limits s (Event.End m o) able = put_active s m.run m.task _
active_after dag limits s (Event.Close k) able = omega (arith, closed_active s k able.0)
active_after dag limits s (Event.Tick m) able = refl

pub none_active : (tasks n : ℕ) → count_by (λ (r : Run). is_open r.phase) (empty_runs_of tasks n) ≡ 0
unfolding one_open
none_active tasks zero = refl
none_active tasks (suc n) =
    let e : _ = sum_by-cons (λ (r : Run). one_open r.phase) (record { phase = RunPhase.Unopened; cells = undecided_cells_of tasks }) (empty_runs_of tasks n) in
    let none : one_open RunPhase.Unopened ≡ 0 = refl in
    omega (arith, e, none, none_active tasks n)
