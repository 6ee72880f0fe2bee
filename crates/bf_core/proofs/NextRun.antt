-- Which run is the next to open.
use Rattle.std.proofs.Common.{◌≡◌, ◌≢◌, ◌⊎◌, ℕ, zero, suc, ◌<◌, ◌≤◌, if◌then◌else◌, List, [], ◌∷◌, length, slice_index_or, refl, sym, ap, ◌∙◌, subst, inl, inr, arith}
use Rattle.bf_core.specs.Terms.{Dag, Limits, State, Run, RunPhase, Event}
use Rattle.bf_core.specs.Events.{no_run, after, first_unopened, is_unopened, next_run, phase_of, phase_in, with_phase, empty_runs_of, IsEnabled}
use Rattle.bf_core.proofs.Shape.{IsShaped, put_phase, phase_cases, phase_there, before_next, open_run_exists, length_put, length_phase}

unopened? : (p : RunPhase) → (p ≡ RunPhase.Unopened) ⊎ (p ≢ RunPhase.Unopened)
unopened? RunPhase.Unopened = inl refl
unopened? RunPhase.Open = inr (λ e. cc)
unopened? RunPhase.Closed = inr (λ e. cc)

open_not : (p : RunPhase) → p ≡ RunPhase.Open → p ≢ RunPhase.Unopened
open_not p e f = cc

-- the first run that isn't opened is the one that stands behind opened ones, and isn't opened or is the end
first_at : (rs : List Run) (n : ℕ) → n ≤ length rs → ((j : ℕ) → j < n → (slice_index_or rs j no_run).phase ≢ RunPhase.Unopened) →
    (n < length rs → (slice_index_or rs n no_run).phase ≡ RunPhase.Unopened) → first_unopened rs ≡ n
first_at [] n l before here = omega (arith, l)
first_at (r ∷ rs) zero l before here = rw (here (omega arith))
first_at (r ∷ rs) (suc n) l before here = go r.phase (before 0 (omega arith)) (first_at rs n (omega (arith, l)) (λ j h. before (suc j) (omega (arith, h))) (λ h. here (omega (arith, h))))
  where
    go : (p : RunPhase) → p ≢ RunPhase.Unopened → first_unopened rs ≡ n → (if is_unopened p then 0 else suc (first_unopened rs)) ≡ suc n
    go RunPhase.Unopened d e = absurd (d refl)
    go RunPhase.Open d e = ap suc e
    go RunPhase.Closed d e = ap suc e

first_there : (rs : List Run) → first_unopened rs < length rs → (slice_index_or rs (first_unopened rs) no_run).phase ≡ RunPhase.Unopened
first_there [] l = absurd (omega (arith, l))
first_there (r ∷ rs) l = go r.phase refl l (λ h. first_there rs h)
  where
    go : (p : RunPhase) → r.phase ≡ p → (if is_unopened p then 0 else suc (first_unopened rs)) < suc (length rs) →
        (first_unopened rs < length rs → (slice_index_or rs (first_unopened rs) no_run).phase ≡ RunPhase.Unopened) →
        (slice_index_or (r ∷ rs) (if is_unopened p then 0 else suc (first_unopened rs)) no_run).phase ≡ RunPhase.Unopened
    go RunPhase.Unopened e l more = e
    go RunPhase.Open e l more = more (omega (arith, l))
    go RunPhase.Closed e l more = more (omega (arith, l))

first_within : (rs : List Run) → first_unopened rs ≤ length rs
first_within [] = omega arith
first_within (r ∷ rs) = go r.phase (first_within rs)
  where
    go : (p : RunPhase) → first_unopened rs ≤ length rs → (if is_unopened p then 0 else suc (first_unopened rs)) ≤ suc (length rs)
    go RunPhase.Unopened l = omega arith
    go RunPhase.Open l = omega (arith, l)
    go RunPhase.Closed l = omega (arith, l)

pub next_at : (s : State) (n : ℕ) → n ≤ length s.runs → ((j : ℕ) → j < n → phase_of s j ≢ RunPhase.Unopened) → (n < length s.runs → phase_of s n ≡ RunPhase.Unopened) → next_run s ≡ n
unfolding phase_in
next_at s n l before here = first_at s.runs n l before here

pub next_there : (s : State) → next_run s < length s.runs → phase_of s (next_run s) ≡ RunPhase.Unopened
unfolding phase_in
next_there s l = first_there s.runs l

pub next_within : (s : State) → next_run s ≤ length s.runs
next_within s = first_within s.runs

-- the phases are as they were, and so is the next run to open
same_next : (r s : State) → length r.runs ≡ length s.runs → ((j : ℕ) → phase_of r j ≡ phase_of s j) → next_run r ≡ next_run s
same_next r s count same = next_at r (next_run s) (rw count (next_within s)) (λ j l e. before_next s j l (sym (same j) ∙ e)) (λ l. same (next_run s) ∙ next_there s (rw (← count) l))

-- an open run stands before the next one to open
pub open_before : (dag : Dag) (runs : ℕ) (s : State) → IsShaped dag runs s → (k : ℕ) → phase_of s k ≡ RunPhase.Open → k < next_run s
open_before dag runs s shaped k e = elim (order k (next_run s)) [
  | inl l ↦ l
  | inr l ↦
      let there : k < length s.runs = open_run_exists s k e in
      absurd (not_later k (next_there s (omega (arith, there, l))) l e)
]
  where
    order : (a b : ℕ) → (a < b) ⊎ (b ≤ a)
    order a b = grind arith

    equal_or : (a b : ℕ) → a ≤ b → (b ≡ a) ⊎ (a < b)
    equal_or a b l = grind arith

    not_later : (k : ℕ) → phase_of s (next_run s) ≡ RunPhase.Unopened → next_run s ≤ k → phase_of s k ≡ RunPhase.Open → ⊥
    not_later k unopened l e = elim (equal_or (next_run s) k l) [
      | inl same ↦ open_not (phase_of s k) e (ap (λ j. phase_of s j) same ∙ unopened)
      | inr less ↦ shaped.in_order (next_run s) k less (open_not (phase_of s k) e) unopened
    ]

-- behind the next run to open none is opened
unopened_behind : (dag : Dag) (runs : ℕ) (s : State) → IsShaped dag runs s → next_run s < length s.runs → phase_of s (suc (next_run s)) ≡ RunPhase.Unopened
unopened_behind dag runs s shaped l = elim (unopened? (phase_of s (suc (next_run s)))) [
  | inl e ↦ e
  | inr d ↦ absurd (shaped.in_order (next_run s) (suc (next_run s)) (omega arith) d (next_there s l))
]

either_or : (j n : ℕ) → j < suc n → (j ≡ n) ⊎ (j < n)
either_or j n h = grind arith

-- once the next run is opened the one behind it is the next
next_opened : (dag : Dag) (runs : ℕ) (s : State) → IsShaped dag runs s → next_run s < length s.runs → next_run (with_phase s (next_run s) RunPhase.Open) ≡ suc (next_run s)
next_opened dag runs s shaped l = next_at (with_phase s (next_run s) RunPhase.Open) (suc (next_run s)) (omega (arith, l, length_phase s.runs (next_run s) RunPhase.Open)) before behind
  where
    before : (j : ℕ) → j < suc (next_run s) → phase_of (with_phase s (next_run s) RunPhase.Open) j ≢ RunPhase.Unopened
    before j h e = elim (phase_cases s (next_run s) RunPhase.Open j) [
      | inl p ↦ open_not _ p.1 e
      | inr q ↦ elim (either_or j (next_run s) h) [
        | inl same ↦ open_not _ (subst (λ (i : ℕ). phase_of (with_phase s (next_run s) RunPhase.Open) i ≡ RunPhase.Open) (sym same) (phase_there s (next_run s) RunPhase.Open l)) e
        | inr less ↦ before_next s j less (sym q ∙ e)
      ]
    ]

    behind : suc (next_run s) < length (with_phase s (next_run s) RunPhase.Open).runs → phase_of (with_phase s (next_run s) RunPhase.Open) (suc (next_run s)) ≡ RunPhase.Unopened
    behind h = elim (phase_cases s (next_run s) RunPhase.Open (suc (next_run s))) [
      | inl p ↦ absurd (omega (arith, p.0))
      | inr q ↦ q ∙ unopened_behind dag runs s shaped l
    ]

closed_not : (p : RunPhase) → p ≡ RunPhase.Closed → p ≢ RunPhase.Unopened
closed_not p e f = cc

-- a close leaves the next run to open as it is
next_closed : (s : State) (k : ℕ) → phase_of s k ≡ RunPhase.Open → next_run (with_phase s k RunPhase.Closed) ≡ next_run s
next_closed s k e = next_at (with_phase s k RunPhase.Closed) (next_run s) (omega (arith, next_within s, length_phase s.runs k RunPhase.Closed)) before here
  where
    before : (j : ℕ) → j < next_run s → phase_of (with_phase s k RunPhase.Closed) j ≢ RunPhase.Unopened
    before j l f = elim (phase_cases s k RunPhase.Closed j) [ inl p ↦ closed_not _ p.1 f | inr q ↦ before_next s j l (sym q ∙ f) ]

    here : next_run s < length (with_phase s k RunPhase.Closed).runs → phase_of (with_phase s k RunPhase.Closed) (next_run s) ≡ RunPhase.Unopened
    here l =
        let unopened : phase_of s (next_run s) ≡ RunPhase.Unopened = next_there s (omega (arith, l, length_phase s.runs k RunPhase.Closed)) in
        elim (phase_cases s k RunPhase.Closed (next_run s)) [
          | inl p ↦ absurd (open_not (phase_of s k) e (ap (λ j. phase_of s j) (sym p.0) ∙ unopened))
          | inr q ↦ q ∙ unopened
        ]

-- one more where the event opens a run
abbrev pub next_of : Event → ℕ → ℕ
next_of Event.Open n = suc n
next_of e n = n

-- the next run to open after an event
pub next_after : (dag : Dag) (runs : ℕ) (limits : Limits) (s : State) → IsShaped dag runs s → (e : Event) → IsEnabled dag limits s e → next_run (after dag s e) ≡ next_of e (next_run s)
unfolding after
next_after dag runs limits s shaped Event.Open able = next_opened dag runs s shaped able.0
next_after dag runs limits s shaped (Event.Settle k t) able = same_next (after dag s (Event.Settle k t)) s (length_put s.runs k t _) (put_phase s k t _)
next_after dag runs limits s shaped (Event.Expand k t) able = same_next (after dag s (Event.Expand k t)) s (length_put s.runs k t _) (put_phase s k t _)
next_after dag runs limits s shaped (Event.Begin m) able = same_next (after dag s (Event.Begin m)) s (length_put s.runs m.run m.task _) (put_phase s m.run m.task _)
next_after dag runs limits s shaped (Event.End m o) able = same_next (after dag s (Event.End m o)) s (length_put s.runs m.run m.task _) (put_phase s m.run m.task _)
next_after dag runs limits s shaped (Event.Close k) able = next_closed s k able.0
next_after dag runs limits s shaped (Event.Tick m) able = refl

pub none_opened : (tasks n : ℕ) → first_unopened (empty_runs_of tasks n) ≡ 0
none_opened tasks zero = refl
none_opened tasks (suc n) = refl
