-- No more tries run than there are workers.
use Rattle.std.proofs.Common.{◌≡◌, ◌⊎◌, ◌<◌, ◌≤◌, ◌+◌, ◌++◌, ◌∷◌, ℕ, List, [], refl, sym, ap, subst, inl, inr, arith}
use Rattle.std.proofs.lemmas.List.{append-nil}
use Rattle.bf_core.specs.Terms.{Dag, Event, State}
use Rattle.bf_core.specs.Events.{after, replay, start}
use Rattle.bf_core.specs.Cores.{Backfill, IsReplay, MayCome}
use Rattle.bf_core.specs.Running.{running_now}
use Rattle.bf_core.specs.Endings.{KeepsWorkers}
use Rattle.bf_core.proofs.Kept.{replay_event, replay_shaped}
use Rattle.bf_core.proofs.RunningTries.{fewer_running, more_running, running_after, start_idle}

-- ---- beginnings of the journal

-- a beginning of a list with one member more is all of it, or a beginning of the list
beginning : (xs : List Event) (x : Event) (before rest : List Event) → xs ++ x ∷ [] ≡ before ++ rest → (before ≡ xs ++ x ∷ []) ⊎ ((left : List Event) × (xs ≡ before ++ left))
beginning [] x [] rest e = inr ([], refl)
beginning [] x (b ∷ []) rest e = inl (let same : x ≡ b = cc in ap (λ y. y ∷ []) (sym same))
beginning [] x (b ∷ c ∷ cs) rest e = cc
beginning (y ∷ xs) x [] rest e = inr (y ∷ xs, refl)
beginning (y ∷ xs) x (b ∷ bs) rest e =
    let same : y ≡ b = cc in
    let behind : xs ++ x ∷ [] ≡ bs ++ rest = cc in
    elim (beginning xs x bs rest behind) [
      | inl all ↦ inl (λ i. sym same i ∷ all i)
      | inr part ↦ inr (part.0, λ i. same i ∷ part.1 i)
    ]

nothing_before : (before rest : List Event) → [] ≡ before ++ rest → before ≡ []
nothing_before [] rest e = refl
nothing_before (b ∷ bs) rest e = cc

pub opening_keeps_workers : (dag : Dag) (runs workers : ℕ) → KeepsWorkers dag runs workers []
opening_keeps_workers dag runs workers = record {
  within = λ before rest e.
      let none : running_now (start dag runs) ≡ 0 = start_idle dag runs (λ k t i x. 1) in
      subst (λ (es : List Event). running_now (replay dag (start dag runs) es) ≤ workers) (sym (nothing_before before rest e)) (omega (arith, none));
}

-- ---- one event

-- a worker is free for a try that begins
abbrev pub IsFree : ℕ → Backfill → Event → Type 0
IsFree workers b (Event.Begin n) = running_now b.state < workers
IsFree workers b e = Unit {0}

running_within : (b : Backfill) (workers : ℕ) → IsReplay b → KeepsWorkers b.dag b.runs workers b.journal → running_now b.state ≤ workers
running_within b workers replayed kept =
    subst (λ (s : State). running_now s ≤ workers) replayed.by_journal.led_to (kept.within b.journal [] (sym (append-nil b.journal)))

within_after : (b : Backfill) (workers : ℕ) (e : Event) → IsReplay b → MayCome b e → IsFree workers b e → running_now b.state ≤ workers → running_now (after b.dag b.state e) ≤ workers
within_after b workers e replayed able free now = by e able free (running_after b.dag b.runs b.state (replay_shaped b replayed) (λ _. 1) b.limits e able.0)
  where
    by : (x : Event) → MayCome b x → IsFree workers b x →
        running_now (after b.dag b.state x) + fewer_running (λ _. 1) b.dag b.state x ≡ running_now b.state + more_running (λ _. 1) b.dag b.state x → running_now (after b.dag b.state x) ≤ workers
    by Event.Open able free sum = omega (arith, sum, now)
    by (Event.Settle k t) able free sum = omega (arith, sum, now)
    by (Event.Expand k t) able free sum = omega (arith, sum, now)
    by (Event.Begin n) able free sum = omega (arith, sum, free)
    by (Event.End n o) able free sum = omega (arith, sum, now)
    by (Event.Close k) able free sum = omega (arith, sum, now)
    by (Event.Tick m) able free sum = omega (arith, sum, now)

pub event_keeps_workers : (b : Backfill) (workers : ℕ) (e : Event) → IsReplay b → MayCome b e → IsFree workers b e → KeepsWorkers b.dag b.runs workers b.journal → KeepsWorkers b.dag b.runs workers (b.journal ++ e ∷ [])
event_keeps_workers b workers e replayed able free kept = record {
  within = λ before rest is. elim (beginning b.journal e before rest is) [
    | inl all ↦ subst (λ (es : List Event). running_now (replay b.dag (start b.dag b.runs) es) ≤ workers) (sym all) now
    | inr part ↦ kept.within before part.0 part.1
  ];
}
  where
    now : running_now (replay b.dag (start b.dag b.runs) (b.journal ++ e ∷ [])) ≤ workers
    now =
        subst (λ (s : State). running_now s ≤ workers) (sym (replay_event b e replayed able).by_journal.led_to)
        (within_after b workers e replayed able free (running_within b workers replayed kept))
