-- What keeps each tick at the first moment for which a try waits.
use Rattle.std.proofs.Common.{◌≡◌, ◌⊎◌, ◌++◌, ◌∷◌, ℕ, ℤ, true, List, [], refl, sym, ap, ◌∙◌, subst, subst₂, inl, inr, arith}
use Rattle.bf_try.specs.Asked.{Asked, Answered}
use Rattle.bf_core.specs.Terms.{Dag, Limits}
use Rattle.bf_core.specs.declared.event.Event.{Event}
use Rattle.bf_core.specs.Endings.{Ending, ending_of}
use Rattle.bf_core.specs.Clocks.{IsMove}
use Rattle.bf_core.specs.Cores.{Backfill, IsReplay, moved, opening}
use Rattle.bf_sched.specs.Choices.{IsFirstMoment, IsStep}
use Rattle.bf_sched.specs.Scheduling.{HasBegun, HasFinished, HasStepped, HasTicked, Schedule, WaitsUntil, end_of, moved_on}
use Rattle.bf_plain.specs.Ticks.{TicksToFirstMoments, led_to}
use Rattle.bf_plain.specs.inner.Ticks.{HasTickedSo, TicksSo}

-- ---- lists

no_tick : (before rest : List Event) (m : ℤ) → [] ≡ before ++ Event.Tick m ∷ rest → ⊥
no_tick [] rest m e = cc
no_tick (b ∷ before) rest m e = cc

-- a tick of a list with one event more is that event, or stands in the list
tick_of : (xs : List Event) (x : Event) (before rest : List Event) (m : ℤ) → xs ++ x ∷ [] ≡ before ++ Event.Tick m ∷ rest → ((before ≡ xs) × (x ≡ Event.Tick m)) ⊎ ((left : List Event) × (xs ≡ before ++ Event.Tick m ∷ left))
tick_of [] x [] rest m e = inl (refl, (cc))
tick_of [] x (b ∷ []) rest m e = cc
tick_of [] x (b ∷ c ∷ cs) rest m e = cc
tick_of (y ∷ xs) x [] rest m e = inr (xs, (let same : y ≡ Event.Tick m = cc in ap (λ z. z ∷ xs) same))
tick_of (y ∷ xs) x (b ∷ bs) rest m e =
    let same : y ≡ b = cc in
    let behind : xs ++ x ∷ [] ≡ bs ++ Event.Tick m ∷ rest = cc in
    elim (tick_of xs x bs rest m behind) [
      | inl here ↦ inl ((λ i. sym same i ∷ here.0 i), here.1)
      | inr part ↦ inr (part.0, λ i. same i ∷ part.1 i)
    ]

-- ---- events

opening_ticks : (dag : Dag) (limits : Limits) (runs : ℕ) → TicksToFirstMoments dag limits runs []
opening_ticks dag limits runs = record { first = λ before rest m e. absurd (no_tick before rest m e) }

more_ticks : (dag : Dag) (limits : Limits) (runs : ℕ) (journal : List Event) (e : Event) → TicksToFirstMoments dag limits runs journal → ((m : ℤ) → e ≡ Event.Tick m → IsFirstMoment (led_to dag limits runs journal) m) →
    TicksToFirstMoments dag limits runs (journal ++ e ∷ [])
more_ticks dag limits runs journal e is now = record {
  first = λ before rest m eq. elim (tick_of journal e before rest m eq) [
    | inl here ↦ subst (λ (es : List Event). IsFirstMoment (led_to dag limits runs es) m) (sym here.0) (now m here.1)
    | inr part ↦ is.first before part.0 m part.1
  ];
}

move_ticks : (b : Backfill) (e : Event) → IsMove e → HasTickedSo b → HasTickedSo (moved b e)
move_ticks b e move is = more_ticks b.dag b.limits b.runs b.journal e is (λ m same. absurd (subst IsMove same move))

led_is : (b : Backfill) → IsReplay b → led_to b.dag b.limits b.runs b.journal ≡ b
led_is b is = λ i. record { dag = b.dag; limits = b.limits; runs = b.runs; state = is.by_journal.led_to i; clock = is.by_clock i; journal = b.journal }

tick_ticks : (b : Backfill) (m : ℤ) → IsReplay b → IsFirstMoment b m → HasTickedSo b → HasTickedSo (moved b (Event.Tick m))
tick_ticks b m replayed first is =
    more_ticks b.dag b.limits b.runs b.journal (Event.Tick m) is (λ n same. let equal : m ≡ n = cc in subst₂ IsFirstMoment (sym (led_is b replayed)) equal first)

step_moves : (e : Event) → IsStep e → IsMove e
step_moves Event.Open is = tt
step_moves (Event.Settle k t) is = tt
step_moves (Event.Expand k t) is = tt
step_moves (Event.Close k) is = tt
step_moves (Event.Begin n) is = tt
step_moves (Event.End n o) is = tt
step_moves (Event.Tick m) is = absurd (omega (arith, is))

-- ---- turns

moved_so : (s t : Schedule) (e : Event) → IsMove e → t ≡ moved_on s e → TicksSo s t
moved_so s t e move is = record { so = λ h. subst (λ (x : Schedule). HasTickedSo x.backfill) (sym is) (move_ticks s.backfill e move h) }

pub same_so : (s t : Schedule) → t ≡ s → TicksSo s t
same_so s t is = record { so = λ h. subst (λ (x : Schedule). HasTickedSo x.backfill) (sym is) h }

pub then_so : (s t u : Schedule) → TicksSo s t → TicksSo t u → TicksSo s u
then_so s t u h k = record { so = λ is. k.so (h.so is) }

pub stepped_so : (s t : Schedule) → HasStepped s t → TicksSo s t
stepped_so s t h = moved_so s t h.event (step_moves h.event h.is_first.is_step) h.new_is

pub begun_so : (s t : Schedule) (ticket : Asked) → HasBegun s ticket t → TicksSo s t
begun_so s t ticket h = moved_so s t (Event.Begin ticket.name) tt h.new_is

pub finished_so : (s t : Schedule) (done : Answered) → HasFinished s done t → TicksSo s t
finished_so s t done h = moved_so s t (end_of s.backfill done) tt h.1

pub until_so : (s t u : Schedule) (m : ℤ) → IsReplay s.backfill → WaitsUntil s m t → HasTicked t m true u → TicksSo s u
until_so s t u m replayed until ticked =
    let came : HasTicked s m true u = subst (λ (x : Schedule). HasTicked x m true u) until.new_is ticked in
    record { so = λ h. subst HasTickedSo (sym came.0.1) (tick_ticks s.backfill m replayed until.is_first h) }

-- ---- the end

pub ends_so : (b : Backfill) (dag : Dag) (limits : Limits) (runs workers : ℕ) (first last : Schedule) (ended : Ending) → b ≡ opening dag limits runs → first ≡ record { backfill = b; workers = workers } → TicksSo first last →
    last.backfill.dag ≡ dag → last.backfill.limits ≡ limits → last.backfill.runs ≡ runs → ended ≡ ending_of last.backfill ended.run_states → TicksToFirstMoments dag limits runs ended.journal
ends_so b dag limits runs workers first last ended is to so same_dag same_limits same_runs same =
    let opened : first.backfill ≡ opening dag limits runs = ap (λ (x : Schedule). x.backfill) to ∙ is in
    let all : HasTickedSo last.backfill = so.so (subst HasTickedSo (sym opened) (opening_ticks dag limits runs)) in
    subst (λ (p : Dag × Limits × ℕ × List Event). TicksToFirstMoments p.0 p.1 p.2 p.3) (λ i. (same_dag i, same_limits i, same_runs i, sym (ap (λ (e : Ending). e.journal) same) i)) all
