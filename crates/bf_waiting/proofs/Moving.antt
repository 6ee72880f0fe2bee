-- Which instances begin to wait and which go on to wait, when an event comes.
use Rattle.std.proofs.Common.{◌≡◌, ◌⊎◌, ℕ, suc, zero, ◌<◌, ◌≤◌, ℤ, ◌≤ℤ◌, ◌<ℤ◌, ◌+ℤ◌, pos, Bool, true, false, cond, List, [], ◌∷◌, slice_get, Option, None, Some, IsSome, refl, sym, ap, ◌∙◌, subst, subst₂, inl, inr, arith}
use Rattle.std.specs.Prelude.{int_lt}
use Rattle.std.specs.Int.{int_min}
use Rattle.std.specs.FinMap as map
use Rattle.std.specs.Ordering.{eq_by_cmp}
use Rattle.std.proofs.lemmas.Int.{by_lt_z, ints}
use Rattle.bf_value.specs.declared.name.JobName.{JobName}
use Rattle.bf_value.specs.Names.{name_cmp}
use Rattle.bf_value.specs.inner.Names.{name_cmp_total}
use Rattle.bf_plan.specs.declared.plan.Dag.{Dag}
use Rattle.bf_plan.specs.Plans.{task_of}
use Rattle.bf_try.specs.declared.ledger.Entry.{Entry}
use Rattle.bf_try.specs.Tries.{map_index, name_of, place_of}
use Rattle.bf_try.proofs.Maps.{same_name}
use Rattle.bf_core.specs.declared.clock.Clock.{Clock}
use Rattle.bf_core.specs.declared.event.Event.{Event}
use Rattle.bf_core.specs.declared.state.State.{State}
use Rattle.bf_core.specs.declared.state.Cell.{Cell}
use Rattle.bf_core.specs.declared.state.Instance.{Instance}
use Rattle.bf_core.specs.declared.state.Phase.{Phase}
use Rattle.bf_core.specs.declared.state.RunPhase.{RunPhase}
use Rattle.bf_core.specs.Clocks.{IsMove, IsReached, IsTimely, after_end, next_try_of}
use Rattle.bf_core.specs.Cores.{Backfill, IsReplay, MayCome, moved}
use Rattle.bf_core.specs.Events.{IsPresent, after, begun, cell_at, cell_of, change_at, change_instance, decision_in, ended, entry_in, instance_of, next_run, place_in, put}
use Rattle.bf_core.proofs.Instances.{instance_here, new_fresh}
use Rattle.bf_core.proofs.Kept.{replay_in_time, replay_invariant}
use Rattle.bf_core.proofs.Reading.{put_cases, put_here, with_phase_cell}
use Rattle.bf_core.proofs.Stuck.{placed_in}
use Rattle.bf_waiting.specs.Standings.{IsDelayedAt, IsReadyAt}

-- ---- moments

-- a name that was taken out has nothing, and the others have what they had
removed : {X : Type 0} → (ms : map.FinMap name_cmp X) (n q : JobName) → ((q ≡ n) × (map.get (map.remove ms n) q ≡ None)) ⊎ (map.get (map.remove ms n) q ≡ map.get ms q)
removed ms n q = go (eq_by_cmp name_cmp q n) refl
  where
    go : (b : Bool) → eq_by_cmp name_cmp q n ≡ b → ((q ≡ n) × (map.get (map.remove ms n) q ≡ None)) ⊎ (map.get (map.remove ms n) q ≡ map.get ms q)
    go true e = inl (same_name q n e, map.get-remove name_cmp_total ms n q ∙ rw e)
    go false e = inr (map.get-remove name_cmp_total ms n q ∙ rw e)

inserted : {X : Type 0} → (ms : map.FinMap name_cmp X) (n : JobName) (v : X) (q : JobName) → (q ≡ n) ⊎ (map.get (map.insert ms n v) q ≡ map.get ms q)
inserted ms n v q = go (eq_by_cmp name_cmp q n) refl
  where
    go : (b : Bool) → eq_by_cmp name_cmp q n ≡ b → (q ≡ n) ⊎ (map.get (map.insert ms n v) q ≡ map.get ms q)
    go true e = inl (same_name q n e)
    go false e = inr (map.get-insert name_cmp_total ms n v q ∙ rw e)

-- the end of a try changes the moment of its next try alone
ended_moment : (c : Clock) (next : JobName) (again : Bool) (delay : ℕ) (q : JobName) → (q ≡ next) ⊎ (map.get (after_end c next again delay).moments q ≡ map.get c.moments q)
unfolding after_end
ended_moment c next false delay q = inr refl
ended_moment c next true delay q = go (int_lt c.time m)
  where
    m : ℤ
    m = int_min (c.time +ℤ pos delay) (pos 253_402_300_799)

    go : (b : Bool) → (q ≡ next) ⊎ (map.get (cond b (record { time = c.time; moments = map.insert c.moments next m }) c).moments q ≡ map.get c.moments q)
    go true = inserted c.moments next m q
    go false = inr refl

-- and not the time
ended_time : (c : Clock) (next : JobName) (again : Bool) (delay : ℕ) → (after_end c next again delay).time ≡ c.time
unfolding after_end
ended_time c next false delay = refl
ended_time c next true delay = go (int_lt c.time m)
  where
    m : ℤ
    m = int_min (c.time +ℤ pos delay) (pos 253_402_300_799)

    go : (b : Bool) → (cond b (record { time = c.time; moments = map.insert c.moments next m }) c).time ≡ c.time
    go true = refl
    go false = refl

-- no first try waits for a moment
never_first : (b : Backfill) → IsReplay b → (k t i : ℕ) (m : ℤ) → map.get b.clock.moments (name_of b.dag k t i 1) ≡ Some m → ⊥
unfolding name_of
never_first b is k t i m e = go (entry_in b.state.ledger n) refl ((replay_in_time b is).after_one n (rw e refl))
  where
    n : JobName
    n = record { run = k; task = t; index = map_index (task_of b.dag t) i; attempt = 0 }

    go : (o : Option Entry) → entry_in b.state.ledger n ≡ o → IsSome o → ⊥
    go None e h = cc
    go (Some x) e h = let from : 1 ≤ 0 = ((replay_invariant b is).recorded n x e).from in omega (arith, from)

-- ---- instances

pub same? : (a b : ℕ) → (a ≡ b) ⊎ (a ≡ b → ⊥)
same? a b = elim (three a b) [ inl e ↦ inl e | inr l ↦ inr (λ e. elim l [ inl h ↦ omega (arith, h, e) | inr h ↦ omega (arith, h, e) ]) ]
  where
    three : (a b : ℕ) → (a ≡ b) ⊎ ((a < b) ⊎ (b < a))
    three a b = grind arith

change_else : (f : Instance → Instance) (xs : List Instance) (p i : ℕ) → (i ≡ p → ⊥) → slice_get (change_at f xs p) i ≡ slice_get xs i
change_else f [] p i n = refl
change_else f (x ∷ xs) zero zero n = absurd (n refl)
change_else f (x ∷ xs) zero (suc i) n = refl
change_else f (x ∷ xs) (suc p) zero n = refl
change_else f (x ∷ xs) (suc p) (suc i) n = change_else f xs p i (λ e. n (ap suc e))

-- an instance at another place than the changed one is as it was
instance_else : (f : Instance → Instance) (c : Cell) (p i : ℕ) → (i ≡ p → ⊥) → instance_of (change_instance f c p) i ≡ instance_of c i
instance_else f (Cell.Ran xs) p i n = change_else f xs p i n
instance_else f Cell.Undecided p i n = refl
instance_else f Cell.Blocked p i n = refl
instance_else f Cell.Skipped p i n = refl
instance_else f Cell.UpstreamFailed p i n = refl

changed : (s : State) (f : Instance → Instance) (k t p j u i : ℕ) →
    ((j ≡ k) × (u ≡ t) × (i ≡ p)) ⊎ (instance_of (cell_at (put s k t (change_instance f (cell_at s k t) p)) j u) i ≡ instance_of (cell_at s j u) i)
changed s f k t p j u i = elim (put_cases s k t (change_instance f (cell_at s k t) p) j u) [
  | inl q ↦ elim (same? i p) [
    | inl e ↦ inl (q.0, q.1, e)
    | inr n ↦ inr (ap (λ (c : Cell). instance_of c i) q.2 ∙ (instance_else f (cell_at s k t) p i n ∙ (λ m. instance_of (cell_at s (sym q.0 m) (sym q.1 m)) i)))
  ]
  | inr e ↦ inr (ap (λ (c : Cell). instance_of c i) e)
]

-- the event decides the task, or begins or ends a try of the instance
abbrev pub IsOwn : Dag → Event → ℕ → ℕ → ℕ → Type 0
IsOwn dag (Event.Settle j u) k t i = (k ≡ j) × (t ≡ u)
IsOwn dag (Event.Expand j u) k t i = (k ≡ j) × (t ≡ u)
IsOwn dag (Event.Begin n) k t i = (k ≡ n.run) × (t ≡ n.task) × (i ≡ place_in dag n)
IsOwn dag (Event.End n o) k t i = (k ≡ n.run) × (t ≡ n.task) × (i ≡ place_in dag n)
IsOwn dag _ k t i = ⊥

-- no other instance is changed
own_or_same : (dag : Dag) (s : State) (e : Event) (k t i : ℕ) → IsOwn dag e k t i ⊎ (instance_of (cell_at (after dag s e) k t) i ≡ instance_of (cell_at s k t) i)
unfolding after
own_or_same dag s Event.Open k t i = inr (ap (λ (c : Cell). instance_of c i) (with_phase_cell s (next_run s) RunPhase.Open k t))
own_or_same dag s (Event.Settle j u) k t i = elim (put_cases s j u (cell_of (decision_in dag s j u)) k t) [ inl p ↦ inl (p.0, p.1) | inr e ↦ inr (ap (λ (c : Cell). instance_of c i) e) ]
own_or_same dag s (Event.Expand j u) k t i = elim (put_cases s j u (cell_of (decision_in dag s j u)) k t) [ inl p ↦ inl (p.0, p.1) | inr e ↦ inr (ap (λ (c : Cell). instance_of c i) e) ]
own_or_same dag s (Event.Begin n) k t i = changed s begun n.run n.task (place_in dag n) k t i
own_or_same dag s (Event.End n o) k t i = changed s (ended (task_of dag n.task).retries o) n.run n.task (place_in dag n) k t i
own_or_same dag s (Event.Close j) k t i = inr (ap (λ (c : Cell). instance_of c i) (with_phase_cell s j RunPhase.Closed k t))
own_or_same dag s (Event.Tick m) k t i = inr refl

-- the instance of a try that begins runs
begun_here : (dag : Dag) (s : State) (n : JobName) → IsPresent dag s n Phase.Waiting → (k t i : ℕ) → (k ≡ n.run) × (t ≡ n.task) × (i ≡ place_in dag n) →
    (x : Instance) → instance_of (cell_at (after dag s (Event.Begin n)) k t) i ≡ Some x → x.phase ≡ Phase.Waiting → ⊥
unfolding after
begun_here dag s n present k t i own x held waits = let p : Phase.Running ≡ Phase.Waiting = phase in cc
  where
    cell : Cell
    cell = cell_at s n.run n.task

    is_put : cell_at (put s n.run n.task (change_instance begun cell (place_in dag n))) n.run n.task ≡ change_instance begun cell (place_in dag n)
    is_put = put_here s n.run n.task (change_instance begun cell (place_in dag n)) (λ e. let none : None ≡ Some present.held = sym (ap (λ (c : Cell). instance_of c (place_in dag n)) e) ∙ present.is_held in cc)

    runs : Some (begun present.held) ≡ Some x
    runs =
        sym (instance_here begun cell (place_in dag n) present.held present.is_held) ∙ (sym (ap (λ (c : Cell). instance_of c (place_in dag n)) is_put)
        ∙ ((λ j. instance_of (cell_at (put s n.run n.task (change_instance begun cell (place_in dag n))) (sym own.0 j) (sym own.1 j)) (sym own.2 j)) ∙ held))

    same : begun present.held ≡ x
    same = let r : Some (begun present.held) ≡ Some x = runs in cc

    phase : Phase.Running ≡ Phase.Waiting
    phase = ap (λ (y : Instance). y.phase) same ∙ waits

-- the instance of a name that is the next of n is n's
own_by_name : (b : Backfill) → IsReplay b → (k t i : ℕ) (x : Instance) → instance_of (cell_at b.state k t) i ≡ Some x → (n : JobName) → name_of b.dag k t i x.attempt ≡ next_try_of n →
    (k ≡ n.run) × (t ≡ n.task) × (i ≡ place_in b.dag n)
unfolding name_of
own_by_name b is k t i x held n e =
    let task : t ≡ n.task = ap (λ (m : JobName). m.task) e in
    let index : map_index (task_of b.dag t) i ≡ n.index = ap (λ (m : JobName). m.index) e in
    (ap (λ (m : JobName). m.run) e, task, sym (placed_in b.dag b.state (replay_invariant b is) k t i (cell_at b.state k t) refl x held) ∙ (λ j. place_of (task_of b.dag (task j)) (index j)))

-- ---- those that are ready

ready_by : (b : Backfill) (k t i : ℕ) (x : Instance) → instance_of (cell_at b.state k t) i ≡ Some x → x.phase ≡ Phase.Waiting → IsTimely b.clock (Event.Begin (name_of b.dag k t i x.attempt)) → IsReadyAt b k t i
ready_by b k t i x held waits timely = record { held = x; is_held = held; waits = waits; timely = timely }

-- the event may let the instance be ready
abbrev pub BringsReady : Backfill → Event → ℕ → ℕ → ℕ → Type 0
BringsReady b (Event.Settle j u) k t i = (k ≡ j) × (t ≡ u)
BringsReady b (Event.Expand j u) k t i = (k ≡ j) × (t ≡ u)
BringsReady b (Event.End n o) k t i = (k ≡ n.run) × (t ≡ n.task) × (i ≡ place_in b.dag n)
BringsReady b (Event.Tick m) k t i = (o : ℤ) × IsDelayedAt b k t i o × (o ≤ℤ m)
BringsReady b _ k t i = ⊥

-- an instance is ready after an event where it was before, or where the event brings it
pub newly_ready : (b : Backfill) → IsReplay b → (e : Event) → MayCome b e → (k t i : ℕ) → IsReadyAt (moved b e) k t i → IsReadyAt b k t i ⊎ BringsReady b e k t i
newly_ready b is Event.Open able k t i r = elim (own_or_same b.dag b.state Event.Open k t i) [ inl own ↦ absurd own | inr same ↦ inl (ready_by b k t i r.held (sym same ∙ r.is_held) r.waits r.timely) ]
newly_ready b is (Event.Settle j u) able k t i r = elim (own_or_same b.dag b.state (Event.Settle j u) k t i) [ inl own ↦ inr own | inr same ↦ inl (ready_by b k t i r.held (sym same ∙ r.is_held) r.waits r.timely) ]
newly_ready b is (Event.Expand j u) able k t i r = elim (own_or_same b.dag b.state (Event.Expand j u) k t i) [ inl own ↦ inr own | inr same ↦ inl (ready_by b k t i r.held (sym same ∙ r.is_held) r.waits r.timely) ]
newly_ready b is (Event.Begin n) able k t i r = elim (own_or_same b.dag b.state (Event.Begin n) k t i) [
  | inl own ↦ absurd (begun_here b.dag b.state n able.0.0 k t i own r.held r.is_held r.waits)
  | inr same ↦ inl (ready_by b k t i r.held (sym same ∙ r.is_held) r.waits (elim (removed b.clock.moments n (name_of b.dag k t i r.held.attempt)) [
    | inl p ↦ subst (λ (q : JobName). IsTimely b.clock (Event.Begin q)) (sym p.0) able.1
    | inr kept ↦ subst (IsReached b.clock.time) kept r.timely
  ]))
]
newly_ready b is (Event.End n o) able k t i r = elim (own_or_same b.dag b.state (Event.End n o) k t i) [
  | inl own ↦ inr own
  | inr same ↦ elim (ended_moment b.clock (next_try_of n) _ _ (name_of b.dag k t i r.held.attempt)) [
    | inl next ↦ inr (own_by_name b is k t i r.held (sym same ∙ r.is_held) n next)
    | inr kept ↦ inl (ready_by b k t i r.held (sym same ∙ r.is_held) r.waits (subst₂ IsReached (ended_time b.clock (next_try_of n) _ _) kept r.timely))
  ]
]
newly_ready b is (Event.Close j) able k t i r = elim (own_or_same b.dag b.state (Event.Close j) k t i) [ inl own ↦ absurd own | inr same ↦ inl (ready_by b k t i r.held (sym same ∙ r.is_held) r.waits r.timely) ]
newly_ready b is (Event.Tick m) able k t i r = elim (own_or_same b.dag b.state (Event.Tick m) k t i) [ inl own ↦ absurd own | inr same ↦ go (sym same ∙ r.is_held) (map.get b.clock.moments (name_of b.dag k t i r.held.attempt)) refl r.timely ]
  where
    go : instance_of (cell_at b.state k t) i ≡ Some r.held → (o : Option ℤ) → map.get b.clock.moments (name_of b.dag k t i r.held.attempt) ≡ o → IsReached m o → IsReadyAt b k t i ⊎ BringsReady b (Event.Tick m) k t i
    go held None e timely = inl (ready_by b k t i r.held held r.waits (rw e tt))
    go held (Some o) e timely = by_lt_z b.clock.time o
        (λ later. inr (o, record { held = r.held; is_held = held; waits = r.waits; is_moment = e; is_later = later }, timely))
        (λ come. inl (ready_by b k t i r.held held r.waits (rw e come)))

-- the event is of the task t
abbrev pub IsOfTask : Event → ℕ → Type 0
IsOfTask (Event.Settle j u) t = t ≡ u
IsOfTask (Event.Expand j u) t = t ≡ u
IsOfTask (Event.Begin n) t = t ≡ n.task
IsOfTask (Event.End n o) t = t ≡ n.task
IsOfTask _ t = ⊥

-- an instance of another task stays ready
pub ready_elsewhere : (b : Backfill) (e : Event) → IsMove e → (k t i : ℕ) → ¬ (IsOfTask e t) → IsReadyAt b k t i → IsReadyAt (moved b e) k t i
unfolding name_of
ready_elsewhere b Event.Open move k t i other r = elim (own_or_same b.dag b.state Event.Open k t i) [ inl own ↦ absurd own | inr same ↦ ready_by (moved b Event.Open) k t i r.held (same ∙ r.is_held) r.waits r.timely ]
ready_elsewhere b (Event.Settle j u) move k t i other r = elim (own_or_same b.dag b.state (Event.Settle j u) k t i) [ inl own ↦ absurd (other own.1) | inr same ↦ ready_by (moved b (Event.Settle j u)) k t i r.held (same ∙ r.is_held) r.waits r.timely ]
ready_elsewhere b (Event.Expand j u) move k t i other r = elim (own_or_same b.dag b.state (Event.Expand j u) k t i) [ inl own ↦ absurd (other own.1) | inr same ↦ ready_by (moved b (Event.Expand j u)) k t i r.held (same ∙ r.is_held) r.waits r.timely ]
ready_elsewhere b (Event.Begin n) move k t i other r = elim (own_or_same b.dag b.state (Event.Begin n) k t i) [
  | inl own ↦ absurd (other own.1)
  | inr same ↦ ready_by (moved b (Event.Begin n)) k t i r.held (same ∙ r.is_held) r.waits (elim (removed b.clock.moments n (name_of b.dag k t i r.held.attempt)) [
    | inl p ↦ absurd (other (ap (λ (q : JobName). q.task) p.0))
    | inr kept ↦ subst (IsReached b.clock.time) (sym kept) r.timely
  ])
]
ready_elsewhere b (Event.End n o) move k t i other r = elim (own_or_same b.dag b.state (Event.End n o) k t i) [
  | inl own ↦ absurd (other own.1)
  | inr same ↦ ready_by (moved b (Event.End n o)) k t i r.held (same ∙ r.is_held) r.waits (elim (ended_moment b.clock (next_try_of n) _ _ (name_of b.dag k t i r.held.attempt)) [
    | inl next ↦ absurd (other (ap (λ (q : JobName). q.task) next))
    | inr kept ↦ subst₂ IsReached (sym (ended_time b.clock (next_try_of n) _ _)) (sym kept) r.timely
  ])
]
ready_elsewhere b (Event.Close j) move k t i other r = elim (own_or_same b.dag b.state (Event.Close j) k t i) [ inl own ↦ absurd own | inr same ↦ ready_by (moved b (Event.Close j)) k t i r.held (same ∙ r.is_held) r.waits r.timely ]
ready_elsewhere b (Event.Tick m) move k t i other r = absurd move

-- ---- those that are delayed

delayed_by : (b : Backfill) (k t i : ℕ) (m : ℤ) (x : Instance) → instance_of (cell_at b.state k t) i ≡ Some x → x.phase ≡ Phase.Waiting →
    map.get b.clock.moments (name_of b.dag k t i x.attempt) ≡ Some m → b.clock.time <ℤ m → IsDelayedAt b k t i m
delayed_by b k t i m x held waits moment later = record { held = x; is_held = held; waits = waits; is_moment = moment; is_later = later }

-- a task that is decided has no delayed instance
decided_none : (b : Backfill) → IsReplay b → (j u k t i : ℕ) (m : ℤ) (x : Instance) → instance_of (cell_at (put b.state j u (cell_of (decision_in b.dag b.state j u))) k t) i ≡ Some x →
    map.get b.clock.moments (name_of b.dag k t i x.attempt) ≡ Some m → instance_of (cell_at b.state k t) i ≡ Some x
decided_none b is j u k t i m x held moment = elim (put_cases b.state j u (cell_of (decision_in b.dag b.state j u)) k t) [
  | inl p ↦
      let fresh : x.attempt ≡ 1 = (new_fresh (decision_in b.dag b.state j u) i x (sym (ap (λ (c : Cell). instance_of c i) p.2) ∙ held)).attempt in
      absurd (never_first b is k t i m (ap (λ (a : ℕ). map.get b.clock.moments (name_of b.dag k t i a)) (sym fresh) ∙ moment))
  | inr e ↦ sym (ap (λ (c : Cell). instance_of c i) e) ∙ held
]

-- the event may let the instance be delayed
abbrev pub BringsDelayed : Dag → Event → ℕ → ℕ → ℕ → Type 0
BringsDelayed dag (Event.End n o) k t i = (k ≡ n.run) × (t ≡ n.task) × (i ≡ place_in dag n)
BringsDelayed dag _ k t i = ⊥

pub newly_delayed : (b : Backfill) → IsReplay b → (e : Event) → MayCome b e → (k t i : ℕ) (m : ℤ) → IsDelayedAt (moved b e) k t i m → IsDelayedAt b k t i m ⊎ BringsDelayed b.dag e k t i
unfolding after
newly_delayed b is Event.Open able k t i m d = elim (own_or_same b.dag b.state Event.Open k t i) [ inl own ↦ absurd own | inr same ↦ inl (delayed_by b k t i m d.held (sym same ∙ d.is_held) d.waits d.is_moment d.is_later) ]
newly_delayed b is (Event.Settle j u) able k t i m d = inl (delayed_by b k t i m d.held (decided_none b is j u k t i m d.held d.is_held d.is_moment) d.waits d.is_moment d.is_later)
newly_delayed b is (Event.Expand j u) able k t i m d = inl (delayed_by b k t i m d.held (decided_none b is j u k t i m d.held d.is_held d.is_moment) d.waits d.is_moment d.is_later)
newly_delayed b is (Event.Begin n) able k t i m d = elim (own_or_same b.dag b.state (Event.Begin n) k t i) [
  | inl own ↦ absurd (begun_here b.dag b.state n able.0.0 k t i own d.held d.is_held d.waits)
  | inr same ↦ elim (removed b.clock.moments n (name_of b.dag k t i d.held.attempt)) [
    | inl p ↦ absurd (let none : None ≡ Some m = sym p.1 ∙ d.is_moment in cc)
    | inr kept ↦ inl (delayed_by b k t i m d.held (sym same ∙ d.is_held) d.waits (sym kept ∙ d.is_moment) d.is_later)
  ]
]
newly_delayed b is (Event.End n o) able k t i m d = elim (own_or_same b.dag b.state (Event.End n o) k t i) [
  | inl own ↦ inr own
  | inr same ↦ elim (ended_moment b.clock (next_try_of n) _ _ (name_of b.dag k t i d.held.attempt)) [
    | inl next ↦ inr (own_by_name b is k t i d.held (sym same ∙ d.is_held) n next)
    | inr kept ↦ inl (delayed_by b k t i m d.held (sym same ∙ d.is_held) d.waits (sym kept ∙ d.is_moment) (subst (λ (c : ℤ). c <ℤ m) (ended_time b.clock (next_try_of n) _ _) d.is_later))
  ]
]
newly_delayed b is (Event.Close j) able k t i m d = elim (own_or_same b.dag b.state (Event.Close j) k t i) [ inl own ↦ absurd own | inr same ↦ inl (delayed_by b k t i m d.held (sym same ∙ d.is_held) d.waits d.is_moment d.is_later) ]
newly_delayed b is (Event.Tick o) able k t i m d = inl (delayed_by b k t i m d.held d.is_held d.waits d.is_moment (let later : o <ℤ m = d.is_later in omega (arith, ints, able.1.0, later)))

-- the instance of a try that is present is the one that is held at its place
held_so : (b : Backfill) (n : JobName) (p : Phase) → (at : IsPresent b.dag b.state n p) → (k t i : ℕ) → (k ≡ n.run) × (t ≡ n.task) × (i ≡ place_in b.dag n) → (x : Instance) → instance_of (cell_at b.state k t) i ≡ Some x → at.held ≡ x
held_so b n p at k t i own x held =
    let e : Some at.held ≡ Some x = sym at.is_held ∙ ((λ j. instance_of (cell_at b.state (sym own.0 j) (sym own.1 j)) (sym own.2 j)) ∙ held) in
    cc

undecided_none : (b : Backfill) (j u : ℕ) → cell_at b.state j u ≡ Cell.Undecided → (k t i : ℕ) → (k ≡ j) × (t ≡ u) → (x : Instance) → instance_of (cell_at b.state k t) i ≡ Some x → ⊥
undecided_none b j u undecided k t i own x held =
    let none : None ≡ Some x = sym (ap (λ (c : Cell). instance_of c i) undecided) ∙ ((λ j. instance_of (cell_at b.state (sym own.0 j) (sym own.1 j)) i) ∙ held) in
    cc

pub named_so : (b : Backfill) (n : JobName) → (at : IsPresent b.dag b.state n Phase.Waiting) → (k t i : ℕ) → (k ≡ n.run) × (t ≡ n.task) × (i ≡ place_in b.dag n) → (x : Instance) → instance_of (cell_at b.state k t) i ≡ Some x → name_of b.dag k t i x.attempt ≡ n
unfolding name_of
named_so b n at k t i own x held =
    let index : map_index (task_of b.dag t) i ≡ n.index = (λ j. map_index (task_of b.dag (own.1 j)) (own.2 j)) ∙ at.is_named in
    let attempt : x.attempt ≡ n.attempt = ap (λ (y : Instance). y.attempt) (sym (held_so b n Phase.Waiting at k t i own x held)) ∙ at.is_present in
    λ j. record { run = own.0 j; task = own.1 j; index = index j; attempt = attempt j }

ends_not : (b : Backfill) (n : JobName) → (at : IsPresent b.dag b.state n Phase.Running) → (k t i : ℕ) → (k ≡ n.run) × (t ≡ n.task) × (i ≡ place_in b.dag n) → (x : Instance) → instance_of (cell_at b.state k t) i ≡ Some x → x.phase ≡ Phase.Waiting → ⊥
ends_not b n at k t i own x held waits =
    let e : Phase.Running ≡ Phase.Waiting = sym at.in_phase ∙ (ap (λ (y : Instance). y.phase) (held_so b n Phase.Running at k t i own x held) ∙ waits) in
    cc

-- a try that begins is no delayed one
begins_not : (b : Backfill) (n : JobName) → MayCome b (Event.Begin n) → (k t i : ℕ) (m : ℤ) (d : IsDelayedAt b k t i m) → name_of b.dag k t i d.held.attempt ≡ n → ⊥
begins_not b n able k t i m d same =
    let come : m ≤ℤ b.clock.time = subst (IsReached b.clock.time) (ap (map.get b.clock.moments) (sym same) ∙ d.is_moment) able.1 in
    omega (arith, ints, come, d.is_later)

-- a delayed instance stays so until the clock moves
pub stays_delayed : (b : Backfill) → IsReplay b → (e : Event) → MayCome b e → IsMove e → (k t i : ℕ) (m : ℤ) → IsDelayedAt b k t i m → IsDelayedAt (moved b e) k t i m
stays_delayed b is Event.Open able move k t i m d = elim (own_or_same b.dag b.state Event.Open k t i) [ inl own ↦ absurd own | inr same ↦ delayed_by (moved b Event.Open) k t i m d.held (same ∙ d.is_held) d.waits d.is_moment d.is_later ]
stays_delayed b is (Event.Settle j u) able move k t i m d = elim (own_or_same b.dag b.state (Event.Settle j u) k t i) [
  | inl own ↦ absurd (undecided_none b j u able.0.0.undecided k t i own d.held d.is_held)
  | inr same ↦ delayed_by (moved b (Event.Settle j u)) k t i m d.held (same ∙ d.is_held) d.waits d.is_moment d.is_later
]
stays_delayed b is (Event.Expand j u) able move k t i m d = elim (own_or_same b.dag b.state (Event.Expand j u) k t i) [
  | inl own ↦ absurd (undecided_none b j u able.0.0.undecided k t i own d.held d.is_held)
  | inr same ↦ delayed_by (moved b (Event.Expand j u)) k t i m d.held (same ∙ d.is_held) d.waits d.is_moment d.is_later
]
stays_delayed b is (Event.Begin n) able move k t i m d = elim (own_or_same b.dag b.state (Event.Begin n) k t i) [
  | inl own ↦ absurd (begins_not b n able k t i m d (named_so b n able.0.0 k t i own d.held d.is_held))
  | inr same ↦ elim (removed b.clock.moments n (name_of b.dag k t i d.held.attempt)) [
    | inl p ↦ absurd (begins_not b n able k t i m d p.0)
    | inr kept ↦ delayed_by (moved b (Event.Begin n)) k t i m d.held (same ∙ d.is_held) d.waits (kept ∙ d.is_moment) d.is_later
  ]
]
stays_delayed b is (Event.End n o) able move k t i m d = elim (own_or_same b.dag b.state (Event.End n o) k t i) [
  | inl own ↦ absurd (ends_not b n able.0.0 k t i own d.held d.is_held d.waits)
  | inr same ↦ elim (ended_moment b.clock (next_try_of n) _ _ (name_of b.dag k t i d.held.attempt)) [
    | inl next ↦ absurd (ends_not b n able.0.0 k t i (own_by_name b is k t i d.held d.is_held n next) d.held d.is_held d.waits)
    | inr kept ↦ delayed_by (moved b (Event.End n o)) k t i m d.held (same ∙ d.is_held) d.waits (kept ∙ d.is_moment) (subst (λ (c : ℤ). c <ℤ m) (sym (ended_time b.clock (next_try_of n) _ _)) d.is_later)
  ]
]
stays_delayed b is (Event.Close j) able move k t i m d = elim (own_or_same b.dag b.state (Event.Close j) k t i) [ inl own ↦ absurd own | inr same ↦ delayed_by (moved b (Event.Close j)) k t i m d.held (same ∙ d.is_held) d.waits d.is_moment d.is_later ]
stays_delayed b is (Event.Tick o) able move k t i m d = absurd move

-- when the clock moves to an earlier moment, it stays so
pub delayed_later : (b : Backfill) (o : ℤ) (k t i : ℕ) (m : ℤ) → o <ℤ m → IsDelayedAt b k t i m → IsDelayedAt (moved b (Event.Tick o)) k t i m
unfolding after
delayed_later b o k t i m later d = record { held = d.held; is_held = d.is_held; waits = d.waits; is_moment = d.is_moment; is_later = later }

-- what an event brings is of its task
pub ready_of : (b : Backfill) (e : Event) → IsMove e → (k t i : ℕ) → BringsReady b e k t i → IsOfTask e t
ready_of b Event.Open move k t i brings = brings
ready_of b (Event.Settle j u) move k t i brings = brings.1
ready_of b (Event.Expand j u) move k t i brings = brings.1
ready_of b (Event.Begin n) move k t i brings = absurd brings
ready_of b (Event.End n o) move k t i brings = brings.1
ready_of b (Event.Close j) move k t i brings = brings
ready_of b (Event.Tick m) move k t i brings = absurd move

pub delayed_of : (dag : Dag) (e : Event) (k t i : ℕ) → BringsDelayed dag e k t i → IsOfTask e t
delayed_of dag Event.Open k t i brings = brings
delayed_of dag (Event.Settle j u) k t i brings = absurd brings
delayed_of dag (Event.Expand j u) k t i brings = absurd brings
delayed_of dag (Event.Begin n) k t i brings = absurd brings
delayed_of dag (Event.End n o) k t i brings = brings.1
delayed_of dag (Event.Close j) k t i brings = brings
delayed_of dag (Event.Tick m) k t i brings = brings
