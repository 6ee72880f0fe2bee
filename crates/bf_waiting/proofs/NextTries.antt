-- The try that begins next, and the moment that is waited for, by what is kept.
use Rattle.std.proofs.Common.{◌≡◌, ℕ, ◌+◌, ◌<◌, ℤ, true, nat_le, List, length, slice_get, slice_index, Option, None, Some, IfSome, Contains, refl, sym, ap, ◌∙◌, subst, inl, inr, arith}
use Rattle.std.proofs.lemmas.Option.{slice_get_within}
use Rattle.std.specs.FinMap as map
use Rattle.bf_value.specs.declared.name.JobName.{JobName}
use Rattle.bf_plan.specs.Sound.{demand_of, pool_size}
use Rattle.bf_pool.specs.Weights.{total_weight_of}
use Rattle.bf_try.specs.Tries.{name_of}
use Rattle.bf_core.specs.declared.event.Event.{Event}
use Rattle.bf_core.specs.declared.state.Instance.{Instance}
use Rattle.bf_core.specs.declared.state.Phase.{Phase}
use Rattle.bf_core.specs.Clocks.{IsTimely}
use Rattle.bf_core.specs.Cores.{Backfill, IsReplay, MayCome, WaitsLater}
use Rattle.bf_core.specs.Events.{IsPresent, has_room_in, occupied, place_in}
use Rattle.bf_core.proofs.Enabling.{present_there}
use Rattle.bf_core.proofs.Kept.{replay_rows}
use Rattle.bf_core.proofs.Named.{place_named, present_named}
use Rattle.bf_waiting.specs.declared.batches.Batch.{Batch}
use Rattle.bf_waiting.specs.declared.delays.Delay.{Delay}
use Rattle.bf_waiting.specs.Choices.{IsFirstTry, IsNextMoment, IsNextTry, IsPreferred, NoTry}
use Rattle.bf_waiting.specs.Classes.{Covers, HasBatch, Waits, delay_of}
use Rattle.bf_waiting.specs.inner.Heaps.{Leads}
use Rattle.bf_waiting.specs.Keeping.{IsOfClass}
use Rattle.bf_waiting.specs.Kept.{AreKept, IsClassOf}
use Rattle.bf_waiting.specs.inner.Looks.{IsBestOf, IsSoonestOf, IsTryOfBatch, MayTake}
use Rattle.bf_waiting.specs.Standings.{IsDelayedAt, IsReadyAt}
use Rattle.bf_waiting.proofs.HeapFacts.{top_in}
use Rattle.bf_waiting.proofs.Leading.{none_top}
use Rattle.bf_waiting.proofs.Moving.{named_so}

-- ---- names

module _ (b : Backfill) (is : IsReplay b) where
  -- a try that may begin is of an instance that is ready
  ready_of : (m : JobName) → MayCome b (Event.Begin m) → IsReadyAt b m.run m.task (place_in b.dag m)
  ready_of m able = record {
    held = able.0.0.held;
    is_held = able.0.0.is_held;
    waits = able.0.0.in_phase;
    timely = subst (λ (n : JobName). IsTimely b.clock (Event.Begin n)) (sym (named_so b m able.0.0 m.run m.task (place_in b.dag m) (refl, refl, refl) able.0.0.held able.0.0.is_held)) able.1;
  }

  -- a try that waits for a later moment is of an instance that is delayed
  delayed_of : (m : JobName) (w : WaitsLater b m) → IsDelayedAt b m.run m.task (place_in b.dag m) w.moment
  delayed_of m w = record {
    held = w.waits.held;
    is_held = w.waits.is_held;
    waits = w.waits.in_phase;
    is_moment = ap (map.get b.clock.moments) (named_so b m w.waits m.run m.task (place_in b.dag m) (refl, refl, refl) w.waits.held w.waits.is_held) ∙ w.is_moment;
    is_later = w.is_later;
  }

  -- and back
  later_of : (k t i : ℕ) (m : ℤ) (d : IsDelayedAt b k t i m) → WaitsLater b (name_of b.dag k t i d.held.attempt)
  later_of k t i m d = record { waits = present_named b is k t i d.held d.is_held Phase.Waiting d.waits; moment = m; is_moment = d.is_moment; is_later = d.is_later }

-- ---- rooms

-- tasks that take as many slots of the same pool have room alike
room_alike : (b : Backfill) (t u : ℕ) → (demand_of b.limits t).pool ≡ (demand_of b.limits u).pool → (demand_of b.limits t).slots ≡ (demand_of b.limits u).slots → has_room_in b.limits b.state t ≡ has_room_in b.limits b.state u
room_alike b t u pool slots = λ i. nat_le (occupied b.limits b.state (pool i) + slots i) (pool_size b.limits (pool i))

module _ (b : Backfill) (weights class_of : List ℕ) (classes : List Waits) (kept : AreKept b weights class_of classes) where
  task_there : (n : JobName) (p : Phase) → IsPresent b.dag b.state n p → n.task < length b.dag.tasks
  task_there n p present = (present_there b.dag b.state (replay_rows b kept.replayed) n p present).1

  -- a try that may begin is in a batch of a class that has room
  in_batch : (m : JobName) → MayCome b (Event.Begin m) → (j : ℕ) × (c : Waits) × (slice_get classes j ≡ Some c) × MayTake b c × HasBatch c.batches.items m.run m.task (place_in b.dag m) × (j ≡ slice_index class_of m.task)
  in_batch m able =
      let is : IsClassOf b.dag b.limits classes (slice_index class_of m.task) m.task = kept.classed m.task (task_there m Phase.Waiting able.0.0) in (
        slice_index class_of m.task,
        is.class,
        is.is_there,
        (is.has_task, room_alike b is.class.task m.task is.same_pool is.as_many ∙ able.0.1),
        (kept.kept (slice_index class_of m.task) is.class is.is_there).holds.ready m.run m.task (place_in b.dag m) refl (ready_of b kept.replayed m able),
        refl,
      )

  -- the first instance of the greatest batch is ready
  live_top : (j : ℕ) (c : Waits) → slice_get classes j ≡ Some c → (x : Batch) → slice_get c.batches.items 0 ≡ Some x → IsReadyAt b x.run.0 x.task.0 x.first.0
  live_top j c there x top = subst (λ (o : Option Batch). IfSome o (λ y. IsReadyAt b y.run.0 y.task.0 y.first.0)) top (kept.kept j c there).live

  -- its present try may begin
  begins : (j : ℕ) (c : Waits) → slice_get classes j ≡ Some c → MayTake b c → (x : Batch) → slice_get c.batches.items 0 ≡ Some x → (r : IsReadyAt b x.run.0 x.task.0 x.first.0) → MayCome b (Event.Begin (name_of b.dag x.run.0 x.task.0 x.first.0 r.held.attempt))
  unfolding name_of
  begins j c there may x top r = ((present, full), r.timely)
    where
      n : JobName
      n = name_of b.dag x.run.0 x.task.0 x.first.0 r.held.attempt

      present : IsPresent b.dag b.state n Phase.Waiting
      present = present_named b kept.replayed x.run.0 x.task.0 x.first.0 r.held r.is_held Phase.Waiting r.waits

      same_task : n.task ≡ x.task.0
      same_task = refl

      of : IsOfClass weights class_of j x
      of = (kept.kept j c there).holds.batches x (top_in c.batches.items x (sym top))

      full : has_room_in b.limits b.state n.task ≡ true
      full =
          let is : IsClassOf b.dag b.limits classes (slice_index class_of n.task) n.task = kept.classed n.task (task_there n Phase.Waiting present) in
          let own : slice_index class_of n.task ≡ j = ap (slice_index class_of) same_task ∙ of.belongs in
          let both : Some is.class ≡ Some c = sym is.is_there ∙ (ap (slice_get classes) own ∙ there) in
          let one : is.class ≡ c = cc in
          sym (room_alike b is.class.task n.task is.same_pool is.as_many) ∙ (ap (λ (w : Waits). has_room_in b.limits b.state w.task) one ∙ may.1)

  weight_is : (j : ℕ) (c : Waits) → slice_get classes j ≡ Some c → (x : Batch) → Contains c.batches.items x → (t : ℕ) → x.task.0 ≡ t → t < length b.dag.tasks → x.weight ≡ total_weight_of b.dag b.limits t
  weight_is j c there x con t is l = ((kept.kept j c there).holds.batches x con).weighs ∙ (ap (slice_index weights) is ∙ kept.weighted t l)

  -- what leads begins first
  preferred : (i : ℕ) (d : Waits) → slice_get classes i ≡ Some d → (x : Batch) → Contains d.batches.items x → (n : JobName) → n.run ≡ x.run.0 → n.task ≡ x.task.0 → place_in b.dag n ≡ x.first.0 → n.task < length b.dag.tasks →
      (j : ℕ) (c : Waits) → slice_get classes j ≡ Some c → (y : Batch) → Contains c.batches.items y → (m : JobName) → m.task < length b.dag.tasks → Covers y m.run m.task (place_in b.dag m) → Leads x y → IsPreferred b.dag b.limits n m
  preferred i d at x con n run task place l j c there y in_it m k covers leads =
      let wx : x.weight ≡ total_weight_of b.dag b.limits n.task = weight_is i d at x con n.task (sym task) l in
      let wy : y.weight ≡ total_weight_of b.dag b.limits m.task = weight_is j c there y in_it m.task covers.task k in
      elim leads [
        | inl more ↦ inl (omega (arith, more, wx, wy))
        | inr h ↦ inr (
          sym wy ∙ (h.0 ∙ wx),
          elim h.1 [
            | inl less ↦ inl (omega (arith, less, run, covers.run))
            | inr r ↦ inr (
              run ∙ (r.0 ∙ covers.run),
              elim r.1 [
                | inl less ↦ inl (omega (arith, less, task, covers.task))
                | inr t ↦ inr (task ∙ (t.0 ∙ covers.task), omega (arith, t.1, place, covers.from))
              ],
            )
          ],
        )
      ]

  -- where no class with room has a batch, no try may begin
  pub none_next : IsBestOf b classes None → NoTry b
  none_next none = λ m able.
      (let f = in_batch m able in
      none_top f.1.batches.items (none f.0 f.1 (slice_get_within classes f.0 f.1 f.2) f.2 f.3) f.4.0 f.4.1)

  -- else the present try of the first instance of the batch that leads
  pub next_is : (x : Batch) → IsBestOf b classes (Some x) → (o : Option JobName) → IsTryOfBatch b x o → IsNextTry b o
  unfolding name_of
  next_is x best o is = named (live_top best.0.0 best.0.1 best.0.2 x best.0.4) o is
    where
      named : (r : IsReadyAt b x.run.0 x.task.0 x.first.0) → (o : Option JobName) → IsTryOfBatch b x o → IsNextTry b o
      named r None is = absurd (let no : None ≡ Some r.held = sym is ∙ r.is_held in cc)
      named r (Some n) is = go (subst (λ (p : Option Instance). IfSome p (λ y. n ≡ name_of b.dag x.run.0 x.task.0 x.first.0 y.attempt)) r.is_held is)
        where
          go : n ≡ name_of b.dag x.run.0 x.task.0 x.first.0 r.held.attempt → IsFirstTry b n
          go e = record {
            may_begin = able;
            first = λ m may. (let f = in_batch m may in
                preferred best.0.0 best.0.1 best.0.2 x (top_in best.0.1.batches.items x (sym best.0.4)) n (ap (λ (q : JobName). q.run) e) (ap (λ (q : JobName). q.task) e)
                (ap (place_in b.dag) e ∙ place_named b kept.replayed x.run.0 x.task.0 x.first.0 r.held r.is_held) (task_there n Phase.Waiting able.0.0)
                f.0 f.1 f.2 f.4.0 f.4.1 m (task_there m Phase.Waiting may.0.0) f.4.2
                (best.1 f.0 f.1 f.4.0 (slice_get_within classes f.0 f.1 f.2) f.2 f.3 f.4.1));
          }
            where
              able : MayCome b (Event.Begin n)
              able = subst (λ (q : JobName). MayCome b (Event.Begin q)) (sym e) (begins best.0.0 best.0.1 best.0.2 best.0.3 x best.0.4 r)

  -- ---- moments

  in_delays : (n : JobName) (w : WaitsLater b n) → (j : ℕ) × (c : Waits) × (slice_get classes j ≡ Some c) × Contains c.delays.items (delay_of n.run n.task (place_in b.dag n) w.moment)
  in_delays n w =
      let is : IsClassOf b.dag b.limits classes (slice_index class_of n.task) n.task = kept.classed n.task (task_there n Phase.Waiting w.waits) in
      (slice_index class_of n.task, is.class, is.is_there, (kept.kept (slice_index class_of n.task) is.class is.is_there).holds.delayed n.run n.task (place_in b.dag n) w.moment refl (delayed_of b kept.replayed n w))

  pub next_moment : (o : Option ℤ) → IsSoonestOf classes o → IsNextMoment b o
  unfolding later_of
  next_moment None none = λ n w. (let f = in_delays n w in none f.0 f.1 (delay_of n.run n.task (place_in b.dag n) w.moment) (slice_get_within classes f.0 f.1 f.2) f.2 f.3)
  next_moment (Some m) is =
      let d : Delay = is.0.2 in
      let delayed : IsDelayedAt b d.run d.task d.place d.moment.0 = ((kept.kept is.0.0 is.0.1 is.0.3).holds.delays d is.0.4).1 in
      record {
        name = name_of b.dag d.run d.task d.place delayed.held.attempt;
        waits = later_of b kept.replayed d.run d.task d.place d.moment.0 delayed;
        is_moment = is.0.5;
        least = λ n w. (let f = in_delays n w in is.1 f.0 f.1 (delay_of n.run n.task (place_in b.dag n) w.moment) (slice_get_within classes f.0 f.1 f.2) f.2 f.3);
      }
