-- The classes of a backfill after an event.
use Rattle.std.proofs.Common.{◌≡◌, ◌⊎◌, ℕ, zero, suc, ◌<◌, ◌≤◌, ◌+◌, ◌++◌, take, drop, ℤ, Bool, true, false, List, [], ◌∷◌, length, slice_get, slice_set, slice_index, slice_index_or, Some, Result, Ok, Err, OnOk, Contains, refl, sym, ap, ◌∙◌, subst, subst₂, inl, inr, arith}
use Rattle.std.proofs.lemmas.Option.{slice_get_within}
use Rattle.bf_value.specs.declared.name.JobName.{JobName}
use Rattle.bf_xcom.specs.declared.values.Outcome.{Outcome}
use Rattle.bf_plan.specs.declared.plan.Dag.{Dag}
use Rattle.bf_plan.specs.declared.plan.Limits.{Limits}
use Rattle.bf_plan.specs.Sound.{demand_of}
use Rattle.bf_core.specs.declared.event.Event.{Event}
use Rattle.bf_core.specs.declared.state.Phase.{Phase}
use Rattle.bf_core.specs.Clocks.{IsMove}
use Rattle.bf_core.specs.Cores.{Backfill, IsReplay, MayCome, deciding, moved}
use Rattle.bf_core.proofs.Enabling.{present_there}
use Rattle.bf_core.proofs.Kept.{replay_event, replay_rows}
use Rattle.bf_core.proofs.Numbers.{below_or}
use Rattle.bf_waiting.specs.declared.batches.Batch.{Batch}
use Rattle.bf_waiting.specs.declared.delays.Delay.{Delay}
use Rattle.bf_waiting.specs.Classes.{HasBatch, HasRoom, Waits, delay_of}
use Rattle.bf_waiting.specs.Keeping.{IsLive, KeepsWaiting}
use Rattle.bf_waiting.specs.inner.Keeping.{KeepsOver}
use Rattle.bf_waiting.specs.Kept.{AreKept, IsClassOf}
use Rattle.bf_waiting.proofs.Holding.{untouched}
use Rattle.bf_waiting.proofs.Moving.{IsOfTask, same?}

-- the class at place j is that of the same task, and was kept over the event
pub record IsKeptAt (e : Event) (now : Backfill) (weights : List ℕ) (j : ℕ) (old : Waits) (classes : List Waits) : Type 0 where
  pub class : Waits
  pub is_there : slice_get classes j ≡ Some class
  pub same_task : class.task ≡ old.task
  pub keeps : (class_of : List ℕ) → KeepsOver e now weights class_of j old class

-- each of them was
abbrev pub AreEachKept : Event → Backfill → List ℕ → List Waits → List Waits → Type 0
AreEachKept e now weights old new = (j : ℕ) (c : Waits) → slice_get old j ≡ Some c → IsKeptAt e now weights j c new

module _ {X : Type 0} where
  pub set_cases : (xs : List X) (i : ℕ) (y : X) (j : ℕ) (z : X) → slice_get (slice_set xs i y) j ≡ Some z → ((j ≡ i) × (z ≡ y)) ⊎ (¬ (j ≡ i) × (slice_get xs j ≡ Some z))
  set_cases [] i y j z e = cc
  set_cases (x ∷ xs) zero y zero z e = inl (refl, let same : y ≡ z = cc in sym same)
  set_cases (x ∷ xs) zero y (suc j) z e = inr (λ h. omega (arith, h), e)
  set_cases (x ∷ xs) (suc i) y zero z e = inr (λ h. omega (arith, h), e)
  set_cases (x ∷ xs) (suc i) y (suc j) z e = elim (set_cases xs i y j z e) [ inl p ↦ inl (ap suc p.0, p.1) | inr q ↦ inr (λ h. q.0 (omega (arith, h)), q.1) ]

  set_there : (xs : List X) (i : ℕ) (x y : X) → slice_get xs i ≡ Some x → slice_get (slice_set xs i y) i ≡ Some y
  set_there [] i x y e = cc
  set_there (z ∷ xs) zero x y e = refl
  set_there (z ∷ xs) (suc i) x y e = set_there xs i x y e

  set_else : (xs : List X) (i : ℕ) (y : X) (j : ℕ) → ¬ (j ≡ i) → slice_get (slice_set xs i y) j ≡ slice_get xs j
  set_else [] i y j n = refl
  set_else (x ∷ xs) zero y zero n = absurd (n refl)
  set_else (x ∷ xs) zero y (suc j) n = refl
  set_else (x ∷ xs) (suc i) y zero n = refl
  set_else (x ∷ xs) (suc i) y (suc j) n = set_else xs i y j (λ e. n (ap suc e))

  pub got : (xs : List X) (i : ℕ) (x : X) → i < length xs → x ≡ slice_index_or xs i x → slice_get xs i ≡ Some x
  got [] i x l e = absurd (omega (arith, l))
  got (y ∷ ys) zero x l e = ap Some (sym e)
  got (y ∷ ys) (suc i) x l e = got ys i x (omega arith) e

-- a class that is put in the place of one of the same task has the tasks that this had
pub reclassed : (dag : Dag) (limits : Limits) (classes : List Waits) (j : ℕ) (old new : Waits) → slice_get classes j ≡ Some old → new.task ≡ old.task → (i t : ℕ) → IsClassOf dag limits classes i t → IsClassOf dag limits (slice_set classes j new) i t
reclassed dag limits classes j old new there task i t is = elim (same? i j) [
  | inl e ↦ (let one : Some is.class ≡ Some old = sym is.is_there ∙ (ap (slice_get classes) e ∙ there) in
      let same : is.class ≡ old = cc in
      let now : is.class.task ≡ new.task = ap (λ (c : Waits). c.task) same ∙ sym task in
      record {
        class = new;
        is_there = ap (slice_get (slice_set classes j new)) e ∙ set_there classes j old new there;
        has_task = subst (λ (u : ℕ). u < length dag.tasks) now is.has_task;
        same_pool = ap (λ (u : ℕ). (demand_of limits u).pool) (sym now) ∙ is.same_pool;
        as_many = ap (λ (u : ℕ). (demand_of limits u).slots) (sym now) ∙ is.as_many;
      })
  | inr n ↦ record { class = is.class; is_there = set_else classes j new i n ∙ is.is_there; has_task = is.has_task; same_pool = is.same_pool; as_many = is.as_many }
]

module _ (weights class_of : List ℕ) (classes : List Waits) where
  -- one class was kept over an event of its own
  pub one_over : (e : Event) (now : Backfill) (t j : ℕ) (old new : Waits) → IsMove e → ((u : ℕ) → IsOfTask e u → u ≡ t) → j ≡ slice_index class_of t → slice_get classes j ≡ Some old → new.task ≡ old.task →
      KeepsOver e now weights class_of j old new → (b : Backfill) → MayCome b e → now ≡ moved b e → AreKept b weights class_of classes → AreKept now weights class_of (slice_set classes j new)
  one_over e now t j old new move only is there task keeps b able at kept = subst (λ (n : Backfill). AreKept n weights class_of (slice_set classes j new)) (sym at) (record {
    replayed = replay_event b e kept.replayed able;
    weighted = kept.weighted;
    one_each = kept.one_each;
    classed = λ u l. reclassed b.dag b.limits classes j old new there task (slice_index class_of u) u (kept.classed u l);
    kept = λ i c h. elim (set_cases classes j new i c h) [
      | inl p ↦ subst₂ (λ (a : ℕ) (d : Waits). KeepsWaiting (moved b e) weights class_of a d) (sym p.0) (sym p.1)
          (subst (λ (n : Backfill). KeepsWaiting n weights class_of j new) at (keeps b able at kept.replayed (kept.kept j old there)))
      | inr q ↦ untouched weights class_of i b kept.replayed e able move (λ u own of. q.0 (sym own ∙ (ap (slice_index class_of) (only u of) ∙ sym is))) c (kept.kept i c q.1)
    ];
  })

  -- no class has anything of the event
  pub none_over : (e : Event) (now : Backfill) → IsMove e → ((u : ℕ) → ¬ (IsOfTask e u)) → (b : Backfill) → MayCome b e → now ≡ moved b e → AreKept b weights class_of classes → AreKept now weights class_of classes
  none_over e now move none b able at kept = subst (λ (n : Backfill). AreKept n weights class_of classes) (sym at) (record {
    replayed = replay_event b e kept.replayed able;
    weighted = kept.weighted;
    one_each = kept.one_each;
    classed = kept.classed;
    kept = λ i c h. untouched weights class_of i b kept.replayed e able move (λ u own. none u) c (kept.kept i c h);
  })

  -- each task has a class
  pub has_class : (b : Backfill) → AreKept b weights class_of classes → (t : ℕ) → t < length b.dag.tasks → (t < length class_of → ¬ (slice_index class_of t < length classes)) → ⊥
  has_class b kept t l never =
      let is : IsClassOf b.dag b.limits classes (slice_index class_of t) t = kept.classed t l in
      let each : length class_of ≡ length b.dag.tasks = kept.one_each in
      never (omega (arith, l, each)) (slice_get_within classes (slice_index class_of t) is.class is.is_there)

pub begin_there : (b : Backfill) → IsReplay b → (n : JobName) → MayCome b (Event.Begin n) → n.task < length b.dag.tasks
begin_there b is n able = (present_there b.dag b.state (replay_rows b is) n Phase.Waiting able.0.0).1

pub end_there : (b : Backfill) → IsReplay b → (n : JobName) (o : Outcome) → MayCome b (Event.End n o) → n.task < length b.dag.tasks
end_there b is n o able = (present_there b.dag b.state (replay_rows b is) n Phase.Running able.0.0).1

pub of_deciding : (expands : Bool) (k t u : ℕ) → IsOfTask (deciding expands k t) u → u ≡ t
of_deciding true k t u of = of
of_deciding false k t u of = of

pub moves : (expands : Bool) (k t : ℕ) → IsMove (deciding expands k t)
moves true k t = tt
moves false k t = tt

pub deciding_there : (b : Backfill) (expands : Bool) (k t : ℕ) → MayCome b (deciding expands k t) → t < length b.dag.tasks
deciding_there b true k t able = able.0.0.is_task
deciding_there b false k t able = able.0.0.is_task

-- ---- the clock

-- the classes before place i are kept, and the others are as they were
pub record AreKeptTo (e : Event) (now : Backfill) (weights : List ℕ) (i : ℕ) (old new : List Waits) : Type 0 where
  pub done : (j : ℕ) (c : Waits) → j < i → slice_get old j ≡ Some c → IsKeptAt e now weights j c new
  pub rest : (j : ℕ) → i ≤ j → slice_get new j ≡ slice_get old j

-- one more is kept
pub one_more : (e : Event) (now : Backfill) (weights : List ℕ) (i : ℕ) (old mid : List Waits) (c d : Waits) → AreKeptTo e now weights i old mid → slice_get mid i ≡ Some c → d.task ≡ c.task → ((class_of : List ℕ) → KeepsOver e now weights class_of i c d) →
    AreKeptTo e now weights (i + 1) old (slice_set mid i d)
one_more e now weights i old mid c d are there task keeps = record {
  done = λ j x l h. elim (below_or j i l) [
    | inl less ↦ (let k = are.done j x less h in record { class = k.class; is_there = set_else mid i d j (λ same. omega (arith, less, same)) ∙ k.is_there; same_task = k.same_task; keeps = k.keeps })
    | inr same ↦ at_it j x same h
  ];
  rest = λ j l. set_else mid i d j (λ same. omega (arith, l, same)) ∙ are.rest j (omega (arith, l));
}
  where
    at_it : (j : ℕ) (x : Waits) → j ≡ i → slice_get old j ≡ Some x → IsKeptAt e now weights j x (slice_set mid i d)
    at_it j x same h =
        let both : Some x ≡ Some c = sym h ∙ (ap (slice_get old) same ∙ (sym (are.rest i (omega arith)) ∙ there)) in
        let one : x ≡ c = cc in
        record {
          class = d;
          is_there = ap (slice_get (slice_set mid i d)) same ∙ set_there mid i c d there;
          same_task = task ∙ ap (λ (w : Waits). w.task) (sym one);
          keeps = λ class_of. subst₂ (λ (a : ℕ) (w : Waits). KeepsOver e now weights class_of a w d) (sym same) (sym one) (keeps class_of);
        }

-- all are kept
pub each_kept : (e : Event) (now : Backfill) (weights : List ℕ) (i : ℕ) (old new : List Waits) → AreKeptTo e now weights i old new → length old ≤ i → AreEachKept e now weights old new
each_kept e now weights i old new are end = λ j c h. are.done j c (let l : j < length old = slice_get_within old j c h in omega (arith, l, end)) h

some_or : {X : Type 0} → (xs : List X) (j : ℕ) → ((x : X) × (slice_get xs j ≡ Some x)) ⊎ (length xs ≤ j)
some_or [] j = inr (omega arith)
some_or (x ∷ xs) zero = inl (x, refl)
some_or (x ∷ xs) (suc j) = elim (some_or xs j) [ inl h ↦ inl h | inr l ↦ inr (omega (arith, l)) ]

-- the classes after the clock moved
pub ticked_over : (weights class_of : List ℕ) (old new : List Waits) (now : Backfill) (o : ℤ) → length new ≡ length old → AreEachKept (Event.Tick o) now weights old new →
    (b : Backfill) → MayCome b (Event.Tick o) → now ≡ moved b (Event.Tick o) → AreKept b weights class_of old → AreKept now weights class_of new
ticked_over weights class_of old new now o len each b able at kept = subst (λ (n : Backfill). AreKept n weights class_of new) (sym at) (record {
  replayed = replay_event b (Event.Tick o) kept.replayed able;
  weighted = kept.weighted;
  one_each = kept.one_each;
  classed = λ t l. reclass t (kept.classed t l);
  kept = λ j d h. elim (some_or old j) [
    | inl c ↦ at_one j d h c.0 c.1
    | inr out ↦ absurd (let l : j < length new = slice_get_within new j d h in omega (arith, l, out, len))
  ];
})
  where
    reclass : (t : ℕ) → IsClassOf b.dag b.limits old (slice_index class_of t) t → IsClassOf b.dag b.limits new (slice_index class_of t) t
    reclass t is =
        let k = each (slice_index class_of t) is.class is.is_there in
        record {
          class = k.class;
          is_there = k.is_there;
          has_task = subst (λ (u : ℕ). u < length b.dag.tasks) (sym k.same_task) is.has_task;
          same_pool = ap (λ (u : ℕ). (demand_of b.limits u).pool) k.same_task ∙ is.same_pool;
          as_many = ap (λ (u : ℕ). (demand_of b.limits u).slots) k.same_task ∙ is.as_many;
        }

    at_one : (j : ℕ) (d : Waits) → slice_get new j ≡ Some d → (c : Waits) → slice_get old j ≡ Some c → KeepsWaiting (moved b (Event.Tick o)) weights class_of j d
    at_one j d h c there =
        let k = each j c there in
        let both : Some k.class ≡ Some d = sym k.is_there ∙ h in
        let same : k.class ≡ d = cc in
        subst (λ (w : Waits). KeepsWaiting (moved b (Event.Tick o)) weights class_of j w) same
        (subst (λ (n : Backfill). KeepsWaiting n weights class_of j k.class) at (k.keeps class_of b able at kept.replayed (kept.kept j c there)))

-- as many in the place of all
pub whole : {X : Type 0} → (n : ℕ) (xs ys : List X) → length xs ≡ n → length ys ≡ n → take n (xs ++ drop (length xs) ys) ≡ xs
whole zero [] ys e f = refl
whole zero (x ∷ xs) ys e f = absurd (omega (arith, e))
whole (suc n) [] ys e f = absurd (omega (arith, e))
whole (suc n) (x ∷ xs) [] e f = absurd (omega (arith, f))
whole (suc n) (x ∷ xs) (y ∷ ys) e f = ap (λ (zs : List _). x ∷ zs) (whole n xs ys (omega (arith, e)) (omega (arith, f)))

-- ---- room

-- a class with the same instances is kept alike
alike : (b : Backfill) (weights class_of : List ℕ) (j : ℕ) (c d : Waits) → d.batches.items ≡ c.batches.items → d.delays.items ≡ c.delays.items → KeepsWaiting b weights class_of j c → KeepsWaiting b weights class_of j d
alike b weights class_of j c d e f keeps = record {
  holds = record {
    batches = λ x h. keeps.holds.batches x (subst (λ (xs : List Batch). Contains xs x) e h);
    ready = λ k t i own r. subst (λ (xs : List Batch). HasBatch xs k t i) (sym e) (keeps.holds.ready k t i own r);
    delays = λ x h. keeps.holds.delays x (subst (λ (xs : List Delay). Contains xs x) f h);
    delayed = λ k t i m own y. subst (λ (xs : List Delay). Contains xs (delay_of k t i m)) (sym f) (keeps.holds.delayed k t i m own y);
  };
  live = subst (λ (xs : List Batch). IsLive b xs) (sym e) keeps.live;
}

pub one_alike : (b : Backfill) (weights class_of : List ℕ) (classes : List Waits) (j : ℕ) (old new : Waits) → slice_get classes j ≡ Some old → new.task ≡ old.task → new.batches.items ≡ old.batches.items → new.delays.items ≡ old.delays.items →
    AreKept b weights class_of classes → AreKept b weights class_of (slice_set classes j new)
one_alike b weights class_of classes j old new there task e f kept = record {
  replayed = kept.replayed;
  weighted = kept.weighted;
  one_each = kept.one_each;
  classed = λ t l. reclassed b.dag b.limits classes j old new there task (slice_index class_of t) t (kept.classed t l);
  kept = λ i c h. elim (set_cases classes j new i c h) [
    | inl p ↦ subst₂ (λ (a : ℕ) (d : Waits). KeepsWaiting b weights class_of a d) (sym p.0) (sym p.1) (alike b weights class_of j old new e f (kept.kept j old there))
    | inr q ↦ kept.kept i c q.1
  ];
}

-- the class that was given room has room
pub room_there : (classes : List Waits) (class_of : List ℕ) (t j : ℕ) (old new : Waits) → slice_get classes j ≡ Some old → j ≡ slice_index class_of t → HasRoom new → (c : Waits) → slice_get (slice_set classes j new) (slice_index class_of t) ≡ Some c → HasRoom c
room_there classes class_of t j old new there is room c h =
    let both : Some new ≡ Some c = sym (set_there classes j old new there) ∙ (ap (slice_get (slice_set classes j new)) is ∙ h) in
    let same : new ≡ c = cc in
    subst HasRoom same room

pub when_ok : {T E : Type 0} → (r : Result T E) (P Q : Type 0) → (P → Q) → OnOk r P → OnOk r Q
when_ok (Ok x) P Q f p = f p
when_ok (Err e) P Q f p = p
