-- The least of the later moments for which tries wait.
use Rattle.std.proofs.Common.{◌≡◌, ◌⊎◌, ℕ, ◌≤◌, ◌+◌, ℤ, ◌≤ℤ◌, ◌<ℤ◌, length, Option, None, Some, IfSome, IfNone, refl, sym, ap, ◌∙◌, subst, inl, inr, arith}
use Rattle.std.proofs.lemmas.Int.{ints, by_lt_z}
use Rattle.std.specs.FinMap as map
use Rattle.bf_value.specs.declared.name.JobName.{JobName}
use Rattle.bf_try.specs.Tries.{name_of}
use Rattle.bf_core.specs.declared.event.Event.{Event}
use Rattle.bf_core.specs.declared.state.Phase.{Phase}
use Rattle.bf_core.specs.declared.state.Instance.{Instance}
use Rattle.bf_core.specs.Events.{cell_at, instance_of}
use Rattle.bf_core.specs.inner.Checks.{HasRows}
use Rattle.bf_core.specs.Clocks.{IsReached, IsTimely}
use Rattle.bf_core.specs.Cores.{Backfill, IsReplay, MayCome, WaitsLater}
use Rattle.bf_core.proofs.Enabling.{present_there}
use Rattle.bf_waiting.proofs.Soonest.{min_left, min_right}
use Rattle.bf_waiting.specs.Choices.{IsNextMoment}
use Rattle.bf_rescan.specs.inner.Looks.{IsLeast, IsSoonest, IsTryAt, IsTryBefore, IsTryOf}
use Rattle.bf_waiting.specs.Looks.{earlier_moment_of}
use Rattle.bf_waiting.specs.Standings.{instances_of}
use Rattle.bf_core.proofs.Named.{present_named}
use Rattle.bf_rescan.proofs.Present.{IsTryBelow, one_named, named_so, phase_at, below_count, last_place, one_more_place, last_task, one_more_task, last_run, one_more_run}

-- the soonest of some tries is the soonest of others, where all that wait later of the one are of the other
soonest_of : (b : Backfill) (P Q : JobName → Type 0) → ((n : JobName) → P n → Q n) → ((n : JobName) → Q n → WaitsLater b n → P n) → (o : Option ℤ) → IsSoonest b P o → IsSoonest b Q o
soonest_of b P Q there back None is = λ n q waits. is n (back n q waits) waits
soonest_of b P Q there back (Some m) is = record { name = is.name; is_one = there is.name is.is_one; waits = is.waits; is_moment = is.is_moment; least = λ n q w. is.least n (back n q w) w }

-- the sooner of the soonest of some tries and the soonest of others is the soonest of them all
soonest_joined : (b : Backfill) (P Q : JobName → Type 0) (one two : Option ℤ) → IsSoonest b P one → IsSoonest b Q two → IsSoonest b (λ n. P n ⊎ Q n) (earlier_moment_of one two)
soonest_joined b P Q None None none nor = λ n h waits. elim h [ inl p ↦ none n p waits | inr q ↦ nor n q waits ]
soonest_joined b P Q None (Some f) none is = record {
  name = is.name;
  is_one = inr is.is_one;
  waits = is.waits;
  is_moment = is.is_moment;
  least = λ n h w. elim h [ inl p ↦ absurd (none n p w) | inr q ↦ is.least n q w ];
}
soonest_joined b P Q (Some a) None is nor = record {
  name = is.name;
  is_one = inl is.is_one;
  waits = is.waits;
  is_moment = is.is_moment;
  least = λ n h w. elim h [ inl p ↦ is.least n p w | inr q ↦ absurd (nor n q w) ];
}
soonest_joined b P Q (Some a) (Some f) one two = by_lt_z f a
    (λ (l : f <ℤ a). subst (IsLeast b (λ n. P n ⊎ Q n)) (sym (min_right a f l)) (record {
      name = two.name;
      is_one = inr two.is_one;
      waits = two.waits;
      is_moment = two.is_moment;
      least = λ n h w. elim h [ inl p ↦ (let x : a ≤ℤ w.moment = one.least n p w in omega (arith, ints, x, l)) | inr q ↦ two.least n q w ];
    }))
    (λ (l : a ≤ℤ f). subst (IsLeast b (λ n. P n ⊎ Q n)) (sym (min_left a f l)) (record {
      name = one.name;
      is_one = inl one.is_one;
      waits = one.waits;
      is_moment = one.is_moment;
      least = λ n h w. elim h [ inl p ↦ one.least n p w | inr q ↦ (let x : f ≤ℤ w.moment = two.least n q w in omega (arith, ints, x, l)) ];
    }))

-- one more place
pub place_more : (b : Backfill) (k t i : ℕ) (one two : Option ℤ) → IsSoonest b (IsTryBelow b.dag k t i) one → IsSoonest b (IsTryAt b.dag k t i) two → IsSoonest b (IsTryBelow b.dag k t (i + 1)) (earlier_moment_of one two)
place_more b k t i one two is here =
    soonest_of b (λ n. IsTryBelow b.dag k t i n ⊎ IsTryAt b.dag k t i n) (IsTryBelow b.dag k t (i + 1)) (one_more_place b.dag k t i) (λ n h w. last_place b.dag k t i n h) _
    (soonest_joined b (IsTryBelow b.dag k t i) (IsTryAt b.dag k t i) one two is here)

-- after the last place the task is passed
pub task_passed : (b : Backfill) (k t i : ℕ) → i ≡ length (instances_of (cell_at b.state k t)) → (one : Option ℤ) → IsSoonest b (IsTryBelow b.dag k t i) one → IsSoonest b (IsTryOf k t) one
task_passed b k t i end one is =
    soonest_of b (IsTryBelow b.dag k t i) (IsTryOf k t) (λ n h. h.0)
    (λ n h w. let x : _ = below_count b.dag b.state k t n h Phase.Waiting w.waits in (h, omega (arith, x.1, end))) one is

-- one more task
pub task_more : (b : Backfill) (k t : ℕ) (one two : Option ℤ) → IsSoonest b (IsTryBefore k t) one → IsSoonest b (IsTryOf k t) two → IsSoonest b (IsTryBefore k (t + 1)) (earlier_moment_of one two)
task_more b k t one two is here =
    soonest_of b (λ n. IsTryBefore k t n ⊎ IsTryOf k t n) (IsTryBefore k (t + 1)) (one_more_task k t) (λ n h w. last_task k t n h) _
    (soonest_joined b (IsTryBefore k t) (IsTryOf k t) one two is here)

-- after the last task the run is passed
pub run_passed : (b : Backfill) → HasRows b.dag b.state → (k t : ℕ) → length b.dag.tasks ≤ t → (one : Option ℤ) → IsSoonest b (IsTryBefore k t) one → IsSoonest b (IsTryBefore (k + 1) 0) one
run_passed b rows k t end one is =
    soonest_of b (IsTryBefore k t) (IsTryBefore (k + 1) 0) (one_more_run k t)
    (λ n h w. last_run k t (length b.dag.tasks) end n (present_there b.dag b.state rows n Phase.Waiting w.waits).1 h) one is

-- after the last run all are passed
pub all_passed : (b : Backfill) → HasRows b.dag b.state → (k : ℕ) → length b.state.runs ≤ k → (one : Option ℤ) → IsSoonest b (IsTryBefore k 0) one → IsNextMoment b one
all_passed b rows k end None none = λ n w. let there : _ = present_there b.dag b.state rows n Phase.Waiting w.waits in none n (inl (omega (arith, there.0, end))) w
all_passed b rows k end (Some m) is = record {
  name = is.name;
  waits = is.waits;
  is_moment = is.is_moment;
  least = λ n w. let there : _ = present_there b.dag b.state rows n Phase.Waiting w.waits in is.least n (inl (omega (arith, there.0, end))) w;
}

pub none_below : (b : Backfill) (k t : ℕ) → IsSoonest b (IsTryBelow b.dag k t 0) None
none_below b k t = λ n h w. omega (arith, h.1)

pub none_before : (b : Backfill) → IsSoonest b (IsTryBefore 0 0) None
none_before b = λ n h w. elim h [ inl l ↦ omega (arith, l) | inr e ↦ omega (arith, e.1) ]

-- ---- the try of an instance

-- one more place, which the try at it is
pub place_next : (b : Backfill) (k t i : ℕ) (one two three : Option ℤ) → three ≡ earlier_moment_of one two → IsSoonest b (IsTryBelow b.dag k t i) one → IsSoonest b (IsTryAt b.dag k t i) two → IsSoonest b (IsTryBelow b.dag k t (i + 1)) three
place_next b k t i one two three same is here = rw same (place_more b k t i one two is here)

module _ (b : Backfill) (replayed : IsReplay b) (k t i : ℕ) (x : Instance) (is_held : instance_of (cell_at b.state k t) i ≡ Some x) where
  -- what doesn't wait waits for no moment
  pub waits_not : (x.phase ≡ Phase.Waiting → ⊥) → IsSoonest b (IsTryAt b.dag k t i) None
  waits_not not_waiting = λ n is w. not_waiting (phase_at b replayed k t i x is_held n is Phase.Waiting w.waits)

  -- the moment is behind, or there is none
  pub is_reached : (n : JobName) → n ≡ name_of b.dag k t i x.attempt → IsTimely b.clock (Event.Begin n) → IsSoonest b (IsTryAt b.dag k t i) None
  is_reached n named timely = λ m is w.
      let same : m ≡ n = named_so b replayed k t i x is_held m is Phase.Waiting w.waits ∙ sym named in
      let moment : map.get b.clock.moments n ≡ Some w.moment = ap (map.get b.clock.moments) (sym same) ∙ w.is_moment in
      let reached : w.moment ≤ℤ b.clock.time = subst (IsReached b.clock.time) moment timely in
      omega (arith, ints, reached, w.is_later)

  -- the moment is still to come
  pub comes_later : (n : JobName) (m : ℤ) → n ≡ name_of b.dag k t i x.attempt → x.phase ≡ Phase.Waiting → map.get b.clock.moments n ≡ Some m → b.clock.time <ℤ m → IsSoonest b (IsTryAt b.dag k t i) (Some m)
  comes_later n m named waiting moment later = record {
    name = name_of b.dag k t i x.attempt;
    is_one = one_named b replayed k t i x is_held;
    waits = record { waits = present_named b replayed k t i x is_held Phase.Waiting waiting; moment = m; is_moment = ap (map.get b.clock.moments) (sym named) ∙ moment; is_later = later };
    is_moment = refl;
    least = λ o is w.
        let same : o ≡ n = named_so b replayed k t i x is_held o is Phase.Waiting w.waits ∙ sym named in
        let twice : Some m ≡ Some w.moment = sym moment ∙ (ap (map.get b.clock.moments) (sym same) ∙ w.is_moment) in
        let one : m ≡ w.moment = cc in
        omega (arith, ints, one);
  }

  -- so it is with what a core says of the moment
  pub said : (n : JobName) (o : Option ℤ) → n ≡ name_of b.dag k t i x.attempt → x.phase ≡ Phase.Waiting → IfSome o (λ m. map.get b.clock.moments n ≡ Some m) → IfSome o (λ m. MayCome b (Event.Tick m)) →
      IfNone o (IsTimely b.clock (Event.Begin n)) → IsSoonest b (IsTryAt b.dag k t i) o
  said n None named waiting moment may none = is_reached n named none
  said n (Some m) named waiting moment may none = comes_later n m named waiting moment may.1.0
