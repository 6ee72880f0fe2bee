-- The best of the tries that may begin.
use Rattle.std.proofs.Common.{◌≡◌, ◌⊎◌, ℕ, ◌<◌, ◌≤◌, ◌+◌, nat_lt, if◌then◌else◌, Bool, true, false, List, length, get_or, Option, None, Some, refl, sym, ◌∙◌, inl, inr, arith}
use Rattle.std.proofs.lemmas.Bool.Decides.{nat_tests}
use Rattle.std.proofs.lemmas.Bool.{ltb-true}
use Rattle.bf_value.specs.declared.name.JobName.{JobName}
use Rattle.bf_plan.specs.declared.plan.Dag.{Dag}
use Rattle.bf_plan.specs.declared.plan.Limits.{Limits}
use Rattle.bf_pool.specs.Weights.{AreWeights, total_weight_of}
use Rattle.bf_try.specs.Tries.{name_of}
use Rattle.bf_core.specs.declared.event.Event.{Event}
use Rattle.bf_core.specs.declared.state.Phase.{Phase}
use Rattle.bf_core.specs.declared.state.Instance.{Instance}
use Rattle.bf_core.specs.Events.{cell_at, instance_of}
use Rattle.bf_core.specs.inner.Checks.{HasRows}
use Rattle.bf_core.specs.Cores.{Backfill, IsReplay, MayCome}
use Rattle.bf_core.proofs.Enabling.{present_there}
use Rattle.bf_waiting.specs.Choices.{IsPreferred, NameComesBefore, IsNextTry}
use Rattle.bf_rescan.specs.inner.Looks.{IsBest, IsTryAt, IsTryBefore, IsTryOf, weightier_try_of}
use Rattle.bf_waiting.specs.Standings.{instances_of}
use Rattle.bf_rescan.proofs.Present.{IsTryBelow, one_named, named_so, below_count, last_task, one_more_task, last_run, one_more_run}

-- the best of some tries is the best of others, where all that may begin of the one are of the other
pub best_of : (b : Backfill) (P Q : JobName → Type 0) → ((m : JobName) → P m → Q m) → ((m : JobName) → Q m → MayCome b (Event.Begin m) → P m) → (o : Option JobName) → IsBest b P o → IsBest b Q o
best_of b P Q there back None best = λ m q able. best m (back m q able) able
best_of b P Q there back (Some n) best = (there n best.0, best.1, λ m q able. best.2 m (back m q able) able)

lt_no : (a b : ℕ) → nat_lt a b ≡ false → b ≤ a
lt_no a b e = grind (arith, nat_tests, e)

split : (a b : ℕ) → b ≤ a → (b < a) ⊎ (b ≡ a)
split a b h = grind arith

-- what is preferred to n is preferred to what n is preferred to, where n weighs less
heavier : (dag : Dag) (limits : Limits) (f b m : JobName) → total_weight_of dag limits b.task < total_weight_of dag limits f.task → IsPreferred dag limits b m → IsPreferred dag limits f m
heavier dag limits f b m more h = inl (elim h [ inl l ↦ omega (arith, l, more) | inr e ↦ omega (arith, e.0, more) ])

-- b weighs no less than f, and comes before m, to which f is preferred
lighter : (dag : Dag) (limits : Limits) (b f m : JobName) → total_weight_of dag limits f.task ≤ total_weight_of dag limits b.task → NameComesBefore dag b m → IsPreferred dag limits f m → IsPreferred dag limits b m
lighter dag limits b f m no_more before h = go (elim h [ inl l ↦ omega (arith, l, no_more) | inr e ↦ omega (arith, e.0, no_more) ])
  where
    go : total_weight_of dag limits m.task ≤ total_weight_of dag limits b.task → IsPreferred dag limits b m
    go l = elim (split _ _ l) [ inl x ↦ inl x | inr e ↦ inr (e, before) ]

module _ (b : Backfill) (rows : HasRows b.dag b.state) (weights : List ℕ) (are : AreWeights b.dag b.limits weights) where
  weighs : (n : JobName) → MayCome b (Event.Begin n) → get_or weights n.task 0 ≡ total_weight_of b.dag b.limits n.task
  weighs n able = are n.task (present_there b.dag b.state rows n Phase.Waiting able.0.0).1

  -- the better of the best of some tries and the best of later ones is the best of them all
  pub best_joined : (P Q : JobName → Type 0) → ((m n : JobName) → P m → Q n → NameComesBefore b.dag m n) → (best found : Option JobName) → IsBest b P best → IsBest b Q found →
      IsBest b (λ m. P m ⊎ Q m) (weightier_try_of weights best found)
  best_joined P Q later None None none nor = λ m h able. elim h [ inl p ↦ none m p able | inr q ↦ nor m q able ]
  best_joined P Q later None (Some f) none is = (inr is.0, is.1, λ m h able. elim h [ inl p ↦ absurd (none m p able) | inr q ↦ is.2 m q able ])
  best_joined P Q later (Some a) None is nor = (inl is.0, is.1, λ m h able. elim h [ inl p ↦ is.2 m p able | inr q ↦ absurd (nor m q able) ])
  best_joined P Q later (Some a) (Some f) one two = go (nat_lt (get_or weights a.task 0) (get_or weights f.task 0)) refl
    where
      go : (x : Bool) → nat_lt (get_or weights a.task 0) (get_or weights f.task 0) ≡ x → IsBest b (λ m. P m ⊎ Q m) (if x then Some f else Some a)
      go true e =
          let more : total_weight_of b.dag b.limits a.task < total_weight_of b.dag b.limits f.task = omega (arith, ltb-true _ _ e, weighs a one.1, weighs f two.1) in
          (inr two.0, two.1, λ m h able. elim h [ inl p ↦ heavier b.dag b.limits f a m more (one.2 m p able) | inr q ↦ two.2 m q able ])
      go false e =
          let less : total_weight_of b.dag b.limits f.task ≤ total_weight_of b.dag b.limits a.task = omega (arith, lt_no _ _ e, weighs a one.1, weighs f two.1) in
          (inl one.0, one.1, λ m h able. elim h [ inl p ↦ one.2 m p able | inr q ↦ lighter b.dag b.limits a f m less (later a m one.0 q) (two.2 m q able) ])

  task_later : (k t : ℕ) (m n : JobName) → IsTryBefore k t m → IsTryOf k t n → NameComesBefore b.dag m n
  task_later k t m n h e = elim h [ inl l ↦ inl (omega (arith, l, e.0)) | inr x ↦ inr (x.0 ∙ sym e.0, inl (omega (arith, x.1, e.1))) ]

  -- one more task
  pub best_more : (k t : ℕ) (best found : Option JobName) → IsBest b (IsTryBefore k t) best → IsBest b (IsTryOf k t) found → IsBest b (IsTryBefore k (t + 1)) (weightier_try_of weights best found)
  best_more k t best found one two =
      best_of b (λ m. IsTryBefore k t m ⊎ IsTryOf k t m) (IsTryBefore k (t + 1)) (one_more_task k t) (λ m h able. last_task k t m h) _
      (best_joined (IsTryBefore k t) (IsTryOf k t) (task_later k t) best found one two)

-- after the last task the run is passed
pub run_passed : (b : Backfill) → HasRows b.dag b.state → (k t : ℕ) → length b.dag.tasks ≤ t → (best : Option JobName) → IsBest b (IsTryBefore k t) best → IsBest b (IsTryBefore (k + 1) 0) best
run_passed b rows k t end best is =
    best_of b (IsTryBefore k t) (IsTryBefore (k + 1) 0) (one_more_run k t)
    (λ m h able. last_run k t (length b.dag.tasks) end m (present_there b.dag b.state rows m Phase.Waiting able.0.0).1 h) best is

-- after the last run all are passed
pub all_passed : (b : Backfill) → HasRows b.dag b.state → (k : ℕ) → length b.state.runs ≤ k → (best : Option JobName) → IsBest b (IsTryBefore k 0) best → IsNextTry b best
all_passed b rows k end None best = λ m able. let there : _ = present_there b.dag b.state rows m Phase.Waiting able.0.0 in best m (inl (omega (arith, there.0, end))) able
all_passed b rows k end (Some n) best = record { may_begin = best.1; first = λ m able. let there : _ = present_there b.dag b.state rows m Phase.Waiting able.0.0 in best.2 m (inl (omega (arith, there.0, end))) able }

pub none_before : (b : Backfill) → IsBest b (IsTryBefore 0 0) None
none_before b = λ m h able. elim h [ inl l ↦ omega (arith, l) | inr e ↦ omega (arith, e.1) ]

-- ---- the tries of a task

module _ (b : Backfill) (replayed : IsReplay b) (k t i : ℕ) (x : Instance) (is_held : instance_of (cell_at b.state k t) i ≡ Some x) (n : JobName) (named : n ≡ name_of b.dag k t i x.attempt) where
  pub one_begins : MayCome b (Event.Begin n) → IsBest b (IsTryAt b.dag k t i) (Some n)
  one_begins able = (
    rw named (one_named b replayed k t i x is_held),
    able,
    λ m is may. let same : m ≡ n = named_so b replayed k t i x is_held m is Phase.Waiting may.0.0 ∙ sym named in rw same (inr (refl, inr (refl, inr (refl, omega arith)))),
  )

  pub none_begins : ¬ (MayCome b (Event.Begin n)) → IsBest b (IsTryAt b.dag k t i) None
  none_begins not_able = λ m is may. let same : m ≡ n = named_so b replayed k t i x is_held m is Phase.Waiting may.0.0 ∙ sym named in not_able (rw same at may)

pub none_of : (b : Backfill) (k t i : ℕ) → length (instances_of (cell_at b.state k t)) ≤ i → IsBest b (IsTryBelow b.dag k t i) None → IsBest b (IsTryOf k t) None
none_of b k t i end none = λ m is may. let x : _ = below_count b.dag b.state k t m is Phase.Waiting may.0.0 in none m (is, omega (arith, x.1, end)) may
