-- What the clock keeps, and what a list of timely events leads to.
use Rattle.std.proofs.Common.{◌≡◌, ℕ, pred, ◌++◌, Bool, true, false, not, cond, List, [], ◌∷◌, Option, None, Some, IsSome, ℤ, pos, ◌+ℤ◌, ◌≤ℤ◌, refl, sym, ap, ◌∙◌, arith}
use Rattle.std.specs.Prelude.{int_lt}
use Rattle.std.proofs.lemmas.Int.{ints, clamps}
use Rattle.std.specs.Int.{int_min}
use Rattle.std.specs.FinMap as map
use Rattle.std.specs.Ordering.{eq_by_cmp}
use Rattle.std.specs.Cmp.{eq_by_cmp_equiv}
use Rattle.bf_value.specs.inner.Names.{name_cmp_total, name_cmp-IsAntisymmetric}
use Rattle.bf_try.proofs.Maps.{same_name}
use Rattle.bf_core.specs.Terms.{Clock, Dag, Entry, Event, JobName, Ledger, Limits, State, name_cmp, demand_of, task_of}
use Rattle.bf_core.specs.Events.{after, entry_in, is_made_again}
use Rattle.bf_core.specs.Clocks.{AreTimely, IsTimely, KeepsTime, clock_after, clock_of, after_end, last_moment, next_try_of, start_clock}

-- ---- names

next_one : (a b : JobName) → next_try_of a ≡ next_try_of b → a ≡ b
next_one a b e =
    let run : a.run ≡ b.run = ap (λ (n : JobName). n.run) e in
    let task : a.task ≡ b.task = ap (λ (n : JobName). n.task) e in
    let index : a.index ≡ b.index = ap (λ (n : JobName). n.index) e in
    let attempt : a.attempt ≡ b.attempt = ap (λ (n : JobName). pred n.attempt) e in
    λ i. record { run = run i; task = task i; index = index i; attempt = attempt i }

-- ---- maps

some_kept : {X : Type 0} → (m : map.FinMap name_cmp X) (k : JobName) (v : X) (q : JobName) → IsSome (map.get m q) → IsSome (map.get (map.insert m k v) q)
some_kept m k v q h = rw (map.get-insert name_cmp_total m k v q) (go (eq_by_cmp name_cmp q k))
  where
    go : (b : Bool) → IsSome (cond b (Some v) (map.get m q))
    go true = refl
    go false = h

some_own : {X : Type 0} → (m : map.FinMap name_cmp X) (k : JobName) (v : X) (q : JobName) → q ≡ k → IsSome (map.get (map.insert m k v) q)
some_own m k v q e = rw (map.get-insert name_cmp_total m k v q) (go (eq_by_cmp name_cmp q k) refl)
  where
    go : (b : Bool) → eq_by_cmp name_cmp q k ≡ b → IsSome (cond b (Some v) (map.get m q))
    go true f = refl
    go false f = absurd (not_same q k e f)
      where
        not_same : (a b : JobName) → a ≡ b → eq_by_cmp name_cmp a b ≡ false → ⊥
        not_same a b e f = let t : eq_by_cmp name_cmp a a ≡ true = (eq_by_cmp_equiv name_cmp_total).refl a in let u : eq_by_cmp name_cmp a b ≡ true = rw (← e) t in cc

-- what is noted under a new name and forgotten leaves the map as it was
noted_forgotten : {X : Type 0} → (m : map.FinMap name_cmp X) (k : JobName) (v : X) → map.get m k ≡ None → map.remove (map.insert m k v) k ≡ m
noted_forgotten m k v none = map.same_map name_cmp_total name_cmp-IsAntisymmetric _ _ (λ q. map.get-remove name_cmp_total (map.insert m k v) k q ∙ go q (eq_by_cmp name_cmp q k) refl)
  where
    go : (q : JobName) (b : Bool) → eq_by_cmp name_cmp q k ≡ b → cond b None (map.get (map.insert m k v) q) ≡ map.get m q
    go q true e = sym (ap (λ n. map.get m n) (same_name q k e) ∙ none)
    go q false e = map.get-insert name_cmp_total m k v q ∙ ap (λ b. cond b (Some v) (map.get m q)) e

none_forgotten : {X : Type 0} → (m : map.FinMap name_cmp X) (k : JobName) → map.get m k ≡ None → map.remove m k ≡ m
none_forgotten m k none = map.same_map name_cmp_total name_cmp-IsAntisymmetric _ _ (λ q. map.get-remove name_cmp_total m k q ∙ go q (eq_by_cmp name_cmp q k) refl)
  where
    go : (q : JobName) (b : Bool) → eq_by_cmp name_cmp q k ≡ b → cond b None (map.get m q) ≡ map.get m q
    go q true e = sym (ap (λ n. map.get m n) (same_name q k e) ∙ none)
    go q false e = refl

-- a clock whose next try is forgotten again is the clock that it was
pub forgotten : (c : Clock) (next : JobName) (again : Bool) (delay : ℕ) → map.get c.moments next ≡ None →
    ◌≡◌ {A = Clock} (record { time = (after_end c next again delay).time; moments = map.remove (after_end c next again delay).moments next }) c
unfolding after_end
forgotten c next false delay none = λ i. record { time = c.time; moments = none_forgotten c.moments next none i }
forgotten c next true delay none = go (int_lt c.time (int_min (c.time +ℤ pos delay) last_moment)) refl
  where
    at : Bool → Clock
    at b = cond b (record { time = c.time; moments = map.insert c.moments next (int_min (c.time +ℤ pos delay) last_moment) }) c

    go : (b : Bool) → int_lt c.time (int_min (c.time +ℤ pos delay) last_moment) ≡ b → ◌≡◌ {A = Clock} (record { time = (at b).time; moments = map.remove (at b).moments next }) c
    go true e = λ i. record { time = c.time; moments = noted_forgotten c.moments next (int_min (c.time +ℤ pos delay) last_moment) none i }
    go false e = λ i. record { time = c.time; moments = none_forgotten c.moments next none i }

-- ---- what a clock keeps

at_most : (x y : ℤ) → int_min x y ≤ℤ y
at_most x y = omega (arith, ints, clamps)

module _ (c : Clock) (look : Ledger) (is : KeepsTime c look) where
  -- the next try of one that has not ended has no moment
  pub unawaited : (n : JobName) → look n ≡ None → map.get c.moments (next_try_of n) ≡ None
  unawaited n none = go (map.get c.moments (next_try_of n)) refl
    where
      go : (o : Option ℤ) → map.get c.moments (next_try_of n) ≡ o → o ≡ None
      go None e = refl
      go (Some m) e = absurd (let some : IsSome (look n) = is.after_one n (rw e refl) in let no : false ≡ true = rw none at some in cc)

  begin_keeps : (n : JobName) → KeepsTime (record { time = c.time; moments = map.remove c.moments n }) look
  begin_keeps n = record {
    begun = is.begun;
    within = is.within;
    bounded = λ q m h. go_bounded q m (eq_by_cmp name_cmp q n) (rw (map.get-remove name_cmp_total c.moments n q) at h);
    after_one = λ q h. go_some q (eq_by_cmp name_cmp (next_try_of q) n) (rw (map.get-remove name_cmp_total c.moments n (next_try_of q)) at h);
  }
    where
      go_bounded : (q : JobName) (m : ℤ) (b : Bool) → cond b None (map.get c.moments q) ≡ Some m → m ≤ℤ last_moment
      go_bounded q m true h = cc
      go_bounded q m false h = is.bounded q m h

      go_some : (q : JobName) (b : Bool) → IsSome (cond b None (map.get c.moments (next_try_of q))) → IsSome (look q)
      go_some q true h = cc
      go_some q false h = is.after_one q h

-- the end of a try, which the ledger gets, keeps it
pub end_keeps_time : (c : Clock) (ledger : map.FinMap name_cmp Entry) → KeepsTime c (entry_in ledger) → (n : JobName) (e : Entry) (again : Bool) (delay : ℕ) →
    KeepsTime (after_end c (next_try_of n) again delay) (entry_in (map.insert ledger n e))
unfolding after_end
end_keeps_time c ledger is n e false delay = record {
  begun = is.begun;
  within = is.within;
  bounded = is.bounded;
  after_one = λ q h. some_kept ledger n e q (is.after_one q h);
}
end_keeps_time c ledger is n e true delay = go (int_lt c.time m)
  where
    m : ℤ
    m = int_min (c.time +ℤ pos delay) last_moment

    bound : (q : JobName) (o : ℤ) (b : Bool) → cond b (Some m) (map.get c.moments q) ≡ Some o → o ≤ℤ last_moment
    bound q o true h = let same : m ≡ o = cc in rw (← same) (at_most (c.time +ℤ pos delay) last_moment)
    bound q o false h = is.bounded q o h

    one : (q : JobName) (b : Bool) → eq_by_cmp name_cmp (next_try_of q) (next_try_of n) ≡ b → IsSome (cond b (Some m) (map.get c.moments (next_try_of q))) → IsSome (map.get (map.insert ledger n e) q)
    one q true f h = some_own ledger n e q (next_one q n (same_name _ _ f))
    one q false f h = some_kept ledger n e q (is.after_one q h)

    go : (b : Bool) → KeepsTime (cond b (record { time = c.time; moments = map.insert c.moments (next_try_of n) m }) c) (entry_in (map.insert ledger n e))
    go false = record { begun = is.begun; within = is.within; bounded = is.bounded; after_one = λ q h. some_kept ledger n e q (is.after_one q h) }
    go true = record {
      begun = is.begun;
      within = is.within;
      bounded = λ q o h. bound q o (eq_by_cmp name_cmp q (next_try_of n)) (rw (map.get-insert name_cmp_total c.moments (next_try_of n) m q) at h);
      after_one = λ q h. one q (eq_by_cmp name_cmp (next_try_of q) (next_try_of n)) refl (rw (map.get-insert name_cmp_total c.moments (next_try_of n) m (next_try_of q)) at h);
    }

pub keeps_time : (dag : Dag) (limits : Limits) (c : Clock) (s : State) (e : Event) → IsTimely c e → KeepsTime c (entry_in s.ledger) → KeepsTime (clock_after dag limits c e) (entry_in (after dag s e).ledger)
unfolding after
keeps_time dag limits c s Event.Open timely is = is
keeps_time dag limits c s (Event.Settle k t) timely is = is
keeps_time dag limits c s (Event.Expand k t) timely is = is
keeps_time dag limits c s (Event.Begin n) timely is = begin_keeps c (entry_in s.ledger) is n
keeps_time dag limits c s (Event.End n o) timely is = end_keeps_time c s.ledger is n _ (is_made_again (task_of dag n.task).retries n.attempt o) (demand_of limits n.task).retry_delay
keeps_time dag limits c s (Event.Close k) timely is = is
keeps_time dag limits c s (Event.Tick m) timely is = record { begun = omega (arith, ints, is.begun, timely.0); within = timely.1; bounded = is.bounded; after_one = is.after_one }

pub start_keeps_time : KeepsTime start_clock (entry_in map.empty)
start_keeps_time = record {
  begun = omega (arith, ints);
  within = omega (arith, ints);
  bounded = λ n m h. absurd (let none : map.get {R = name_cmp} (map.empty {X = ℤ}) n ≡ None = map.get-empty name_cmp n in cc);
  after_one = λ n h. absurd (let none : map.get {R = name_cmp} (map.empty {X = ℤ}) (next_try_of n) ≡ None = map.get-empty name_cmp (next_try_of n) in let no : false ≡ true = rw none at h in cc);
}

-- ---- lists of events

pub timely_more : (dag : Dag) (limits : Limits) (c : Clock) (es : List Event) (e : Event) → AreTimely dag limits c es → IsTimely (clock_of dag limits c es) e → AreTimely dag limits c (es ++ e ∷ [])
timely_more dag limits c [] e timely able = (able, tt)
timely_more dag limits c (d ∷ es) e timely able = (timely.0, timely_more dag limits (clock_after dag limits c d) es e timely.1 able)

pub clock_more : (dag : Dag) (limits : Limits) (c : Clock) (es : List Event) (e : Event) → clock_of dag limits c (es ++ e ∷ []) ≡ clock_after dag limits (clock_of dag limits c es) e
clock_more dag limits c [] e = refl
clock_more dag limits c (d ∷ es) e = clock_more dag limits (clock_after dag limits c d) es e

-- the clock without the moment of a try
pub forgets : (c : Clock) (n : JobName) (ms : map.FinMap name_cmp ℤ) → ms ≡ map.remove c.moments n → ◌≡◌ {A = Clock} (record { time = c.time; moments = ms }) (record { time = c.time; moments = map.remove c.moments n })
forgets c n ms e = λ i. record { time = c.time; moments = e i }

pub retried : (c : Clock) (next after_it : JobName) (again is_again : Bool) (delay waits : ℕ) → next ≡ after_it → again ≡ is_again → delay ≡ waits → after_end c next again delay ≡ after_end c after_it is_again waits
retried c next after_it again is_again delay waits e f g = λ i. after_end c (e i) (f i) (g i)

pub no_entry : {X : Type 0} → {o : Option X} → (IsSome o → ⊥) → o ≡ None
no_entry {o = None} never = refl
no_entry {o = Some x} never = absurd (never refl)

pub not_yes : (b : Bool) → not b ≡ true → b ≡ false
not_yes true e = cc
not_yes false e = refl

pub not_no : (b : Bool) → not b ≡ false → b ≡ true
not_no true e = refl
not_no false e = cc

-- a next try that is made, and whose moment is later, waits for it
pub waits_for : (c : Clock) (next : JobName) (again : Bool) (delay : ℕ) (m : ℤ) (ms : map.FinMap name_cmp ℤ) → again ≡ true → m ≡ int_min (c.time +ℤ pos delay) last_moment → int_lt c.time m ≡ true →
    ms ≡ map.insert c.moments next m → ◌≡◌ {A = Clock} (record { time = c.time; moments = ms }) (after_end c next again delay)
unfolding after_end
waits_for c next again delay m ms made is later noted = rw (made, ← is, later) (λ i. record { time = c.time; moments = noted i })

pub waits_not : (c : Clock) (next : JobName) (again : Bool) (delay : ℕ) (m : ℤ) → m ≡ int_min (c.time +ℤ pos delay) last_moment → int_lt c.time m ≡ false → c ≡ after_end c next again delay
unfolding after_end
waits_not c next false delay m is e = refl
waits_not c next true delay m is e = rw (← is, e) refl

pub made_not : (c : Clock) (next : JobName) (again : Bool) (delay : ℕ) → again ≡ false → c ≡ after_end c next again delay
unfolding after_end
made_not c next again delay e = rw e refl

-- what was noted is taken back
pub taken_back : (c d : Clock) (next : JobName) (again : Bool) (delay : ℕ) (ms : map.FinMap name_cmp ℤ) → d ≡ after_end c next again delay → ms ≡ map.remove d.moments next → map.get c.moments next ≡ None →
    ◌≡◌ {A = Clock} (record { time = d.time; moments = ms }) c
taken_back c d next again delay ms is less none = (λ i. record { time = (is i).time; moments = (less ∙ ap (λ (x : Clock). map.remove x.moments next) is) i }) ∙ forgotten c next again delay none
