-- The counters of pools beside what a state occupies.
use Rattle.std.proofs.Common.{◌≡◌, ◌≢◌, ◌≤◌, ◌+◌, ◌-◌, ◌==◌, inl, inr, ℕ, Bool, true, false, if◌then◌else◌, slice_index_or, refl, sym, ap, ◌∙◌, arith}
use Rattle.std.proofs.lemmas.Bool.Decides.{eqb_tells, nat_tests}
use Rattle.bf_pool.specs.Slots.{Slots, occupied_of, size_of, HasOccupied}
use Rattle.bf_core.specs.Terms.{Limits, State, demand_of, pool_size}
use Rattle.bf_core.specs.Events.{occupied}
use Rattle.bf_core.proofs.Pools.{takes, eq_from}

-- the counter of the task's pool, changed by what the task takes, and the others as they were
changed : (limits : Limits) (pools new : Slots) (t v : ℕ) → HasOccupied pools (demand_of limits t).pool v new → (held more : ℕ → ℕ) → ((q : ℕ) → occupied_of pools q ≡ held q) →
    v ≡ more (demand_of limits t).pool → ((q : ℕ) → q ≢ (demand_of limits t).pool → more q ≡ held q) →
    (q : ℕ) → occupied_of new q ≡ more q
changed limits pools new t v is held more are here others q = elim (eqb_tells q (demand_of limits t).pool) [
  | inl (_, same) ↦ ap (occupied_of new) same ∙ is.here ∙ here ∙ ap more (sym same)
  | inr (_, other) ↦ is.elsewhere q other ∙ are q ∙ sym (others q other)
]

takes_here : (limits : Limits) (t : ℕ) → takes limits (demand_of limits t).pool t ≡ (demand_of limits t).slots
unfolding takes
takes_here limits t = let e : ((demand_of limits t).pool == (demand_of limits t).pool) ≡ true = grind (arith, nat_tests) in rw e

takes_there : (limits : Limits) (t q : ℕ) → q ≢ (demand_of limits t).pool → takes limits q t ≡ 0
unfolding takes
takes_there limits t q n = go ((demand_of limits t).pool == q) refl
  where
    go : (b : Bool) → ((demand_of limits t).pool == q) ≡ b → (if b then (demand_of limits t).slots else 0) ≡ 0
    go true e = absurd (n (sym (eq_from _ _ e)))
    go false e = refl

-- after slots are taken for a try that begins
pub taken : (limits : Limits) (pools new : Slots) (s after : State) (t : ℕ) → HasOccupied pools (demand_of limits t).pool (occupied_of pools (demand_of limits t).pool + (demand_of limits t).slots) new →
    ((q : ℕ) → occupied_of pools q ≡ occupied limits s q) → ((q : ℕ) → occupied limits after q ≡ occupied limits s q + takes limits q t) →
    (q : ℕ) → occupied_of new q ≡ occupied limits after q
taken limits pools new s after t is held more =
    changed limits pools new t _ is (λ q. occupied limits s q) (λ q. occupied limits after q) held
    (let e = more (demand_of limits t).pool in let h = held (demand_of limits t).pool in let k = takes_here limits t in omega (arith, e, h, k))
    (λ q n. let e = more q in let k = takes_there limits t q n in omega (arith, e, k))

-- after slots are given back by a try that ends
pub given_back : (limits : Limits) (pools new : Slots) (s after : State) (t : ℕ) → HasOccupied pools (demand_of limits t).pool (occupied_of pools (demand_of limits t).pool - (demand_of limits t).slots) new →
    ((q : ℕ) → occupied_of pools q ≡ occupied limits s q) → ((q : ℕ) → occupied limits after q + takes limits q t ≡ occupied limits s q) →
    (q : ℕ) → occupied_of new q ≡ occupied limits after q
given_back limits pools new s after t is held less =
    changed limits pools new t _ is (λ q. occupied limits s q) (λ q. occupied limits after q) held
    (let e = less (demand_of limits t).pool in let h = held (demand_of limits t).pool in let k = takes_here limits t in omega (arith, e, h, k))
    (λ q n. let e = less q in let k = takes_there limits t q n in omega (arith, e, k))

-- the slots of a try that ends are held
pub slots_held : (limits : Limits) (pools : Slots) (s after : State) (t : ℕ) → ((q : ℕ) → occupied_of pools q ≡ occupied limits s q) → ((q : ℕ) → occupied limits after q + takes limits q t ≡ occupied limits s q) →
    (demand_of limits t).slots ≤ occupied_of pools (demand_of limits t).pool
slots_held limits pools s after t held less =
    let e = less (demand_of limits t).pool in let h = held (demand_of limits t).pool in let k = takes_here limits t in omega (arith, e, h, k)

-- where the slots fit the counters, the pool has room
pub fits_room : (limits : Limits) (pools : Slots) (s : State) (t : ℕ) → pools.sizes ≡ limits.pools → ((q : ℕ) → occupied_of pools q ≡ occupied limits s q) →
    occupied_of pools (demand_of limits t).pool + (demand_of limits t).slots ≤ size_of pools (demand_of limits t).pool →
    occupied limits s (demand_of limits t).pool + (demand_of limits t).slots ≤ pool_size limits (demand_of limits t).pool
fits_room limits pools s t sizes held h =
    let e = held (demand_of limits t).pool in
    let z = ap (λ xs. slice_index_or xs (demand_of limits t).pool 0) sizes in
    omega (arith, e, h, z)
