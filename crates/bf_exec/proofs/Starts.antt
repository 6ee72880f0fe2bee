-- The queues and seats of several lanes.
use Rattle.std.proofs.Common.{◌≡◌, ◌<◌, ◌++◌, ◌∷◌, ℕ, zero, suc, List, [], length, drop, get_or, sym, subst, arith}
use Rattle.bf_lane.specs.declared.queues.Queues.{Queues}
use Rattle.bf_lane.specs.declared.queues.Seats.{Seats}
use Rattle.bf_lane.specs.Open.{IsFresh, Scheduled, scheduled}
use Rattle.bf_exec.specs.inner.Accounts.{AreUnused}
use Rattle.bf_exec.specs.inner.Starting.{AreFresh}

module _ {K : Type 0} where
  fresh_more : (qs : List (Queues K)) (ss : List (Seats K)) (q : Queues K) (s : Seats K) → AreFresh qs ss → IsFresh q s → AreFresh (qs ++ q ∷ []) (ss ++ s ∷ [])
  fresh_more [] [] q s h f = (f, tt)
  fresh_more [] (t ∷ ss) q s h f = absurd h
  fresh_more (r ∷ qs) [] q s h f = absurd h
  fresh_more (r ∷ qs) (t ∷ ss) q s h f = (h.0, fresh_more qs ss q s h.1 f)

  -- a lane more, for which room was made
  pub fresh_pushed : (qs room qs' : List (Queues K)) (ss space ss' : List (Seats K)) (q : Queues K) (s : Seats K) → room ≡ qs → qs' ≡ room ++ q ∷ [] → space ≡ ss → ss' ≡ space ++ s ∷ [] → AreFresh qs ss → IsFresh q s →
      AreFresh qs' ss'
  fresh_pushed qs room qs' ss space ss' q s rooms eq spaces es h f =
      let before : AreFresh room space = subst (λ (p : List (Queues K) × List (Seats K)). AreFresh p.0 p.1) (λ i. (sym rooms i, sym spaces i)) h in
      subst (λ (p : List (Queues K) × List (Seats K)). AreFresh p.0 p.1) (λ i. (sym eq i, sym es i)) (fresh_more room space q s before f)

  pub fresh_at : (qs : List (Queues K)) (at : ℕ) (s : Seats K) (ss : List (Seats K)) → AreFresh (drop at qs) (s ∷ ss)
      → (at < length qs) × ((q : Queues K) → q ≡ get_or qs at q → IsFresh q s) × AreFresh (drop (suc at) qs) ss
  fresh_at [] zero s ss h = absurd h
  fresh_at [] (suc at) s ss h = absurd h
  fresh_at (q ∷ qs) zero s ss h = (omega arith, (λ r e. subst (λ (x : Queues K). IsFresh x s) (sym e) h.0), h.1)
  fresh_at (q ∷ qs) (suc at) s ss h = let k = fresh_at qs at s ss h in (omega (arith, k.0), k.1, k.2)

-- one more lane that nothing has gone over
pub unused_pushed : (lanes next : List Scheduled) (lane : Scheduled) → next ≡ lanes ++ lane ∷ [] → lane ≡ scheduled [] [] → AreUnused lanes → AreUnused next
unused_pushed lanes next lane is fresh none = subst AreUnused (sym is) (more lanes none)
  where
    more : (ls : List Scheduled) → AreUnused ls → AreUnused (ls ++ lane ∷ [])
    more [] h = (fresh, tt)
    more (l ∷ ls) h = (h.0, more ls h.1)
