-- Instances that a class takes up.
use Rattle.std.proofs.Common.{◌≡◌, ℕ, ◌+◌, ◌-◌, ◌<◌, ◌≤◌, ℤ, List, ◌∷◌, Contains, length, slice_get, Some, refl, sym, ap, subst, inl, inr, arith}
use Rattle.std.specs.List.Sorted.{IsPermutation}
use Rattle.std.proofs.lemmas.Option.{slice_get_within}
use Rattle.bf_core.specs.declared.state.Cell.{Cell}
use Rattle.bf_core.specs.declared.state.Instance.{Instance}
use Rattle.bf_core.specs.Cores.{Backfill}
use Rattle.bf_core.specs.Events.{cell_at, instance_of}
use Rattle.bf_core.proofs.Numbers.{below_or}
use Rattle.bf_waiting.specs.declared.batches.Batch.{Batch}
use Rattle.bf_waiting.specs.declared.delays.Delay.{Delay}
use Rattle.bf_waiting.specs.Classes.{delay_of}
use Rattle.bf_waiting.specs.inner.Classes.{batch_of, batch_to}
use Rattle.bf_waiting.specs.inner.Filling.{Before}
use Rattle.bf_waiting.specs.inner.Keeping.{Anywhere, At, HasDelayed, HasTakenUp}
use Rattle.bf_waiting.specs.Standings.{IsDelayedAt, IsReadyAt, instances_of}
use Rattle.bf_waiting.specs.inner.Standings.{Stands}
use Rattle.bf_waiting.specs.declared.instances.Standing.{Standing}
use Rattle.bf_waiting.proofs.HeapFacts.{HasGained, gained}

pub held_in : (c : Cell) (i : ℕ) (x : Instance) → instance_of c i ≡ Some x → slice_get (instances_of c) i ≡ Some x
held_in (Cell.Ran xs) i x e = e
held_in Cell.Undecided i x e = cc
held_in Cell.Blocked i x e = cc
held_in Cell.Skipped i x e = cc
held_in Cell.UpstreamFailed i x e = cc

module _ (b : Backfill) (weights : List ℕ) (k t : ℕ) (old new : List Batch) where
  -- all of them
  pub take_all : (xs : List Instance) → xs ≡ instances_of (cell_at b.state k t) → IsPermutation (batch_to weights k t (length xs - 1) ∷ old) new → HasTakenUp b weights k t Anywhere old new
  take_all xs are added = record {
    kept = more.kept;
    no_more = λ x h. elim (more.no_more x h) [ inl same ↦ inr (rw same (refl, refl)) | inr o ↦ inl o ];
    ready = λ i any r. (one, more.gained, record { run = refl; task = refl; from = omega arith; to = reaches i r });
  }
    where
      one : Batch
      one = batch_to weights k t (length xs - 1)

      more : HasGained old one new
      more = gained one old new added

      reaches : (i : ℕ) → IsReadyAt b k t i → i ≤ length xs - 1
      reaches i r =
          let l : i < length (instances_of (cell_at b.state k t)) = slice_get_within (instances_of (cell_at b.state k t)) i r.held (held_in (cell_at b.state k t) i r.held r.is_held) in
          let same : length xs ≡ length (instances_of (cell_at b.state k t)) = ap length are in
          omega (arith, l, same)

  -- one that is ready
  pub take_one : (p : ℕ) → IsPermutation (batch_of weights k t p ∷ old) new → HasTakenUp b weights k t (At p) old new
  take_one p added = record {
    kept = more.kept;
    no_more = λ x h. elim (more.no_more x h) [ inl same ↦ inr (rw same (refl, refl)) | inr o ↦ inl o ];
    ready = λ i at r. (batch_of weights k t p, more.gained, record { run = refl; task = refl; from = omega (arith, at); to = omega (arith, at) });
  }
    where
      more : HasGained old (batch_of weights k t p) new
      more = gained (batch_of weights k t p) old new added

-- one that is delayed
pub delay_one : (b : Backfill) (k t p : ℕ) (m : ℤ) (old new : List Delay) → IsDelayedAt b k t p m → ((o : ℤ) → IsDelayedAt b k t p o → o ≡ m) → IsPermutation (delay_of k t p m ∷ old) new → HasDelayed b k t (At p) old new
delay_one b k t p m old new is only added = record {
  kept = more.kept;
  no_more = λ d h. elim (more.no_more d h) [ inl same ↦ inr (rw same (refl, is)) | inr o ↦ inl o ];
  delayed = λ i o at d.
      (let same : o ≡ m = only o (subst (λ (q : ℕ). IsDelayedAt b k t q o) at d) in
      subst (λ (x : Delay). Contains new x) (λ j. delay_of k t (sym at j) (sym same j)) more.gained);
}
  where
    more : HasGained old (delay_of k t p m) new
    more = gained (delay_of k t p m) old new added

pub none_delayed : (b : Backfill) (k t p : ℕ) (old : List Delay) → ((m : ℤ) → ¬ (IsDelayedAt b k t p m)) → HasDelayed b k t (At p) old old
none_delayed b k t p old none = record { kept = λ d h. h; no_more = λ d h. inl h; delayed = λ i m at d. absurd (none m (subst (λ (q : ℕ). IsDelayedAt b k t q m) at d)) }

-- ---- the delayed instances of a task, one place after the other

pub none_before : (b : Backfill) (k t : ℕ) (old : List Delay) → HasDelayed b k t (Before 0) old old
none_before b k t old = record { kept = λ d h. h; no_more = λ d h. inl h; delayed = λ i m at d. absurd (omega (arith, at)) }

pub one_more_place : (b : Backfill) (k t p : ℕ) (old mid new : List Delay) → HasDelayed b k t (Before p) old mid → HasDelayed b k t (At p) mid new → HasDelayed b k t (Before (p + 1)) old new
one_more_place b k t p old mid new one two = record {
  kept = λ d h. two.kept d (one.kept d h);
  no_more = λ d h. elim (two.no_more d h) [ inl m ↦ one.no_more d m | inr n ↦ inr n ];
  delayed = λ i m at d. elim (below_or i p at) [ inl less ↦ two.kept (delay_of k t i m) (one.delayed i m less d) | inr same ↦ two.delayed i m same d ];
}

pub all_places : (b : Backfill) (k t p : ℕ) (old new : List Delay) → length (instances_of (cell_at b.state k t)) ≤ p → HasDelayed b k t (Before p) old new → HasDelayed b k t Anywhere old new
all_places b k t p old new end is = record {
  kept = is.kept;
  no_more = is.no_more;
  delayed = λ i m any d. is.delayed i m (omega (arith, end, slice_get_within (instances_of (cell_at b.state k t)) i d.held (held_in (cell_at b.state k t) i d.held d.is_held))) d;
}

pub not_delayed : (b : Backfill) (k t p : ℕ) (s : Standing) → Stands b k t p s → ((m : ℤ) → s ≡ Standing.Delayed m → ⊥) → (m : ℤ) → ¬ (IsDelayedAt b k t p m)
not_delayed b k t p Standing.Away is never m = is.1 m
not_delayed b k t p Standing.Ready is never m = is.1 m
not_delayed b k t p (Standing.Delayed o) is never m = absurd (never o refl)
