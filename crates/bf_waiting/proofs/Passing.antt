-- Passing over instances that are not ready.
use Rattle.std.proofs.Common.{◌≡◌, ℕ, suc, ◌-◌, ◌<◌, ◌≤◌, false, nat_eq, List, ◌∷◌, Option, None, Some, IfNone, refl, sym, ap, ◌∙◌, subst, inl, inr, arith}
use Rattle.std.specs.Option.{option_eq}
use Rattle.std.specs.List.{sum_by}
use Rattle.std.specs.List.Sorted.{IsPermutation}
use Rattle.std.proofs.lemmas.List.Sorted.{sum_by_popped, sum_by_pushed}
use Rattle.std.proofs.lemmas.Bool.Decides.{nat_tests}
use Rattle.bf_core.specs.Cores.{Backfill}
use Rattle.bf_waiting.specs.declared.batches.Batch.{Batch}
use Rattle.bf_waiting.specs.Classes.{Covers, HasBatch}
use Rattle.bf_waiting.specs.Keeping.{ArePassed}
use Rattle.bf_waiting.specs.Standings.{IsReadyAt}
use Rattle.bf_waiting.proofs.HeapFacts.{HasGained, gained, lost}

-- another place than the first is a later one
pub not_first : (found : Option ℕ) (f p : ℕ) → false ≡ option_eq nat_eq found (Some f) → found ≡ Some p → f ≤ p → f < p
not_first found f p e is l = let g : false ≡ nat_eq p f = e ∙ ap (λ (o : Option ℕ). option_eq nat_eq o (Some f)) is in grind (arith, nat_tests, g)

pub found_none : (found : Option ℕ) (Q : Type 0) → ((p : ℕ) → found ≡ Some p → ⊥) → IfNone found Q → Q
found_none None Q never q = q
found_none (Some p) Q never q = absurd (never p refl)

-- how many places the batch has, and one
abbrev pub places_left : Batch → ℕ
places_left x = suc (suc x.last - x.first.0)

-- the batch from place p on
abbrev pub from_place : Batch → ℕ → Batch
from_place x p = record x { first = record { 0 = p } }

module _ (b : Backfill) (old mid : List Batch) (passed : ArePassed b old mid) (x : Batch) where
  -- a batch of which none is ready is taken out
  pub dropped : (new : List Batch) → IsPermutation mid (x ∷ new) → ((j : ℕ) → x.first.0 ≤ j → j ≤ x.last → ¬ (IsReadyAt b x.run.0 x.task.0 j)) → ArePassed b old new
  dropped new taken none = record {
    kept = λ k t i r h. go k t i r (passed.kept k t i r h);
    part = λ y h. passed.part y (less.kept y h);
  }
    where
      less : HasGained new x mid
      less = lost x mid new taken

      none_of : (k t i : ℕ) → IsReadyAt b k t i → Covers x k t i → ⊥
      none_of k t i r c = none i c.from c.to (subst (λ (a : ℕ). IsReadyAt b a x.task.0 i) (sym c.run) (subst (λ (u : ℕ). IsReadyAt b k u i) (sym c.task) r))

      go : (k t i : ℕ) → IsReadyAt b k t i → HasBatch mid k t i → HasBatch new k t i
      go k t i r h = elim (less.no_more h.0 h.1) [ inl same ↦ absurd (none_of k t i r (subst (λ (y : Batch). Covers y k t i) same h.2)) | inr n ↦ (h.0, n, h.2) ]

  -- a batch goes on at the first that is ready
  pub advanced : (taken new : List Batch) (p : ℕ) → IsPermutation mid (x ∷ taken) → IsPermutation (from_place x p ∷ taken) new → x.first.0 ≤ p →
      ((j : ℕ) → x.first.0 ≤ j → IsReadyAt b x.run.0 x.task.0 j → p ≤ j) → ArePassed b old new
  advanced taken new p out added from first = record {
    kept = λ k t i r h. go k t i r (passed.kept k t i r h);
    part = λ y h. elim (more.no_more y h) [ inl same ↦ rw same (passed.part x less.gained) | inr t ↦ passed.part y (less.kept y t) ];
  }
    where
      less : HasGained taken x mid
      less = lost x mid taken out

      more : HasGained taken (from_place x p) new
      more = gained (from_place x p) taken new added

      covers : (k t i : ℕ) → IsReadyAt b k t i → Covers x k t i → Covers (from_place x p) k t i
      covers k t i r c = record { run = c.run; task = c.task; from = first i c.from (subst (λ (a : ℕ). IsReadyAt b a x.task.0 i) (sym c.run) (subst (λ (u : ℕ). IsReadyAt b k u i) (sym c.task) r)); to = c.to }

      go : (k t i : ℕ) → IsReadyAt b k t i → HasBatch mid k t i → HasBatch new k t i
      go k t i r h = elim (less.no_more h.0 h.1) [
        | inl same ↦ (from_place x p, more.gained, covers k t i r (subst (λ (y : Batch). Covers y k t i) same h.2))
        | inr n ↦ (h.0, more.kept h.0 n, h.2)
      ]

-- fewer places are left
pub fewer_dropped : (x : Batch) (mid new : List Batch) → IsPermutation mid (x ∷ new) → sum_by places_left new < sum_by places_left mid
fewer_dropped x mid new taken = omega (arith, sum_by_popped places_left x mid new taken)

pub fewer_advanced : (x : Batch) (p : ℕ) (mid taken new : List Batch) → IsPermutation mid (x ∷ taken) → IsPermutation (from_place x p ∷ taken) new → x.first.0 < p → p ≤ x.last → sum_by places_left new < sum_by places_left mid
fewer_advanced x p mid taken new out added later within = omega (arith, sum_by_popped places_left x mid taken out, sum_by_pushed places_left (from_place x p) taken new added, later, within)
