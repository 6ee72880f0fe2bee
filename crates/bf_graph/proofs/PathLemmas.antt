-- Paths along edges, and the cycles that they close.
use Rattle.std.proofs.Common.{◌≡◌, inl, inr, ℕ, zero, suc, ◌<◌, List, [], ◌∷◌, ◌++◌, length, get_or, take, drop, Contains, refl, sym, ap, subst, arith}
use Rattle.std.proofs.lemmas.Bool.{cases_lt}
use Rattle.std.proofs.lemmas.List.{get_or_past}
use Rattle.std.proofs.Math.Seq.{drop-cons}
use Rattle.bf_graph.specs.Edges.{IsUpstream, IsChain, IsCycle}
use Rattle.bf_graph.specs.Reach.{IsPath, Reaches}
use Rattle.bf_graph.proofs.CycleLemmas.{cycle_rotates}

pub none_in : (u : ℕ) → Contains [] u → ⊥
none_in u (k, h, e) = omega arith

-- only tasks have upstreams
pub task_within : (ups : List (List ℕ)) (u t : ℕ) → IsUpstream ups u t → t < length ups
task_within ups u t up = elim (cases_lt t (length ups)) [
  | inl h ↦ h
  | inr h ↦ absurd (none_in u (let P : List ℕ → Type 0 = λ us. Contains us u in subst P (get_or_past ups t [] h) up))
]

module _ (ups : List (List ℕ)) where
  -- an edge before a path
  pub edge_before : (a b n t : ℕ) → IsUpstream ups a b → IsPath ups b n t → IsPath ups a (suc n) t
  edge_before a b zero t up p = let P : ℕ → Type 0 = λ s. IsUpstream ups a s in (a, subst P p up, refl)
  edge_before a b (suc n) t up (u, last, p) = (u, last, edge_before a b n u up p)

  pub first_edge : (a n t : ℕ) → IsPath ups a (suc n) t → (b : ℕ) × IsUpstream ups a b × IsPath ups b n t
  first_edge a zero t (u, last, same) = let P : ℕ → Type 0 = λ s. IsUpstream ups s t in (t, subst P (sym same) last, refl)
  first_edge a (suc n) t (u, last, p) = let b = first_edge a n u p in (b.0, b.1, (u, last, b.2))

  pub chain_path : (a : ℕ) (ts : List ℕ) (t : ℕ) → IsChain ups (a ∷ ts ++ t ∷ []) → IsPath ups a (suc (length ts)) t
  chain_path a [] t c = (a, c.0, refl)
  chain_path a (b ∷ ts) t c = edge_before a b (suc (length ts)) t c.0 (chain_path b ts t c.1)

  head_reaches : (t : ℕ) (rest us : List ℕ) → us ≡ t ∷ rest → IsCycle ups us → Reaches ups t t
  head_reaches t rest us is c = (length rest, chain_path t rest t (subst (IsCycle ups) is c))

  -- each task of a cycle reaches itself
  pub cycle_reaches : (ts : List ℕ) (k d : ℕ) → IsCycle ups ts → k < length ts → Reaches ups (get_or ts k d) (get_or ts k d)
  cycle_reaches ts k d c h =
      let after = drop-cons ts k d h in
      head_reaches (get_or ts k d) (drop (suc k) ts ++ take k ts) (drop k ts ++ take k ts) (ap (λ xs. xs ++ take k ts) after) (cycle_rotates ups ts k c)
