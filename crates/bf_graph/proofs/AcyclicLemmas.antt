-- Where each task has a rank, ranks rise along edges, and there is no cycle.
use Rattle.std.proofs.Common.{◌≡◌, ℕ, zero, suc, ◌<◌, List, [], ◌∷◌, ◌++◌, length, get_or, Contains, subst, arith}
use Rattle.bf_graph.specs.Edges.{IsUpstream, AreInRange, IsRank, IsChain, IsCycle}
use Rattle.bf_graph.specs.Ranks.{Ranking}
use Rattle.bf_graph.specs.Shape.{HasRanks}
use Rattle.bf_graph.proofs.PathLemmas.{task_within}

pub rank_rises : (ups : List (List ℕ)) (t u q r : ℕ) → IsRank ups u q → IsRank ups t r → IsUpstream ups u t → q < r
rank_rises ups t u q r low high up = high.longest (suc q) (u, up, low.path)

module _ (ups : List (List ℕ)) (ranks : List ℕ) (kept : HasRanks ups ranks) where
  rank : ℕ → ℕ
  rank t = get_or ranks t 0

  rises : (u t : ℕ) → IsUpstream ups u t → rank u < rank t
  unfolding rank
  rises u t up = rank_rises ups t u (get_or ranks u 0) (get_or ranks t 0) (kept.rank u (kept.in_range t u up)) (kept.rank t (task_within ups u t up)) up

  pub ranking_of : Ranking ups
  unfolding rank
  ranking_of = record { rank = rank; is_rank = kept.rank; bounded = kept.bounded; rises = λ t u up. rises u t up }

  chain_rises : (t : ℕ) (ts : List ℕ) (last : ℕ) → IsChain ups (t ∷ ts ++ last ∷ []) → rank t < rank last
  chain_rises t [] last c = rises t last c.0
  chain_rises t (u ∷ us) last c = let step = rises t u c.0 in let rest = chain_rises u us last c.1 in omega (arith, step, rest)

  pub no_cycle : (ts : List ℕ) → IsCycle ups ts → ⊥
  no_cycle [] c = c
  no_cycle (t ∷ ts) c = let up = chain_rises t ts t c in omega (arith, up)

-- ---- the tasks of a cycle

on_chain : (ups : List (List ℕ)) (ts : List ℕ) (last k t : ℕ) → IsChain ups (ts ++ last ∷ []) → k < length ts → get_or ts k t ≡ t → (u : ℕ) × IsUpstream ups t u
on_chain ups [] last k t c h e = absurd (omega arith)
on_chain ups (a ∷ []) last zero t c h e = (last, subst (λ (b : ℕ). IsUpstream ups b last) e c.0)
on_chain ups (a ∷ []) last (suc k) t c h e = absurd (omega arith)
on_chain ups (a ∷ b ∷ ts) last zero t c h e = (b, subst (λ (d : ℕ). IsUpstream ups d b) e c.0)
on_chain ups (a ∷ b ∷ ts) last (suc k) t c h e = on_chain ups (b ∷ ts) last k t c.1 (omega arith) e

-- each task of a cycle is one of the graph
pub cycle_within : (ups : List (List ℕ)) (ts : List ℕ) (t : ℕ) → AreInRange ups → IsCycle ups ts → Contains ts t → t < length ups
cycle_within ups [] t inside c m = absurd c
cycle_within ups (a ∷ ts) t inside c (k, h, e) = let up = on_chain ups (a ∷ ts) a k t c h e in inside up.0 t up.1
