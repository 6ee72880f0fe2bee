-- A graph's ranks.
use Rattle.std.proofs.Common.{◌≡◌, ℕ, ◌<◌, ◌≤◌, List, length, get_or, map, Option, Some, None, unwrap_or, Vec, Global, refl, sym, ap, ◌∙◌, subst, arith}
use Rattle.std.proofs.lemmas.List.{get_or-map, length-map}
use Rattle.std.proofs.Math.ListN.{get_or-map as get_or-map_default}
use Rattle.bf_graph.specs.Shape.{HasRanks}
use Rattle.bf_graph.specs.Edges.{lists, AreInRange, IsRank}
use Rattle.bf_graph.specs.inner.Ranks.{rank_at, AreRanks, AreBelow, AreFound, AllRanked}

-- the ranks without their marks
pub has_ranks : (ups : List (List ℕ)) (ranks : List (Option ℕ)) → length ups ≡ length ranks → AreInRange ups → AreRanks ups ranks → AreBelow ranks (length ups) → AllRanked ranks → HasRanks ups (map (λ r. unwrap_or r 0) ranks)
has_ranks ups ranks same inside right low all = record {
  in_range = inside;
  rank = λ t h. let within : t < length ranks = omega (arith, same) in found t within _ refl;
  bounded = λ t. below t _ refl;
}
  where
    below : (t : ℕ) → (o : Option ℕ) → rank_at ranks t ≡ o → get_or (map (λ r. unwrap_or r 0) ranks) t 0 ≤ length ups
    below t None e = rw (get_or-map_default (λ r. unwrap_or r 0) ranks t None, e) (omega arith)
    below t (Some r) e = let small = low t r e in rw (get_or-map_default (λ r. unwrap_or r 0) ranks t None, e) (omega (arith, small))

    found : (t : ℕ) → t < length ranks → (o : Option ℕ) → rank_at ranks t ≡ o → IsRank ups t (get_or (map (λ r. unwrap_or r 0) ranks) t 0)
    found t h None e = absurd (all t h e)
    found t h (Some r) e = rw (get_or-map (λ r. unwrap_or r 0) ranks t None 0 h, e) (right t r e)

-- the ranks that a graph keeps, where its calls read them
pub sound_ranks : (es : List (Vec ℕ Global)) (ranks read : List (Option ℕ)) (rs : List ℕ) → AreFound (lists es) (length es) ranks → AreInRange (lists es) → AllRanked ranks → read ≡ ranks → rs ≡ map (λ r. unwrap_or r 0) read → HasRanks (lists es) rs × (length rs ≡ length es)
sound_ranks es ranks read rs found inside all again is =
    let marks : rs ≡ map (λ r. unwrap_or r 0) ranks = is ∙ ap (map (λ r. unwrap_or r 0)) again in
    let all_edges = length-map es (λ (v : Vec ℕ Global). v.items) in
    let below : AreBelow ranks (length (lists es)) = λ t r e. (let low = found.below t r e in omega (arith, low, all_edges)) in
    let kept = has_ranks (lists es) ranks (all_edges ∙ sym found.len) inside found.right below all in
    (subst (HasRanks (lists es)) (sym marks) kept, ap length marks ∙ length-map ranks (λ r. unwrap_or r 0) ∙ found.len)
