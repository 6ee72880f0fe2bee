-- The tasks of a graph by rank.
use Rattle.std.proofs.Common.{◌≡◌, ◌≢◌, ◌⊎◌, inl, inr, ℕ, ◌<◌, ◌≤◌, List, length, get_or, map, eqb, Bool, false, Some, refl, sym, ap, ◌∙◌, subst, arith, zero-add}
use Rattle.std.specs.Cmp.{IsStrictWeakOrder}
use Rattle.std.specs.List.{All, Contains, IsDistinct, enumerate_from, slice_get}
use Rattle.std.specs.List.Sorted.{IsPermutation, IsSorted}
use Rattle.std.specs.Ordering.{is_lt, nat_cmp, ordering_then}
use Rattle.std.proofs.lemmas.Bool.{cases_lt}
use Rattle.std.proofs.lemmas.Bool.Decides.{Decides-eqb, nat_tests, not_from_Decides}
use Rattle.std.proofs.lemmas.Cmp.{nat_cmp_total, on_total, then_total}
use Rattle.std.proofs.lemmas.List.{get_or-map, length-map}
use Rattle.std.proofs.lemmas.List.FromFn.{get_or-enumerate_from, length-enumerate_from}
use Rattle.std.proofs.lemmas.List.Sorted.{All-permutation, Contains-permutation, ranks_by, sorted_far}
use Rattle.std.proofs.lemmas.Map.Keys.{IsDistinct-IsPermutation, IsDistinct-from_apart, apart_from_distinct}
use Rattle.std.proofs.lemmas.Option.{get_or_from_slice_get, same_Some, slice_get-get_or, slice_get_within}
use Rattle.bf_graph.specs.Edges.{IsRank}
use Rattle.bf_graph.specs.Order.{IsByRank, StandBehind}
use Rattle.bf_graph.specs.inner.Order.{ranked_tasks, pair_cmp}
use Rattle.bf_graph.specs.Shape.{HasRanks}
use Rattle.bf_graph.proofs.AcyclicLemmas.{rank_rises}

pair_order : IsStrictWeakOrder (λ p q. is_lt (pair_cmp p q))
pair_order = ranks_by (then_total (on_total (λ p. p.0) nat_cmp_total) (on_total (λ p. p.1) nat_cmp_total)) (λ p. p)

not_below : (q u r t : ℕ) → is_lt (ordering_then (nat_cmp q r) (nat_cmp u t)) ≡ false → (r < q) ⊎ ((r ≡ q) × (t ≤ u))
not_below q u r t e = grind (arith, nat_tests)

one_rank : (ups : List (List ℕ)) (t q r : ℕ) → IsRank ups t q → IsRank ups t r → q ≡ r
one_rank ups t q r a b = let low = b.longest q a.path in let high = a.longest r b.path in omega (arith, low, high)

-- ---- the pairs as they are made

-- a task of these, with its rank before it
abbrev IsOwn : List ℕ → ℕ × ℕ → Type 0
IsOwn ranks p = (p.1 < length ranks) × (p.0 ≡ get_or ranks p.1 0)

abbrev same_task : ℕ × ℕ → ℕ × ℕ → Bool
same_task p q = eqb p.1 q.1

module _ (ranks : List ℕ) where
  pair_at : (t : ℕ) (d : ℕ × ℕ) → t < length ranks → get_or (ranked_tasks ranks) t d ≡ (get_or ranks t 0, t)
  pair_at t d h =
      let f : ℕ × ℕ → ℕ × ℕ = λ p. (p.1, p.0) in
      let g : ℕ → ℕ × ℕ = λ k. (get_or ranks t 0, k) in
      let within : t < length (enumerate_from 0 ranks) = omega (arith, h, length-enumerate_from 0 ranks) in
      get_or-map f (enumerate_from 0 ranks) t (0, 0) d within ∙ ap f (get_or-enumerate_from 0 ranks t (0, 0) h) ∙ ap g (zero-add t)

  pairs_len : length (ranked_tasks ranks) ≡ length ranks
  pairs_len = let f : ℕ × ℕ → ℕ × ℕ = λ p. (p.1, p.0) in length-map (enumerate_from 0 ranks) f ∙ length-enumerate_from 0 ranks

  pairs_own : All (IsOwn ranks) (ranked_tasks ranks)
  pairs_own k d h =
      let within : k < length ranks = omega (arith, h, pairs_len) in
      subst (IsOwn ranks) (sym (pair_at k d within)) (within, refl)

  has_pair : (t : ℕ) → t < length ranks → Contains (ranked_tasks ranks) (get_or ranks t 0, t)
  has_pair t h = (t, omega (arith, h, pairs_len), pair_at t (get_or ranks t 0, t) h)

  pairs_distinct : IsDistinct same_task (ranked_tasks ranks)
  pairs_distinct = IsDistinct-from_apart same_task (ranked_tasks ranks) (λ i j d h k.
      let late : j < length ranks = omega (arith, k, pairs_len) in
      let early : i < length ranks = omega (arith, h, late) in
      let apart : eqb i j ≡ false = grind (arith, nat_tests) in
      ap (λ p. same_task p (get_or (ranked_tasks ranks) j d)) (pair_at i d early) ∙ ap (λ (p : ℕ × ℕ). eqb i p.1) (pair_at j d late) ∙ apart)

-- ---- the pairs in order

module _ (ups : List (List ℕ)) (ranks : List ℕ) (kept : HasRanks ups ranks) (same : length ranks ≡ length ups)
    (pairs : List (ℕ × ℕ)) (moved : IsPermutation (ranked_tasks ranks) pairs) (sorted : IsSorted pair_cmp pairs) where
  abbrev order : List ℕ
  order = map (λ p. p.1) pairs

  own : All (IsOwn ranks) pairs
  own = All-permutation (IsOwn ranks) (ranked_tasks ranks) pairs moved (pairs_own ranks)

  distinct : IsDistinct same_task pairs
  distinct = IsDistinct-IsPermutation same_task (λ p q. grind (arith, nat_tests)) (ranked_tasks ranks) pairs moved (pairs_distinct ranks)

  within : (i t : ℕ) → slice_get order i ≡ Some t → i < length pairs
  within i t e = let f : ℕ × ℕ → ℕ = λ p. p.1 in omega (arith, slice_get_within order i t e, length-map pairs f)

  read : (i t : ℕ) → slice_get order i ≡ Some t → (get_or pairs i (0, 0)).1 ≡ t
  read i t e = sym (let f : ℕ × ℕ → ℕ = λ p. p.1 in get_or-map f pairs i (0, 0) 0 (within i t e)) ∙ get_or_from_slice_get order i t 0 e

  tasks : (i t : ℕ) → slice_get order i ≡ Some t → t < length ups
  tasks i t e = let h = (own i (0, 0) (within i t e)).0 in omega (arith, h, read i t e, same)

  all : (t : ℕ) → t < length ups → (i : ℕ) × (slice_get order i ≡ Some t)
  all t h =
      let f : ℕ × ℕ → ℕ = λ p. p.1 in
      let p : ℕ × ℕ = (get_or ranks t 0, t) in
      let one = Contains-permutation (ranked_tasks ranks) pairs p moved (has_pair ranks t (omega (arith, h, same))) in
      let placed : one.0 < length order = omega (arith, one.1, length-map pairs f) in
      (one.0, slice_get-get_or order one.0 0 placed ∙ ap Some (get_or-map f pairs one.0 p 0 one.1 ∙ ap f one.2))

  rank_read : (i t q : ℕ) → slice_get order i ≡ Some t → IsRank ups t q → (get_or pairs i (0, 0)).0 ≡ q
  rank_read i t q e is =
      (own i (0, 0) (within i t e)).1 ∙ ap (λ u. get_or ranks u 0) (read i t e) ∙ one_rank ups t (get_or ranks t 0) q (kept.rank t (tasks i t e)) is

  rises : (i j t u q r : ℕ) → i < j → slice_get order i ≡ Some t → slice_get order j ≡ Some u → IsRank ups t q → IsRank ups u r → (q < r) ⊎ ((q ≡ r) × (t < u))
  rises i j t u q r h e f a b =
      let x = get_or pairs i (0, 0) in
      let y = get_or pairs j (0, 0) in
      let late = within j u f in
      let apart : x.1 ≢ y.1 = not_from_Decides (eqb x.1 y.1) (Decides-eqb x.1 y.1) (apart_from_distinct same_task pairs i j (0, 0) distinct h late) in
      let up : (x.0 < y.0) ⊎ ((x.0 ≡ y.0) × (x.1 ≤ y.1)) = not_below y.0 y.1 x.0 x.1 (sorted_far (λ p q. is_lt (pair_cmp p q)) pair_order pairs sorted i j (0, 0) (omega (arith, h)) late) in
      let first = read i t e in
      let second = read j u f in
      let low = rank_read i t q e a in
      let high = rank_read j u r f b in
      elim up [
        | inl less ↦ inl (omega (arith, less, low, high))
        | inr (level, before) ↦ inr (sym low ∙ level ∙ high, omega (arith, before, apart, first, second))
      ]

  once : (i j t : ℕ) → slice_get order i ≡ Some t → slice_get order j ≡ Some t → i ≡ j
  once i j t e f = elim (cases_lt i j) [
    | inl h ↦ absurd (never i j h e f)
    | inr h ↦ elim (cases_lt j i) [ inl k ↦ absurd (never j i k f e) | inr k ↦ omega (arith, h, k) ]
  ]
    where
      never : (i j : ℕ) → i < j → slice_get order i ≡ Some t → slice_get order j ≡ Some t → ⊥
      never i j h e f =
          let is = kept.rank t (tasks i t e) in
          elim (rises i j t t (get_or ranks t 0) (get_or ranks t 0) h e f is is) [ inl less ↦ omega (arith, less) | inr (level, less) ↦ omega (arith, less) ]

  by_rank : IsByRank ups order
  by_rank = record { all = all; tasks = tasks; once = once; rises = rises }

-- ---- what `by_rank` gives

stand_behind : (ups : List (List ℕ)) (ranks order : List ℕ) → HasRanks ups ranks → IsByRank ups order → StandBehind ups order
stand_behind ups ranks order kept is i t u e up =
    let below = kept.in_range t u up in
    let found = is.all u below in
    let low = kept.rank u below in
    let high = kept.rank t (is.tasks i t e) in
    let less = rank_rises ups t u (get_or ranks u 0) (get_or ranks t 0) low high up in
    elim (cases_lt found.0 i) [
      | inl h ↦ (found.0, h, found.1)
      | inr h ↦ elim (cases_lt i found.0) [
        | inl k ↦ elim (is.rises i found.0 t u (get_or ranks t 0) (get_or ranks u 0) k e found.1 high low) [
          | inl more ↦ absurd (omega (arith, less, more))
          | inr (level, before) ↦ absurd (omega (arith, less, level))
        ]
        | inr k ↦
            let here : found.0 ≡ i = omega (arith, h, k) in
            let one : u ≡ t = same_Some u t (sym found.1 ∙ ap (slice_get order) here ∙ e) in
            absurd (omega (arith, less, ap (λ v. get_or ranks v 0) one))
      ]
    ]

-- where its calls read these slices
pub ordered : (ups : List (List ℕ)) (ranks slice : List ℕ) (made pairs read : List (ℕ × ℕ)) (order : List ℕ)
    → HasRanks ups ranks → length ranks ≡ length ups → slice ≡ ranks → made ≡ ranked_tasks slice → IsPermutation made pairs → IsSorted pair_cmp pairs → read ≡ pairs → order ≡ map (λ p. p.1) read → IsByRank ups order × StandBehind ups order
ordered ups ranks slice made pairs read order kept same slice_is made_is moved sorted read_is order_is =
    let P : List (ℕ × ℕ) → Type 0 = λ ps. IsPermutation ps pairs in
    let f : ℕ × ℕ → ℕ = λ p. p.1 in
    let put = by_rank ups ranks kept same pairs (subst P (made_is ∙ ap ranked_tasks slice_is) moved) sorted in
    let is = subst (IsByRank ups) (sym (order_is ∙ ap (map f) read_is)) put in
    (is, stand_behind ups ranks order kept is)
