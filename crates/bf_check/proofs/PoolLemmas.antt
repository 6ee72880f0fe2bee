-- Pools, found by their names.
use Rattle.std.proofs.Common.{◌≡◌, ◌<◌, ◌≤◌, inl, inr, ℕ, List, [], ◌∷◌, ◌++◌, length, length-append, get_or, map, Bool, true, false, cond, Option, Some, None, option_map, unwrap_or, Ordering, Less, Equal, Greater, refl, sym, ap, ◌∙◌, subst, arith, codes}
use Rattle.std.specs.Cmp.Lexicographic.{slice_cmp}
use Rattle.std.specs.List.{HoldsAt, position, slice_index_or}
use Rattle.std.specs.List.Sorted.{IsNonDecreasingBy, IsPartitionPoint}
use Rattle.std.specs.Ordering.{nat_cmp, ordering_index, ordering_reverse}
use Rattle.std.specs.Str.{bytes_eq}
use Rattle.std.specs.Cmp.Lexicographic.{bytes_decides}
use Rattle.std.proofs.lemmas.Bool.{cases_lt, false_from_ne_true}
use Rattle.std.proofs.lemmas.Cmp.{nat_list_cmp_total, tied_itself}
use Rattle.std.proofs.lemmas.List.{get_or_append_left}
use Rattle.std.proofs.lemmas.List.Folds.{list_any_none}
use Rattle.std.proofs.lemmas.Map.Lookups.{exact_bytes}
use Rattle.std.proofs.Math.Seq.{get_or-append_seam}
use Rattle.bf_read.specs.declared.draft.PoolDraft.{PoolDraft}
use Rattle.bf_read.specs.Drafts.{StandByName}
use Rattle.bf_check.specs.Checking.{default_pool, names_default_pool_in, pool_number, pools_in}
use Rattle.bf_check.specs.declared.pools.TaskPool.{TaskPool}
use Rattle.bf_check.specs.inner.Looks.{pool_named_of, with_size}
use Rattle.bf_plan.proofs.ListLemmas.{some_same}
use Rattle.bf_graph.proofs.Places.{placed, missing, none_passing}

-- ---- pools that stand by name

abbrev order : List ℕ → List ℕ → Ordering
order = slice_cmp nat_cmp

above : (s t : List ℕ) → order s t ≡ Less → order t s ≡ Greater
above s t h = nat_list_cmp_total.antisymm t s ∙ ap ordering_reverse h

below : (s t : List ℕ) → order s t ≡ Greater → order t s ≡ Less
below s t h = nat_list_cmp_total.antisymm t s ∙ ap ordering_reverse h

-- of two names the one above is no lower against a third
rises : (s t q : List ℕ) (o : Ordering) → order s q ≡ o → order s t ≡ Less → ordering_index (order s q) ≤ ordering_index (order t q)
rises s t q Less e h = (let low = ap ordering_index e in omega (arith, low))
rises s t q Equal e h =
    let high : order t q ≡ Greater = ap (order t) (sym (exact_bytes s q e)) ∙ above s t h in
    let one = ap ordering_index e in
    let two = ap ordering_index high in
    omega (arith, one, two)
rises s t q Greater e h =
    let high : order t q ≡ Greater = above q t (nat_list_cmp_total.trans q s t (below s q e) h) in
    let one = ap ordering_index e in
    let two = ap ordering_index high in
    omega (arith, one, two)

-- what a binary search asks for
pub rising_against : (pools : List PoolDraft) (q : List ℕ) → StandByName pools → IsNonDecreasingBy (λ (pool : PoolDraft). ordering_index (order pool.name q)) pools
rising_against pools q sorted i j d low h = elim (cases_lt i j) [
  | inl less ↦ rises (get_or pools i d).name (get_or pools j d).name q _ refl (sorted i j d less h)
  | inr high ↦
      let same : i ≡ j = omega (arith, low, high) in
      let P : ℕ → Type 0 = λ k. ordering_index (order (get_or pools i d).name q) ≤ ordering_index (order (get_or pools k d).name q) in
      subst P same (omega arith)
]

module _ (q : List ℕ) where
  abbrev pub is_named : PoolDraft → Bool
  is_named pool = bytes_eq q pool.name

  unnamed : (pool : PoolDraft) (o : Ordering) → order pool.name q ≡ o → (o ≡ Equal → ⊥) → is_named pool ≡ false
  unnamed pool o e differs = false_from_ne_true (is_named pool) (λ same. differs (sym e ∙ ap (λ s. order s q) (sym ((bytes_decides q pool.name).0 same)) ∙ tied_itself nat_list_cmp_total q))

  -- the pool that was found is the first of the name
  pub found_place : (pools : List PoolDraft) (i : ℕ) → StandByName pools → i < length pools → HoldsAt (λ (pool : PoolDraft). order pool.name q ≡ Equal) pools i → position is_named pools ≡ Some i
  found_place pools i sorted within holds =
      let d = default_pool in
      let same : (get_or pools i d).name ≡ q = exact_bytes (get_or pools i d).name q (holds d) in
      placed is_named pools d i within
      (λ k low. unnamed (get_or pools k d) Less (ap (order (get_or pools k d).name) (sym same) ∙ sorted k i d low within) (λ e. absurd (cc)))
      ((bytes_decides q (get_or pools i d).name).1 (sym same))

  -- where none was found there is none of the name
  pub missing_place : (pools : List PoolDraft) (i : ℕ) → i ≤ length pools → IsPartitionPoint (λ (pool : PoolDraft). order pool.name q ≡ Less) (λ (pool : PoolDraft). order pool.name q ≡ Greater) pools i → position is_named pools ≡ None
  missing_place pools i within parts =
      let d = default_pool in
      missing is_named pools d (λ k h. elim (cases_lt k i) [
        | inl low ↦ unnamed (get_or pools k d) Less (parts.0 k d (omega arith) low) (λ e. absurd (cc))
        | inr high ↦ unnamed (get_or pools k d) Greater (parts.1 k d high h) (λ e. absurd (cc))
      ])

-- ---- the default pool behind the others

abbrev with_default : Bool → List PoolDraft → List PoolDraft
with_default named pools = cond named pools (pools ++ default_pool ∷ [])

none_default : (pools : List PoolDraft) → position (is_named (codes "default_pool")) pools ≡ None → names_default_pool_in pools ≡ false
none_default pools e = list_any_none (is_named (codes "default_pool")) pools (λ k d h. none_passing (is_named (codes "default_pool")) pools d e k h)

-- the default pool that the file doesn't name stands behind the others
pub number_of_default : (q : List ℕ) (pools : List PoolDraft) → position (is_named q) pools ≡ None → q ≡ codes "default_pool" → pool_number (pools_in pools) q ≡ Some (length pools)
number_of_default q pools e is =
    let d = default_pool in
    let P : List ℕ → Type 0 = λ s. position (is_named s) pools ≡ None in
    let unnamed = none_default pools (subst P is e) in
    let all = length-append pools (d ∷ []) in
    let last : is_named q (get_or (pools ++ d ∷ []) (length pools) d) ≡ true = ap (is_named q) (get_or-append_seam pools d [] d) ∙ (bytes_decides q d.name).1 is in
    ap (λ b. position (is_named q) (with_default b pools)) unnamed
    ∙ placed (is_named q) (pools ++ d ∷ []) d (length pools) (omega (arith, all)) (λ k h. ap (is_named q) (get_or_append_left pools (d ∷ []) d k h) ∙ none_passing (is_named q) pools d e k h) last

-- a pool of another name isn't there
pub number_of_none : (q : List ℕ) (pools : List PoolDraft) → position (is_named q) pools ≡ None → (q ≡ codes "default_pool" → ⊥) → pool_number (pools_in pools) q ≡ None
number_of_none q pools e differs = go (names_default_pool_in pools)
  where
    d : PoolDraft
    d = default_pool

    go : (b : Bool) → position (is_named q) (with_default b pools) ≡ None
    go true = e
    go false = missing (is_named q) (pools ++ d ∷ []) d (λ k h. elim (cases_lt k (length pools)) [
      | inl low ↦ ap (is_named q) (get_or_append_left pools (d ∷ []) d k low) ∙ none_passing (is_named q) pools d e k low
      | inr high ↦
          let all = length-append pools (d ∷ []) in
          let same : length pools ≡ k = omega (arith, all, h, high) in
          ap (λ n. is_named q (get_or (pools ++ d ∷ []) n d)) (sym same) ∙ ap (is_named q) (get_or-append_seam pools d [] d) ∙ false_from_ne_true (is_named q d) (λ yes. differs ((bytes_decides q d.name).0 yes))
    ])

-- ---- pools with their sizes

last_size : (pools : List PoolDraft) → slice_index_or (map (λ (pool : PoolDraft). pool.slots) (pools ++ default_pool ∷ [])) (length pools) 0 ≡ 128
last_size [] = refl
last_size (pool ∷ pools) = last_size pools

pub default_named : (q : List ℕ) (pools : List PoolDraft) → position (is_named q) pools ≡ None → q ≡ codes "default_pool" → pool_named_of (pools_in pools) q ≡ Some (record { number = length pools; slots = 128 })
default_named q pools e is =
    let P : List ℕ → Type 0 = λ s. position (is_named s) pools ≡ None in
    let size : slice_index_or (map (λ (pool : PoolDraft). pool.slots) (pools_in pools)) (length pools) 0 ≡ 128 = ap (λ b. slice_index_or (map (λ (pool : PoolDraft). pool.slots) (with_default b pools)) (length pools) 0) (none_default pools (subst P is e)) ∙ last_size pools in
    ap (option_map (with_size (pools_in pools))) (number_of_default q pools e is) ∙ ap (λ n. Some (record { number = length pools; slots = n })) size

pub none_named : (q : List ℕ) (pools : List PoolDraft) → position (is_named q) pools ≡ None → (q ≡ codes "default_pool" → ⊥) → pool_named_of (pools_in pools) q ≡ None
none_named q pools e differs = ap (option_map (with_size (pools_in pools))) (number_of_none q pools e differs)

-- what is found of a pool with a name
pub named_pool : (pools : List PoolDraft) (name : List ℕ) (pool : TaskPool) → pool_named_of pools name ≡ Some pool
    → (pool.number ≡ unwrap_or (pool_number pools name) 0) × (pool.slots ≡ slice_index_or (map (λ (p : PoolDraft). p.slots) pools) (unwrap_or (pool_number pools name) 0) 0)
named_pool pools name pool e = go (pool_number pools name) e
  where
    go : (found : Option ℕ) → option_map (with_size pools) found ≡ Some pool → (pool.number ≡ unwrap_or found 0) × (pool.slots ≡ slice_index_or (map (λ (p : PoolDraft). p.slots) pools) (unwrap_or found 0) 0)
    go None e = absurd (cc)
    go (Some n) e = (let same : with_size pools n ≡ pool = some_same e in (sym (ap (λ (p : TaskPool). p.number) same), sym (ap (λ (p : TaskPool). p.slots) same)))
