-- Pools stand in the order of their names, as the members of an object do.
use Rattle.std.proofs.Common.{◌≡◌, ◌<◌, ℕ, zero, suc, length, get_or, arith, List, [], ◌∷◌, ◌++◌, map, String, Global, string_bytes, sym, ap, ◌∙◌, append_assoc, append-nil}
use Rattle.std.proofs.lemmas.List.{map-append, length-map, get_or-map}
use Rattle.std.specs.List.{AllByRecursion}
use Rattle.std.specs.Cmp.Lexicographic.{slice_cmp}
use Rattle.std.specs.List.Sorted.{IsStrictlySortedBy}
use Rattle.std.specs.Map.{keys_of}
use Rattle.std.specs.Ordering.{nat_cmp}
use Rattle.std.proofs.Common.{Less}
use Rattle.std.specs.String.{string_cmp}
use Rattle.serde_json.specs.declared.value.Value.{Value}
use Rattle.bf_read.specs.Drafts.{StandByName}
use Rattle.bf_read.specs.declared.draft.PoolDraft.{PoolDraft}

abbrev names_of : List PoolDraft → List (List ℕ)
names_of pools = map (λ pool. pool.name) pools

-- one more pool, of the name of the next member
pub one_named : (so_far pools : List PoolDraft) (names : List (List ℕ)) (pool : PoolDraft) (entries : List (String Global × Value)) (entry : String Global × Value) (left : List (String Global × Value))
    → pools ≡ so_far ++ pool ∷ [] → pool.name ≡ string_bytes entry.0 → entries ≡ entry ∷ left → names_of so_far ++ map string_bytes (keys_of entries) ≡ names
    → names_of pools ++ map string_bytes (keys_of left) ≡ names
one_named so_far pools names pool entries entry left made name steps before =
    ap (λ ps. names_of ps ++ map string_bytes (keys_of left)) made
    ∙ ap (λ ns. ns ++ map string_bytes (keys_of left)) (map-append (λ (p : PoolDraft). p.name) so_far (pool ∷ []))
    ∙ append_assoc (names_of so_far) (pool.name ∷ []) (map string_bytes (keys_of left))
    ∙ ap (λ n. names_of so_far ++ n ∷ map string_bytes (keys_of left)) name
    ∙ ap (λ es. names_of so_far ++ map string_bytes (keys_of es)) (sym steps)
    ∙ before

below_all : (s : String Global) (ss : List (String Global)) (j : ℕ) (d : List ℕ) → AllByRecursion (λ t. string_cmp s t ≡ Less) ss → j < length ss → slice_cmp nat_cmp (string_bytes s) (get_or (map string_bytes ss) j d) ≡ Less
below_all s [] j d all h = absurd (omega (arith, h))
below_all s (t ∷ ss) zero d all h = all.0
below_all s (t ∷ ss) (suc j) d all h = below_all s ss j d all.1 (omega (arith, h))

names_rise : (ss : List (String Global)) (i j : ℕ) (d : List ℕ) → IsStrictlySortedBy string_cmp ss → i < j → j < length ss → slice_cmp nat_cmp (get_or (map string_bytes ss) i d) (get_or (map string_bytes ss) j d) ≡ Less
unfolding IsStrictlySortedBy
names_rise [] i j d sorted low h = absurd (omega (arith, h))
names_rise (s ∷ ss) i zero d sorted low h = absurd (omega (arith, low))
names_rise (s ∷ ss) zero (suc j) d sorted low h = below_all s ss j d sorted.0 (omega (arith, h))
names_rise (s ∷ ss) (suc i) (suc j) d sorted low h = names_rise ss i j d sorted.1 (omega (arith, low)) (omega (arith, h))

-- names that were read of all members stand in their order
pub stand_by_name : (pools : List PoolDraft) (left entries : List (String Global × Value)) → left ≡ [] → names_of pools ++ map string_bytes (keys_of left) ≡ map string_bytes (keys_of entries)
    → IsStrictlySortedBy string_cmp (keys_of entries) → StandByName pools
stand_by_name pools left entries none all sorted i j d low h =
    let keys = keys_of entries in
    let names : names_of pools ≡ map string_bytes keys = sym (append-nil (names_of pools)) ∙ ap (λ es. names_of pools ++ map string_bytes (keys_of es)) (sym none) ∙ all in
    let len = length-map pools (λ (p : PoolDraft). p.name) in
    let same = ap length names in
    let all_keys = length-map keys string_bytes in
    let name : (k : ℕ) → k < length pools → get_or (map string_bytes keys) k d.name ≡ (get_or pools k d).name = λ k within. ap (λ ns. get_or ns k d.name) (sym names) ∙ get_or-map (λ (p : PoolDraft). p.name) pools k d d.name within in
    ap (λ n. slice_cmp nat_cmp n (get_or pools j d).name) (sym (name i (omega (arith, low, h)))) ∙ ap (slice_cmp nat_cmp (get_or (map string_bytes keys) i d.name)) (sym (name j h))
    ∙ names_rise keys i j d.name sorted low (omega (arith, len, same, all_keys, h))
