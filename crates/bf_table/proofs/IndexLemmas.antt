-- Finding the first entry by what entries name.
use Rattle.std.proofs.Common.{◌≡◌, ℕ, suc, ◌<◌, ◌+◌, Bool, true, false, cond, if◌then◌else◌, List, ◌∷◌, length, get_or, drop, Option, Some, None, option_map, refl, sym, ap, ◌∙◌, arith, [], ◌++◌}
use Rattle.std.specs.BTreeMap as tree
use Rattle.std.specs.Map.{lookup}
use Rattle.std.specs.Ordering.{is_eq, eq_by_cmp}
use Rattle.std.specs.Cmp.{IsTotalOrder, nat_cmp_total, int_cmp_total, then_total, on_total, eq_by_cmp_equiv}
use Rattle.std.specs.Cmp.Lexicographic.{options_total, lists_total}
use Rattle.std.proofs.lemmas.List.{nil_from_length}
use Rattle.bf_value.proofs.ReadLemmas.{drop_item}
use Rattle.bf_plan.proofs.ListLemmas.{position_cons}
use Rattle.bf_table.specs.declared.table.TableEntry.{TableEntry}
use Rattle.bf_table.specs.declared.table_index.Pattern.{Pattern}
use Rattle.bf_table.specs.TableIndex.{first_of_key, is_pattern, pattern_cmp, pattern_in}
use Rattle.bf_table.specs.inner.TableIndex.{earlier_place_of, first_of_keys}

-- ---- the earliest

pub earlier_assoc : (a b c : Option ℕ) → earlier_place_of (earlier_place_of a b) c ≡ earlier_place_of a (earlier_place_of b c)
earlier_assoc None b c = refl
earlier_assoc (Some a) None c = refl
earlier_assoc (Some a) (Some b) None = refl
earlier_assoc (Some a) (Some b) (Some c) = ap Some (omega arith)

-- what is found for two keys
pub two_keys : (get : Pattern → Option ℕ) (one other : Pattern) → earlier_place_of (get one) (get other) ≡ first_of_keys get (one ∷ other ∷ [])
two_keys get one other = ap (earlier_place_of (get one)) (alone (get other))
  where
    alone : (o : Option ℕ) → o ≡ earlier_place_of o None
    alone None = refl
    alone (Some n) = refl

-- what is found for two groups of keys
pub two_groups : (get : Pattern → Option ℕ) (ones others : List Pattern) → earlier_place_of (first_of_keys get ones) (first_of_keys get others) ≡ first_of_keys get (ones ++ others)
two_groups get [] others = refl
two_groups get (key ∷ keys) others = earlier_assoc (get key) (first_of_keys get keys) (first_of_keys get others) ∙ ap (earlier_place_of (get key)) (two_groups get keys others)

-- what is found for the same keys again
earlier_same : (a : Option ℕ) → a ≡ earlier_place_of a a
earlier_same None = refl
earlier_same (Some n) = ap Some (omega arith)

pub key_again : (get : Pattern → Option ℕ) (one other : Pattern) → one ≡ other → get one ≡ first_of_keys get (one ∷ other ∷ [])
key_again get one other same = earlier_same (get one) ∙ ap (λ k. earlier_place_of (get one) (get k)) same ∙ two_keys get one other

pub group_again : (get : Pattern → Option ℕ) (ones others : List Pattern) → ones ≡ others → first_of_keys get ones ≡ first_of_keys get (ones ++ others)
group_again get ones others same =
    earlier_same (first_of_keys get ones) ∙ ap (λ ks. earlier_place_of (first_of_keys get ones) (first_of_keys get ks)) same ∙ two_groups get ones others

-- where there is no key, none is found
pub nothing_found : (firsts : tree.BTreeMap Pattern ℕ) (keys : List Pattern) → tree.btree_map_len firsts ≡ 0 → None ≡ first_of_keys (tree.get pattern_cmp firsts) keys
nothing_found firsts [] empty = refl
nothing_found firsts (key ∷ keys) empty =
    nothing_found firsts keys empty
    ∙ sym (ap (λ es. earlier_place_of (lookup (tree.is_at (pattern_cmp key)) es) (first_of_keys (tree.get pattern_cmp firsts) keys)) (nil_from_length firsts.entries empty))

-- ---- each pattern's first entry

pub pattern_cmp_total : IsTotalOrder pattern_cmp
pattern_cmp_total = then_total (on_total (λ p. p.task) (options_total nat_cmp_total)) (then_total (on_total (λ p. p.date) (options_total (lists_total nat_cmp_total))) (then_total (on_total (λ p. p.index) (options_total int_cmp_total)) (on_total (λ p. p.attempt) (options_total int_cmp_total))))

pattern_turned : (a b : Pattern) → eq_by_cmp pattern_cmp a b ≡ eq_by_cmp pattern_cmp b a
pattern_turned a b = (eq_by_cmp_equiv pattern_cmp_total).symm a b

later : (n : ℕ) (o : Option ℕ) → option_map (λ k. n + 1 + k) o ≡ option_map (λ k. n + k) (option_map suc o)
later n None = refl
later n (Some k) = ap Some (omega arith)

at_number : (n : ℕ) (has : Bool) (rest old : Option ℕ) → old ≡ option_map (λ k. n + 1 + k) rest → cond has (Some n) old ≡ option_map (λ k. n + k) (if has then Some 0 else option_map suc rest)
at_number n true rest old before = ap Some (omega arith)
at_number n false rest old before = before ∙ later n rest

module _ (ids : List (List ℕ)) (entries : List TableEntry) (n : ℕ) (e : TableEntry) (within : n < length entries) (is : e ≡ get_or entries n e) where
  abbrev pub from : (key : Pattern) → ℕ → Option ℕ
  from key i = option_map (λ k. i + k) (first_of_key ids (drop i entries) key)

  opened : (key : Pattern) → from key n ≡ option_map (λ k. n + k) (if is_pattern key (pattern_in ids e) then Some 0 else option_map suc (first_of_key ids (drop (n + 1) entries) key))
  opened key =
      ap (λ es. option_map (λ k. n + k) (first_of_key ids es key)) (drop_item entries n e within is)
      ∙ ap (option_map (λ k. n + k)) (position_cons (λ x. is_pattern key (pattern_in ids x)) e (drop (n + 1) entries))

  pub pattern_noted : (p : Pattern) (key : Pattern) (old new : Option ℕ) → pattern_in ids e ≡ Some p → new ≡ cond (is_eq (pattern_cmp p key)) (Some n) old → old ≡ from key (n + 1) → new ≡ from key n
  pattern_noted p key old new has step before =
      step ∙ ap (λ b. cond b (Some n) old) (pattern_turned p key) ∙ at_number n (is_pattern key (Some p)) (first_of_key ids (drop (n + 1) entries) key) old before
      ∙ ap (λ o. option_map (λ k. n + k) (if is_pattern key o then Some 0 else option_map suc (first_of_key ids (drop (n + 1) entries) key))) (sym has) ∙ sym (opened key)
