-- A number put into its place among numbers that rise.
use Rattle.std.proofs.Common.{◌≡◌, ◌⊎◌, ℕ, ◌+◌, ◌-◌, ◌<◌, ◌≤◌, List, length, get_or, ap, ◌∙◌, sym, arith, inl, inr, Ok, Err}
use Rattle.std.specs.List.{Contains, insert}
use Rattle.std.specs.List.Sorted.{IsStrictlyIncreasing, IsBinarySearchResult}
use Rattle.std.specs.Ordering.{nat_cmp}
use Rattle.std.proofs.lemmas.List.Sorted.{searched}
use Rattle.std.proofs.lemmas.List.Edits.{get_or-insert_at, get_or-insert_below, get_or-insert_above, length-insert}
use Rattle.std.proofs.lemmas.List.Kept.{AllPairs-from_increasing}
use Rattle.std.proofs.lemmas.Bool.{cases_order, cases_lt, cases_eq}
use Rattle.bf_interval.specs.inner.Search.{Adds}

-- all before the place are smaller, and all from there on are greater
pub record IsPlace (xs : List ℕ) (x place : ℕ) : Type 0 where
  pub inside : place ≤ length xs
  pub below : (k : ℕ) → k < place → get_or xs k 0 < x
  pub above : (k : ℕ) → place ≤ k → k < length xs → x < get_or xs k 0

-- the list after the insertion, index by index
record IsInserted (xs : List ℕ) (x place : ℕ) (ys : List ℕ) : Type 0 where
  pub len : length ys ≡ length xs + 1
  pub at : (d : ℕ) → get_or ys place d ≡ x
  pub before : (k d : ℕ) → k < place → get_or ys k d ≡ get_or xs k d
  pub after : (k d : ℕ) → place ≤ k → get_or ys (k + 1) d ≡ get_or xs k d

inserted_is : (xs : List ℕ) (x place : ℕ) → place ≤ length xs → IsInserted xs x place (insert xs place x)
inserted_is xs x place inside = record {
  len = length-insert xs place x inside;
  at = λ d. get_or-insert_at xs place x d inside;
  before = λ k d l. get_or-insert_below xs place x d k l inside;
  after = λ k d l. get_or-insert_above xs place x d k l inside;
}

rising_insert : (xs ys : List ℕ) (x place : ℕ) → IsStrictlyIncreasing xs → IsPlace xs x place → IsInserted xs x place ys → IsStrictlyIncreasing ys
rising_insert xs ys x place rising at new k small =
    elim (cases_order (k + 1) place) as (λ _. get_or ys k 0 < get_or ys (k + 1) 0) [
      | inl e ↦ omega (arith, new.before k 0 (omega arith), at.below k (omega arith), new.at 0, ap (λ j. get_or ys j 0) e)
      | inr r ↦ elim r as (λ _. get_or ys k 0 < get_or ys (k + 1) 0) [
        | inl l ↦ omega (arith, new.before k 0 (omega arith), new.before (k + 1) 0 l, rising k (omega arith))
        | inr g ↦ elim (cases_order k place) as (λ _. get_or ys k 0 < get_or ys (k + 1) 0) [
          | inl e ↦ omega (arith, new.at 0, ap (λ j. get_or ys j 0) e, new.after k 0 (omega arith), at.above k (omega arith) (omega arith))
          | inr q ↦ let s : k ≡ (k - 1) + 1 = omega arith in
              omega (arith, ap (λ j. get_or ys j 0) s, new.after (k - 1) 0 (omega arith), new.after k 0 (omega arith), ap (λ j. get_or xs j 0) s, rising (k - 1) (omega arith))
        ]
      ]
    ]

pub rises : (xs : List ℕ) → IsStrictlyIncreasing xs → (i j : ℕ) → i ≤ j → j < length xs → get_or xs i 0 ≤ get_or xs j 0
rises xs rising i j l small = elim (cases_eq i j) as (λ _. get_or xs i 0 ≤ get_or xs j 0) [
  | inl e ↦ omega (arith, ap (λ k. get_or xs k 0) e)
  | inr n ↦ omega (arith, AllPairs-from_increasing xs rising i j 0 (omega arith) small)
]

pub place_found : (xs : List ℕ) (x place : ℕ) → IsStrictlyIncreasing xs → IsBinarySearchResult (λ y. nat_cmp y x) xs (Err place) → IsPlace xs x place
place_found xs x place rising found =
    let at = searched xs x (Err place) found (rises xs rising) in
    record { inside = at.0; below = at.1; above = at.2 }

-- all up to the place where it is found are at most that number, and all behind are greater
pub found_at : (xs : List ℕ) (x place : ℕ) → IsStrictlyIncreasing xs → IsBinarySearchResult (λ y. nat_cmp y x) xs (Ok place)
    → ((k : ℕ) → k < place + 1 → get_or xs k 0 ≤ x) × ((k : ℕ) → place + 1 ≤ k → k < length xs → x < get_or xs k 0)
found_at xs x place rising found =
    let at = searched xs x (Ok place) found (rises xs rising) in (
      λ k before. omega (arith, at.1, rises xs rising k place (omega arith) at.0),
      λ k behind small. omega (arith, at.1, AllPairs-from_increasing xs rising place k 0 (omega arith) small),
    )

adds_insert : (xs ys : List ℕ) (x place : ℕ) → IsPlace xs x place → IsInserted xs x place ys → Adds x xs ys
adds_insert xs ys x place at new = record {
  has = (place, omega arith, new.at x);
  keeps = λ m h. elim (cases_lt h.0 place) as (λ _. Contains ys m) [ inl l ↦ (h.0, omega arith, new.before h.0 m l ∙ h.2) | inr g ↦ (h.0 + 1, omega arith, new.after h.0 m g ∙ h.2) ];
  only = λ m h. elim (cases_order h.0 place) as (λ _. (m ≡ x) ⊎ Contains xs m) [
    | inl e ↦ inl (sym h.2 ∙ ap (λ k. get_or ys k m) e ∙ new.at m)
    | inr r ↦ elim r as (λ _. (m ≡ x) ⊎ Contains xs m) [
      | inl l ↦ inr (h.0, omega arith, sym (new.before h.0 m l) ∙ h.2)
      | inr g ↦ let s : h.0 ≡ (h.0 - 1) + 1 = omega arith in inr (h.0 - 1, omega arith, sym (new.after (h.0 - 1) m (omega arith)) ∙ ap (λ k. get_or ys k m) (sym s) ∙ h.2)
    ]
  ];
}

-- a number put where the search says that it's missing
pub put_at : (xs : List ℕ) (x place : ℕ) → IsStrictlyIncreasing xs → IsBinarySearchResult (λ y. nat_cmp y x) xs (Err place) → IsStrictlyIncreasing (insert xs place x) × Adds x xs (insert xs place x)
put_at xs x place rising missing =
    let at = place_found xs x place rising missing in
    let new = inserted_is xs x place at.inside in
    (rising_insert xs _ x place rising at new, adds_insert xs _ x place at new)
