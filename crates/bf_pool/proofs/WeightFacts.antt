-- The tasks that count for a task, as a list and as a test.
use Rattle.std.proofs.Common.{Result, Ok, Err, IfOk, ◌≡◌, inl, inr, ℕ, zero, suc, ◌+◌, ◌*◌, ◌<◌, ◌≤◌, ◌==◌, ◌||◌, cond, Bool, true, false, List, [], ◌∷◌, length, get_or, All, AllPairs, Contains, refl, sym, ap, ◌∙◌, subst, arith, true≢false}
use Rattle.std.specs.List.{list_any, filter, range_with_len, sum_by}
use Rattle.std.proofs.Math.ListN.{get_or-eq_default}
use Rattle.std.proofs.lemmas.Bool.{cases_Bool, cases_lt, eqb-true, eq-eqb, false_from_ne_true}
use Rattle.std.proofs.lemmas.List.Kept.{AllPairs-from_increasing}
use Rattle.std.proofs.lemmas.List.{length-map}
use Rattle.std.proofs.lemmas.List.Elements.{All-filter}
use Rattle.std.proofs.lemmas.List.Sums.{sum_by-cons, sum_by-le}
use Rattle.std.proofs.lemmas.List.FromFn.{length-range_with_len, get_or-range_with_len}
use Rattle.std.proofs.lemmas.Map.Made.{Contains-tail}
use Rattle.bf_graph.specs.Edges.{upstreams_of, AreInRange}
use Rattle.bf_graph.specs.Ranks.{Ranking}
use Rattle.bf_graph.specs.Reach.{IsPath, IsRow, Reaches, is_marked_in}
use Rattle.bf_graph.specs.Lookups.{IsRisingListOf}
use Rattle.bf_graph.proofs.PathLemmas.{task_within, first_edge}
use Rattle.bf_plan.specs.declared.plan.Task.{Task}
use Rattle.bf_plan.specs.declared.plan.Dag.{Dag}
use Rattle.bf_plan.specs.Plans.{shape_of}
use Rattle.bf_plan.specs.declared.plan.Limits.{Limits}
use Rattle.bf_plan.specs.Sound.{IsSound, IsOneOf, demand_of}
use Rattle.bf_plan.proofs.PlanLemmas.{one_contained, upstreams_of_task}
use Rattle.bf_plan.proofs.ListLemmas.{any_contained}
use Rattle.bf_pool.specs.Weights.{leads_within, does_reach, weight_sum_of}

-- ---- what a sound plan tells

pub tasks_there : (dag : Dag) → length (shape_of dag).upstreams ≡ length dag.tasks
tasks_there dag = length-map dag.tasks (λ (task : Task). task.upstreams)

pub in_range : (dag : Dag) → IsSound dag → AreInRange (shape_of dag).upstreams
in_range dag sound t u up =
    omega (arith, tasks_there dag, sound.in_range t u (subst (λ (us : List ℕ). IsOneOf us u) (sym (upstreams_of_task dag t)) (one_contained (upstreams_of (shape_of dag).upstreams t) u up)))

-- ---- tests on lists

pub any_of : {X : Type 0} (p : X → Bool) (xs : List X) → list_any p xs ≡ true → (x : X) × Contains xs x × (p x ≡ true)
any_of p [] e = absurd (true≢false (sym e))
any_of p (y ∷ ys) e = elim (cases_Bool (p y)) [
  | inl passed ↦ (y, (0, omega arith, refl), passed)
  | inr failed ↦ let rest = any_of p ys (rw failed at e) in let (x, (k, h, at), passes) = rest in (x, (suc k, omega (arith, h), at), passes)
]

-- ---- paths

module _ (ups : List (List ℕ)) where
  path_from_leads : (n a t : ℕ) → leads_within ups n a t ≡ true → Reaches ups a t
  path_from_leads zero a t e = absurd (true≢false (sym e))
  path_from_leads (suc n) a t e =
      let (u, up, test) = any_of (λ v. a == v || leads_within ups n a v) (upstreams_of ups t) e in
      elim (cases_Bool (a == u)) [
        | inl same ↦ (0, (u, up, eqb-true a u same))
        | inr other ↦ let (m, p) = path_from_leads n a u (rw other at test) in (suc m, (u, up, p))
      ]

  leads_from_path : (n m a t : ℕ) → m < n → IsPath ups a (suc m) t → leads_within ups n a t ≡ true
  leads_from_path zero m a t h p = absurd (omega arith)
  leads_from_path (suc n) zero a t h (u, up, same) =
      let first : (a == u) ≡ true = eq-eqb a u same in
      any_contained (λ v. a == v || leads_within ups n a v) (upstreams_of ups t) u up (rw first refl)
  leads_from_path (suc n) (suc m) a t h (u, up, p) =
      let rest : leads_within ups n a u ≡ true = leads_from_path n m a u (omega arith) p in
      any_contained (λ v. a == v || leads_within ups n a v) (upstreams_of ups t) u up
      (elim (cases_Bool (a == u)) as (λ _. (a == u || leads_within ups n a u) ≡ true) [ inl e ↦ rw e refl | inr e ↦ rw e rest ])

  -- a path has no more edges than the rank where it ends
  path_rank : (r : Ranking ups) (n a t : ℕ) → IsPath ups a n t → n ≤ r.rank t
  path_rank r zero a t p = omega arith
  path_rank r (suc n) a t (u, up, p) = let below = path_rank r n a u p in omega (arith, below, r.rises t u up)

  pub reach_test : Ranking ups → (a t : ℕ) → Reaches ups a t → does_reach ups a t ≡ true
  unfolding does_reach
  reach_test r a t (n, p) = leads_from_path (length ups) n a t (omega (arith, path_rank r (suc n) a t p, r.bounded t)) p

  pub reach_path : (a t : ℕ) → does_reach ups a t ≡ true → Reaches ups a t
  unfolding does_reach
  reach_path a t e = path_from_leads (length ups) a t e

  begins_within : AreInRange ups → (a t : ℕ) → Reaches ups a t → a < length ups
  begins_within inside a t (n, p) = let (b, up, rest) = first_edge ups a n t p in inside b a up

  reach_within : (a t : ℕ) → Reaches ups a t → t < length ups
  reach_within a t (n, (u, up, p)) = task_within ups u t up

-- ---- rising lists

contains_later : (x t : ℕ) (xs : List ℕ) → Contains xs t → Contains (x ∷ xs) t
contains_later x t xs (k, h, e) = (suc k, omega (arith, h), e)

rising_later : (x : ℕ) (xs : List ℕ) → AllPairs (λ x y. x < y) (x ∷ xs) → AllPairs (λ x y. x < y) xs
rising_later x xs rising i j d h within = rising (suc i) (suc j) d (omega arith) (omega (arith, within))

first_is_least : (x t : ℕ) (xs : List ℕ) → AllPairs (λ x y. x < y) (x ∷ xs) → Contains xs t → x < t
first_is_least x t xs rising (k, h, e) = let below = rising 0 (suc k) t (omega arith) (omega (arith, h)) in omega (arith, below, e)

module _ (p : ℕ → Bool) where
  -- a rising list has just the numbers that pass among n from a on
  record IsKept (a n : ℕ) (xs : List ℕ) : Type 0 where
    rising : AllPairs (λ x y. x < y) xs
    only : (t : ℕ) → Contains xs t → (a ≤ t) × (t < a + n) × (p t ≡ true)
    all : (t : ℕ) → a ≤ t → t < a + n → p t ≡ true → Contains xs t

  first_kept : (a n : ℕ) (xs : List ℕ) → p a ≡ true → IsKept a (suc n) xs → (rest : List ℕ) × (xs ≡ a ∷ rest) × IsKept (a + 1) n rest
  first_kept a n [] passed is = let (k, h, e) = is.all a (omega arith) (omega arith) passed in absurd (omega (arith, h))
  first_kept a n (x ∷ xs) passed is =
      let low = is.only x (0, omega arith, refl) in
      let same : x ≡ a = elim (cases_lt a x) as (λ _. x ≡ a) [
        | inl lt ↦
            let ne : x ≡ a → ⊥ = λ e. omega (arith, e) in
            let later = first_is_least x a xs is.rising (Contains-tail x xs a ne (is.all a (omega arith) (omega arith) passed)) in
            absurd (omega (arith, later))
        | inr ge ↦ omega (arith, low.0)
      ] in (
        xs,
        ap (λ y. y ∷ xs) same,
        record {
          rising = rising_later x xs is.rising;
          only = λ t has. let at = is.only t (contains_later x t xs has) in let above = first_is_least x t xs is.rising has in (omega (arith, above, same), omega (arith, at.1), at.2);
          all = λ t low high passes. Contains-tail x xs t (λ e. omega (arith, e, same)) (is.all t (omega arith) (omega arith) passes);
        },
      )

  none_first : (a n : ℕ) (xs : List ℕ) → p a ≡ false → IsKept a (suc n) xs → IsKept (a + 1) n xs
  none_first a n xs failed is = record {
    rising = is.rising;
    only = λ t has. let at = is.only t has in
        elim (cases_lt a t) as (λ _. (a + 1 ≤ t) × (t < (a + 1) + n) × (p t ≡ true)) [
          | inl lt ↦ (omega arith, omega (arith, at.1), at.2)
          | inr ge ↦ let same : t ≡ a = omega (arith, at.0) in absurd (true≢false (sym at.2 ∙ ap p same ∙ failed))
        ];
    all = λ t low high passes. is.all t (omega arith) (omega arith) passes;
  }

  kept_by : (a n : ℕ) (xs : List ℕ) → IsKept a n xs → xs ≡ filter p (range_with_len a n)
  kept_by a zero [] is = refl
  kept_by a zero (x ∷ xs) is = let at = is.only x (0, omega arith, refl) in absurd (omega (arith, at.0, at.1))
  kept_by a (suc n) xs is = elim (cases_Bool (p a)) as (λ _. xs ≡ cond (p a) (a ∷ filter p (range_with_len (a + 1) n)) (filter p (range_with_len (a + 1) n))) [
    | inl passed ↦ let (rest, head, kept) = first_kept a n xs passed is in rw passed (head ∙ ap (λ ys. a ∷ ys) (kept_by (a + 1) n rest kept))
    | inr failed ↦ rw failed (kept_by (a + 1) n xs (none_first a n xs failed is))
  ]

-- the list of the tasks with a property is what a test keeps that decides it
pub rising_list_is : (P : ℕ → Type 0) (p : ℕ → Bool) (n : ℕ) (xs : List ℕ) → IsRisingListOf P xs → ((t : ℕ) → P t → (t < n) × (p t ≡ true)) → ((t : ℕ) → p t ≡ true → P t)
    → xs ≡ filter p (range_with_len 0 n)
rising_list_is P p n xs is passes holds = kept_by p 0 n xs (record {
  rising = AllPairs-from_increasing xs is.rising;
  only = λ t has. let at = passes t ((is.exact t).0 has) in (omega arith, omega (arith, at.0), at.1);
  all = λ t low high e. (is.exact t).1 (holds t e);
})

pub descendants_are : (ups : List (List ℕ)) (t : ℕ) (xs : List ℕ) → Ranking ups → IsRisingListOf (Reaches ups t) xs → xs ≡ filter (does_reach ups t) (range_with_len 0 (length ups))
descendants_are ups t xs r is = rising_list_is (Reaches ups t) (does_reach ups t) (length ups) xs is (λ u reaches. (reach_within ups t u reaches, reach_test ups r t u reaches)) (reach_path ups t)

pub ancestors_are : (ups : List (List ℕ)) (t : ℕ) (xs : List ℕ) → Ranking ups → AreInRange ups → IsRisingListOf (λ a. Reaches ups a t) xs → xs ≡ filter (λ a. does_reach ups a t) (range_with_len 0 (length ups))
ancestors_are ups t xs r inside is = rising_list_is (λ a. Reaches ups a t) (λ a. does_reach ups a t) (length ups) xs is (λ a reaches. (begins_within ups inside a t reaches, reach_test ups r a t reaches)) (λ a. reach_path ups a t)

pub none_are : (a n : ℕ) → filter (λ u. false) (range_with_len a n) ≡ []
none_are a zero = refl
none_are a (suc n) = none_are (a + 1) n

-- what a test keeps of n numbers is no more than n of them
pub kept_there : (p : ℕ → Bool) (n : ℕ) → All (λ t. t < n) (filter p (range_with_len 0 n))
kept_there p n = All-filter p (λ t. t < n) (range_with_len 0 n) (λ k d h. let within : k < n = omega (arith, h, length-range_with_len 0 n) in omega (arith, within, get_or-range_with_len 0 n k d within))

pub few_kept : (p : ℕ → Bool) (a n : ℕ) → length (filter p (range_with_len a n)) ≤ n
few_kept p a zero = omega arith
few_kept p a (suc n) = elim (cases_Bool (p a)) as (λ _. length (cond (p a) (a ∷ filter p (range_with_len (a + 1) n)) (filter p (range_with_len (a + 1) n))) ≤ suc n) [
  | inl passed ↦ rw passed (omega (arith, few_kept p (a + 1) n))
  | inr failed ↦ rw failed (omega (arith, few_kept p (a + 1) n))
]

pub if_ok : {A E : Type 0} (P Q : A → Type 0) (r : Result A E) → ((a : A) → P a → Q a) → IfOk r P → IfOk r Q
if_ok P Q (Ok a) f h = f a h
if_ok P Q (Err e) f h = tt

-- ---- sums over more tasks

module _ (f : ℕ → ℕ) (p : ℕ → Bool) where
  -- what a number adds to the sum over those that pass
  abbrev pub added : ℕ → ℕ
  added n = cond (p n) (f n) 0

  sum_with_first : (x : ℕ) (xs : List ℕ) → sum_by f (filter p (x ∷ xs)) ≡ added x + sum_by f (filter p xs)
  sum_with_first x xs = elim (cases_Bool (p x)) as (λ _. sum_by f (cond (p x) (x ∷ filter p xs) (filter p xs)) ≡ cond (p x) (f x) 0 + sum_by f (filter p xs)) [
    | inl passed ↦ rw passed (sum_by-cons f x (filter p xs))
    | inr failed ↦ rw failed (omega arith)
  ]

  pub sum_with_last : (a n : ℕ) → sum_by f (filter p (range_with_len a (suc n))) ≡ sum_by f (filter p (range_with_len a n)) + added (a + n)
  sum_with_last a zero = let same : added (a + 0) ≡ added a = ap added (omega arith) in let all = sum_with_first a [] in omega (arith, all, same)
  sum_with_last a (suc n) =
      let same : added ((a + 1) + n) ≡ added (a + suc n) = ap added (omega arith) in
      let all = sum_with_first a (range_with_len (a + 1) (suc n)) in
      let but_last = sum_with_first a (range_with_len (a + 1) n) in
      omega (arith, all, but_last, sum_with_last (a + 1) n, same)

module _ (limits : Limits) (light : (t : ℕ) → (demand_of limits t).weight ≤ 1_000_000) where
  pub sum_is_light : (p : ℕ → Bool) (n : ℕ) → weight_sum_of limits (filter p (range_with_len 0 n)) ≤ n * 1_000_000
  sum_is_light p n =
      let xs = filter p (range_with_len 0 n) in
      let all = sum_by-le (λ t. (demand_of limits t).weight) 1_000_000 xs (λ k d h. light (get_or xs k d)) in
      omega (arith, all, few_kept p 0 n)

  pub sums_are_light : (p : ℕ → ℕ → Bool) (sums : List ℕ) (n u : ℕ) → length sums ≡ n → ((t : ℕ) → t < n → get_or sums t 0 ≡ weight_sum_of limits (filter (p t) (range_with_len 0 u))) →
      (t : ℕ) → get_or sums t 0 ≤ u * 1_000_000
  sums_are_light p sums n u len are t = elim (cases_lt t n) as (λ _. get_or sums t 0 ≤ u * 1_000_000) [
    | inl lt ↦ omega (arith, are t lt, sum_is_light (p t) u)
    | inr ge ↦ let none : get_or sums t 0 ≡ 0 = get_or-eq_default sums 0 (omega (arith, ge, len)) in omega (arith, none)
  ]

module _ (ups : List (List ℕ)) (r : Ranking ups) (n u : ℕ) (row : List Bool) (is : IsRow ups n u row) where
  -- a mark says what the test does
  mark_is_test : (t : ℕ) → t < n → is_marked_in row t ≡ does_reach ups t u
  mark_is_test t h = elim (cases_Bool (does_reach ups t u)) [
    | inl leads ↦ (is.right t h).1 (reach_path ups t u leads) ∙ sym leads
    | inr none ↦ false_from_ne_true (is_marked_in row t) (λ marked. true≢false (sym (reach_test ups r t u ((is.right t h).0 marked)) ∙ none)) ∙ sym none
  ]

  -- the sum so far and what the mark adds to it
  pub sum_with_marked : (limits : Limits) (t : ℕ) → t < n →
      weight_sum_of limits (filter (does_reach ups t) (range_with_len 0 u)) + cond (is_marked_in row t) (demand_of limits u).weight 0
      ≡ weight_sum_of limits (filter (does_reach ups t) (range_with_len 0 (u + 1)))
  sum_with_marked limits t h =
      let same : cond (is_marked_in row t) (demand_of limits u).weight 0 ≡ added (λ v. (demand_of limits v).weight) (does_reach ups t) u = ap (λ b. cond b (demand_of limits u).weight 0) (mark_is_test t h) in
      let last : added (λ v. (demand_of limits v).weight) (does_reach ups t) (0 + u) ≡ added (λ v. (demand_of limits v).weight) (does_reach ups t) u = ap (added (λ v. (demand_of limits v).weight) (does_reach ups t)) (omega arith) in
      let next : weight_sum_of limits (filter (does_reach ups t) (range_with_len 0 (suc u))) ≡ weight_sum_of limits (filter (does_reach ups t) (range_with_len 0 (u + 1))) = let one : suc u ≡ u + 1 = omega arith in ap (λ k. weight_sum_of limits (filter (does_reach ups t) (range_with_len 0 k))) one in
      omega (arith, same, last, next, sum_with_last (λ v. (demand_of limits v).weight) (does_reach ups t) 0 u)
