-- What is listed covers what follows, and nothing else.
use Rattle.std.proofs.Common.{◌≡◌, ◌⊎◌, inl, inr, ◌↔◌, ◌||◌, ℕ, zero, suc, ◌<◌, ◌≤◌, ◌+◌, ℤ, if◌then◌else◌, cond, List, [], ◌∷◌, ◌++◌, length, filter, Contains, Bool, true, false, true≢false, None, Some, refl, sym, ap, ◌∙◌, subst, append_assoc, add-one, arith}
use Rattle.std.proofs.Math.Nat.{eq-or-lt_of_le}
use Rattle.std.proofs.lemmas.Bool.{and_parts, and_from, or_cases, or_left, or_right}
use Rattle.std.proofs.lemmas.Cmp.{eq_by_cmp_equiv}
use Rattle.std.proofs.lemmas.List.Elements.{All-contains, All-contains_itself, All-filter, filter_passes, Contains-append_cases, Contains-append_left, Contains-append_right}
use Rattle.std.proofs.lemmas.Map.Views.{Contains-from_any, list_any-from_Contains, tells_apart}
use Rattle.bf_graph.specs.Reach.{is_marked_in, row_at}
use Rattle.bf_plan.specs.declared.plan.Dag.{Dag}
use Rattle.bf_dependents.specs.declared.place.Place.{Place}
use Rattle.bf_dependents.specs.Dependents.{has_instance_in, has_seed_in, AreDependents, Following, IsDependent}
use Rattle.bf_dependents.specs.Listing.{is_whole_in, places_of_task, places_in, places_of_run, up_to, IsListed}
use Rattle.bf_dependents.specs.Marks.{follows_in, is_of, marks_before_in}
use Rattle.bf_dependents.specs.inner.Places.{place_cmp_total, place_cmp-IsAntisymmetric}
use Rattle.bf_dependents.proofs.RightMarks.{of_itself, of_parts}

-- ---- listed so far

pub up_to_more : (f : ℕ → List Place) (before : List Place) (n : ℕ) → (before ++ up_to f n) ++ f n ≡ before ++ up_to f (n + 1)
up_to_more f before n = append_assoc before (up_to f n) (f n) ∙ ap (λ m. before ++ up_to f m) (sym (add-one n))

pub in_up_to : (f : ℕ → List Place) (n : ℕ) (p : Place) → Contains (up_to f n) p → (i : ℕ) × (i < n) × Contains (f i) p
in_up_to f zero p c = absurd (omega (arith, c.1))
in_up_to f (suc n) p c = elim (Contains-append_cases (up_to f n) (f n) p c) [
  | inl d ↦ let rest : _ = in_up_to f n p d in (rest.0, omega (arith, rest.1), rest.2)
  | inr d ↦ (n, omega arith, d)
]

same_or_below : (i n : ℕ) → i < suc n → (i ≡ n) ⊎ (i < n)
same_or_below i n l = let low : i ≤ n = omega (arith, l) in eq-or-lt_of_le low

pub up_to_has : (f : ℕ → List Place) (n i : ℕ) (p : Place) → i < n → Contains (f i) p → Contains (up_to f n) p
up_to_has f zero i p l c = absurd (omega (arith, l))
up_to_has f (suc n) i p l c = elim (same_or_below i n l) [
  | inl e ↦ Contains-append_right (up_to f n) (f n) p (subst (λ (m : ℕ). Contains (f m) p) e c)
  | inr m ↦ Contains-append_left (up_to f n) (f n) p (up_to_has f n i p m c)
]

-- ---- of one task

in_filter : (f : Place → Bool) (xs : List Place) (p : Place) → Contains (filter f xs) p → Contains xs p × (f p ≡ true)
in_filter f xs p c = (All-contains (Contains xs) (filter f xs) p (All-filter f (Contains xs) xs (All-contains_itself xs)) c, All-contains (λ x. f x ≡ true) (filter f xs) p (filter_passes f xs) c)

behind : (b : Bool) (x : Place) (xs : List Place) (p : Place) → Contains xs p → Contains (cond b (x ∷ xs) xs) p
behind true x xs p c = (suc c.0, omega (arith, c.1), c.2)
behind false x xs p c = c

filter_has : (f : Place → Bool) (xs : List Place) (p : Place) → Contains xs p → f p ≡ true → Contains (filter f xs) p
filter_has f [] p c e = absurd (omega (arith, c.1))
filter_has f (x ∷ xs) p (zero, l, same) e = subst (λ (b : Bool). Contains (cond b (x ∷ filter f xs) (filter f xs)) p) (sym (ap f same ∙ e)) (0, omega arith, same)
filter_has f (x ∷ xs) p (suc k, l, same) e = behind (f x) x (filter f xs) p (filter_has f xs p (k, omega (arith, l), same) e)

abbrev at : ℕ → ℕ → ℤ → Place
at k t i = record { run = k; task = t; index = Some i }

abbrev whole : ℕ → ℕ → Place
whole k t = record { run = k; task = t; index = None }

module _ (dag : Dag) (all : Following) where
  held : (p : Place) → Contains all.seeds p → has_seed_in all.seeds p.run p.task p.index ≡ true
  held p c = list_any-from_Contains (eq_by_cmp_equiv place_cmp_total) p all.seeds c

  -- a place that is listed of a task
  in_places : (k t : ℕ) (p : Place) → Contains (places_of_task dag all k t) p →
      (is_marked_in (row_at all.touched k) t ≡ true) × (((p ≡ whole k t) × (is_whole_in dag all k t ≡ true)) ⊎ ((is_whole_in dag all k t ≡ false) × Contains all.seeds p × (k ≡ p.run) × (t ≡ p.task)))
  in_places k t p c = go (is_marked_in (row_at all.touched k) t) (is_whole_in dag all k t) refl refl c
    where
      go : (m w : Bool) → is_marked_in (row_at all.touched k) t ≡ m → is_whole_in dag all k t ≡ w → Contains (if m then (if w then whole k t ∷ [] else filter (is_of k t) all.seeds) else []) p →
          (is_marked_in (row_at all.touched k) t ≡ true) × (((p ≡ whole k t) × (is_whole_in dag all k t ≡ true)) ⊎ ((is_whole_in dag all k t ≡ false) × Contains all.seeds p × (k ≡ p.run) × (t ≡ p.task)))
      go true true e f (zero, l, same) = (e, inl (sym same, f))
      go true true e f (suc j, l, same) = absurd (omega (arith, l))
      go true false e f d =
          let one : _ = in_filter (is_of k t) all.seeds p d in
          let parts : _ = of_parts k t p one.1 in
          (e, inr (f, one.0, parts.0, parts.1))
      go false w e f (j, l, same) = absurd (omega (arith, l))

  whole_has : (k t : ℕ) (i : ℤ) → is_marked_in (row_at all.touched k) t ≡ true → is_whole_in dag all k t ≡ true → has_instance_in dag all k t i ≡ true
  whole_has k t i m w = and_from _ _ m (elim (or_cases (has_seed_in all.seeds k t None) _ w) [
    | inl h ↦ or_left _ _ h
    | inr h ↦ or_right (has_seed_in all.seeds k t None) _ (or_right (has_seed_in all.seeds k t (Some i)) _ h)
  ])

  single_has : (k t : ℕ) (i : ℤ) → is_marked_in (row_at all.touched k) t ≡ true → has_seed_in all.seeds k t (Some i) ≡ true → has_instance_in dag all k t i ≡ true
  single_has k t i m h = and_from _ _ m (or_right (has_seed_in all.seeds k t None) _ (or_left _ _ h))

  -- what is listed follows
  listed_has : (k t : ℕ) (i : ℤ) → (runs : ℕ) → IsListed (places_in dag all runs) k t i → has_instance_in dag all k t i ≡ true
  listed_has k t i runs (inl c) =
      let run : _ = in_up_to (places_of_run dag all (length dag.tasks)) runs (whole k t) c in
      let task : _ = in_up_to (places_of_task dag all run.0) (length dag.tasks) (whole k t) run.2 in
      let is : _ = in_places run.0 task.0 (whole k t) task.2 in
      elim is.1 [
        | inl e ↦
            let same_run : run.0 ≡ k = sym (ap (λ (p : Place). p.run) e.0) in
            let same_task : task.0 ≡ t = sym (ap (λ (p : Place). p.task) e.0) in
            subst (λ (n : ℕ). has_instance_in dag all n t i ≡ true) same_run (subst (λ (s : ℕ). has_instance_in dag all run.0 s i ≡ true) same_task (whole_has run.0 task.0 i is.0 e.1))
        | inr e ↦
            let marked : is_marked_in (row_at all.touched k) t ≡ true = subst (λ (n : ℕ). is_marked_in (row_at all.touched n) t ≡ true) e.2 (subst (λ (s : ℕ). is_marked_in (row_at all.touched run.0) s ≡ true) e.3 is.0) in
            whole_has k t i marked (or_left _ _ (held (whole k t) e.1))
      ]
  listed_has k t i runs (inr c) =
      let run : _ = in_up_to (places_of_run dag all (length dag.tasks)) runs (at k t i) c in
      let task : _ = in_up_to (places_of_task dag all run.0) (length dag.tasks) (at k t i) run.2 in
      let is : _ = in_places run.0 task.0 (at k t i) task.2 in
      elim is.1 [
        | inl e ↦ let no : Some i ≡ None = ap (λ (p : Place). p.index) e.0 in cc
        | inr e ↦
            let marked : is_marked_in (row_at all.touched k) t ≡ true = subst (λ (n : ℕ). is_marked_in (row_at all.touched n) t ≡ true) e.2 (subst (λ (s : ℕ). is_marked_in (row_at all.touched run.0) s ≡ true) e.3 is.0) in
            single_has k t i marked (held (at k t i) e.1)
      ]

  -- what follows is listed
  has_listed : (k t : ℕ) (i : ℤ) (runs : ℕ) → k < runs → t < length dag.tasks → has_instance_in dag all k t i ≡ true → IsListed (places_in dag all runs) k t i
  has_listed k t i runs l m e = go (is_whole_in dag all k t) refl
    where
      both : (is_marked_in (row_at all.touched k) t ≡ true) × ((has_seed_in all.seeds k t None || (has_seed_in all.seeds k t (Some i) || follows_in dag t [] (marks_before_in all.touched k) (row_at all.touched k))) ≡ true)
      both = and_parts (is_marked_in (row_at all.touched k) t) _ e

      put : (p : Place) → Contains (places_of_task dag all k t) p → Contains (places_in dag all runs) p
      put p c = up_to_has (places_of_run dag all (length dag.tasks)) runs k p l (up_to_has (places_of_task dag all k) (length dag.tasks) t p m c)

      shown : (w : Bool) → is_whole_in dag all k t ≡ w → places_of_task dag all k t ≡ (if w then whole k t ∷ [] else filter (is_of k t) all.seeds)
      shown w f =
          ap (λ b. if b then (if is_whole_in dag all k t then whole k t ∷ [] else filter (is_of k t) all.seeds) else []) both.0
          ∙ ap (λ b. if b then whole k t ∷ [] else filter (is_of k t) all.seeds) f

      single : is_whole_in dag all k t ≡ false → has_seed_in all.seeds k t (Some i) ≡ true
      single f = elim (or_cases (has_seed_in all.seeds k t None) _ both.1) [
        | inl h ↦ absurd (true≢false (sym (or_left (has_seed_in all.seeds k t None) _ h) ∙ f))
        | inr h ↦ elim (or_cases (has_seed_in all.seeds k t (Some i)) _ h) [
          | inl g ↦ g
          | inr g ↦ absurd (true≢false (sym (or_right (has_seed_in all.seeds k t None) _ g) ∙ f))
        ]
      ]

      go : (w : Bool) → is_whole_in dag all k t ≡ w → IsListed (places_in dag all runs) k t i
      go true f = inl (put (whole k t) (subst (λ (ps : List Place). Contains ps (whole k t)) (sym (shown true f)) (0, omega arith, refl)))
      go false f =
          let there : Contains all.seeds (at k t i) = Contains-from_any (tells_apart place_cmp-IsAntisymmetric) (at k t i) all.seeds (single f) in
          inr (put (at k t i) (subst (λ (ps : List Place). Contains ps (at k t i)) (sym (shown false f)) (filter_has (is_of k t) all.seeds (at k t i) there (of_itself k t (at k t i) refl refl))))

pub listed_right : (dag : Dag) (seeds : List Place) (runs : ℕ) (all : Following) → AreDependents dag seeds runs all → (k t : ℕ) (i : ℤ) → k < runs → t < length dag.tasks →
    IsListed (places_in dag all runs) k t i ↔ IsDependent dag seeds k t i
listed_right dag seeds runs all are k t i l m =
    (λ listed. (are.right k t i l m).0 (listed_has dag all k t i runs listed), λ d. has_listed dag all k t i runs l m ((are.right k t i l m).1 d))
