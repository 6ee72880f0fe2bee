-- A seed with an index beside the same one without.
use Rattle.std.proofs.Common.{◌≡◌, ◌⊎◌, inl, inr, ◌↔◌, ℕ, zero, suc, ◌<◌, ◌≤◌, ℤ, pos, List, [], ◌∷◌, Contains, None, Some, sym, ap, ◌∙◌, subst, arith}
use Rattle.bf_plan.specs.declared.plan.Dag.{Dag}
use Rattle.bf_plan.specs.Sound.{IsSound}
use Rattle.bf_dependents.specs.declared.place.Place.{Place}
use Rattle.bf_dependents.specs.Dependents.{IsDependent}

the_one : (p q : Place) → Contains (p ∷ []) q → q ≡ p
the_one p q (zero, l, e) = sym e
the_one p q (suc j, l, e) = absurd (omega (arith, l))

module _ (dag : Dag) (sound : IsSound dag) (k t : ℕ) (n : ℤ) where
  abbrev one : List Place
  one = record { run = k; task = t; index = Some n } ∷ []

  abbrev whole : List Place
  whole = record { run = k; task = t; index = None } ∷ []

  -- what follows stands in a later run, or in the same behind the task or at it
  behind : (m s : ℕ) (i : ℤ) → IsDependent dag one m s i → (k < m) ⊎ ((m ≡ k) × (sound.rank t ≤ sound.rank s))
  behind m s i (IsDependent.Seed c) = let e : _ = the_one _ _ c in let no : None ≡ Some n = ap (λ (p : Place). p.index) e in cc
  behind m s i (IsDependent.SeedAt c) =
      let e : _ = the_one _ _ c in
      let task : s ≡ t = ap (λ (p : Place). p.task) e in
      inr (ap (λ (p : Place). p.run) e, rw task (omega arith))
  behind m s i (IsDependent.Downstream {u = u} {j = j} h d) = elim (behind m u j d) as (λ _. (k < m) ⊎ ((m ≡ k) × (sound.rank t ≤ sound.rank s))) [
    | inl l ↦ inl l
    | inr e ↦ let rises : sound.rank u < sound.rank s = sound.rises s u h in inr (e.0, omega (arith, rises, e.1))
  ]
  behind (suc m) s i (IsDependent.NextRun {j = j} h d) = elim (behind m s j d) as (λ _. (k < suc m) ⊎ ((suc m ≡ k) × (sound.rank t ≤ sound.rank s))) [
    | inl l ↦ inl (omega (arith, l))
    | inr e ↦ inl (omega (arith, e.0))
  ]

  weaker : (m s : ℕ) (i : ℤ) → IsDependent dag one m s i → IsDependent dag whole m s i
  weaker m s i (IsDependent.Seed c) = let e : _ = the_one _ _ c in let no : None ≡ Some n = ap (λ (p : Place). p.index) e in cc
  weaker m s i (IsDependent.SeedAt c) =
      let e : _ = the_one _ _ c in
      let same : ◌≡◌ {A = Place} (record { run = k; task = t; index = None }) (record { run = m; task = s; index = None }) = sym (ap (λ (p : Place). record { run = p.run; task = p.task; index = None }) e) in
      IsDependent.Seed (0, omega arith, same)
  weaker m s i (IsDependent.Downstream h d) = IsDependent.Downstream h (weaker _ _ _ d)
  weaker (suc m) s i (IsDependent.NextRun h d) = IsDependent.NextRun h (weaker _ _ _ d)

  -- of its own task nothing else follows
  alone : (m s : ℕ) (i : ℤ) → IsDependent dag one m s i → m ≡ k → s ≡ t → i ≡ n
  alone m s i (IsDependent.Seed c) run task = let e : _ = the_one _ _ c in let no : None ≡ Some n = ap (λ (p : Place). p.index) e in cc
  alone m s i (IsDependent.SeedAt c) run task = let e : _ = the_one _ _ c in let index : Some i ≡ Some n = ap (λ (p : Place). p.index) e in cc
  alone m s i (IsDependent.Downstream {u = u} {j = j} h d) run task =
      let rises : sound.rank u < sound.rank t = subst (λ (x : ℕ). sound.rank u < sound.rank x) task (sound.rises s u h) in
      elim (behind m u j d) as (λ _. i ≡ n) [
        | inl l ↦ absurd (omega (arith, l, run))
        | inr e ↦ absurd (omega (arith, rises, e.1))
      ]
  alone (suc m) s i (IsDependent.NextRun {j = j} h d) run task = elim (behind m s j d) as (λ _. i ≡ n) [
    | inl l ↦ absurd (omega (arith, l, run))
    | inr e ↦ absurd (omega (arith, e.0, run))
  ]

  some_one : (m s : ℕ) (i : ℤ) → IsDependent dag whole m s i → (j : ℤ) × IsDependent dag one m s j
  some_one m s i (IsDependent.Seed c) =
      let e : _ = the_one _ _ c in
      let same : ◌≡◌ {A = Place} (record { run = k; task = t; index = Some n }) (record { run = m; task = s; index = Some n }) = sym (ap (λ (p : Place). record { run = p.run; task = p.task; index = Some n }) e) in
      (n, IsDependent.SeedAt (0, omega arith, same))
  some_one m s i (IsDependent.SeedAt c) = let e : _ = the_one _ _ c in let no : Some i ≡ None = ap (λ (p : Place). p.index) e in cc
  some_one m s i (IsDependent.Downstream h d) = (pos 0, IsDependent.Downstream h (some_one _ _ _ d).1)
  some_one (suc m) s i (IsDependent.NextRun h d) = (pos 0, IsDependent.NextRun h (some_one _ _ _ d).1)

  stronger : (m s : ℕ) (i : ℤ) → IsDependent dag whole m s i → (m ≡ k → s ≡ t → i ≡ n) → IsDependent dag one m s i
  stronger m s i (IsDependent.Seed c) only =
      let e : _ = the_one _ _ c in
      let index : i ≡ n = only (ap (λ (p : Place). p.run) e) (ap (λ (p : Place). p.task) e) in
      let same : ◌≡◌ {A = Place} (record { run = k; task = t; index = Some n }) (record { run = m; task = s; index = Some i }) =
      sym (ap (λ (p : Place). record { run = p.run; task = p.task; index = Some i }) e ∙ ap (λ (x : ℤ). record { run = k; task = t; index = Some x }) index) in
      IsDependent.SeedAt (0, omega arith, same)
  stronger m s i (IsDependent.SeedAt c) only = let e : _ = the_one _ _ c in let no : Some i ≡ None = ap (λ (p : Place). p.index) e in cc
  stronger m s i (IsDependent.Downstream h d) only = IsDependent.Downstream h (some_one _ _ _ d).1
  stronger (suc m) s i (IsDependent.NextRun h d) only = IsDependent.NextRun h (some_one _ _ _ d).1

  pub neighbours_stay : (m s : ℕ) (i : ℤ) → IsDependent dag one m s i ↔ (IsDependent dag whole m s i × (m ≡ k → s ≡ t → i ≡ n))
  neighbours_stay m s i = (λ d. (weaker m s i d, alone m s i d), λ both. stronger m s i both.0 both.1)
