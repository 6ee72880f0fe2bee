-- What is looked up is what follows from the seeds.
use Rattle.std.proofs.Common.{◌≡◌, inl, inr, ◌↔◌, ◌&&◌, ◌||◌, ℕ, zero, suc, ◌<◌, ℤ, pos, List, [], ◌∷◌, length, Contains, Bool, true, false, Option, None, Some, refl, sym, ap, ◌∙◌, subst, take, ◌+◌, slice_index_or, cond, Result, Ok, Err, IfOk, arith}
use Rattle.std.specs.BTreeMap.{is_at}
use Rattle.std.specs.List.{list_any}
use Rattle.std.proofs.lemmas.Bool.{and_parts, and_from, or_cases, or_left, or_right}
use Rattle.std.proofs.lemmas.Cmp.{eq_by_cmp_equiv}
use Rattle.std.proofs.lemmas.List.Folds.{list_any_at, list_any_more}
use Rattle.std.proofs.lemmas.Map.Views.{Contains-from_any, list_any-from_Contains, tells_apart}
use Rattle.bf_graph.specs.Reach.{is_marked_in, row_at}
use Rattle.bf_plan.specs.declared.plan.Dag.{Dag}
use Rattle.bf_plan.specs.Plans.{task_of}
use Rattle.bf_plan.specs.Sound.{IsSound}
use Rattle.bf_dependents.specs.declared.place.Place.{Place}
use Rattle.bf_dependents.specs.Dependents.{has_seed_in, is_led_to_in, AreDependents, Following, IsDependent}
use Rattle.bf_dependents.specs.Marks.{is_of, marks_before_in}
use Rattle.bf_dependents.specs.inner.Marks.{AreTouched, IsTouched}
use Rattle.bf_dependents.specs.Places.{place_cmp}
use Rattle.bf_dependents.specs.inner.Places.{place_cmp_total, place_cmp-IsAntisymmetric}
use Rattle.bf_dependents.specs.inner.Seeded.{HoldSeeds}
use Rattle.bf_dependents.proofs.RightMarks.{marked_one, of_itself, of_parts, one_marked}

-- ---- seeds that are held

pub held_right : (seeds held : List Place) → ((q : Place) → list_any (is_at (place_cmp q)) held ≡ list_any (is_at (place_cmp q)) seeds) → HoldSeeds seeds held
held_right seeds held same p = (
  λ e. Contains-from_any (tells_apart place_cmp-IsAntisymmetric) p seeds (sym (same p) ∙ e),
  λ c. same p ∙ list_any-from_Contains (eq_by_cmp_equiv place_cmp_total) p seeds c,
)

either_way : (a b : Place) → is_at (place_cmp a) b ≡ is_at (place_cmp b) a
either_way a b = (eq_by_cmp_equiv place_cmp_total).symm a b

one_or : (x b : Bool) → cond x true b ≡ (b || x)
one_or true true = refl
one_or true false = refl
one_or false true = refl
one_or false false = refl

-- one seed more is held
pub one_held : (seeds : List Place) (i : ℕ) (p q : Place) (before after : Bool) → i < length seeds → p ≡ slice_index_or seeds i p → before ≡ list_any (is_at (place_cmp q)) (take i seeds) →
    after ≡ cond (is_at (place_cmp p) q) true before → after ≡ list_any (is_at (place_cmp q)) (take (i + 1) seeds)
one_held seeds i p q before after l here so_far more =
    more ∙ (one_or (is_at (place_cmp p) q) before
    ∙ (ap (λ b. b || is_at (place_cmp p) q) so_far
    ∙ (ap (λ b. list_any (is_at (place_cmp q)) (take i seeds) || b) (either_way p q ∙ ap (is_at (place_cmp q)) here)
    ∙ sym (list_any_more (is_at (place_cmp q)) seeds i p l))))

-- ---- tasks of which an instance follows

one_of_seeds : (k t : ℕ) (seeds : List Place) → list_any (is_of k t) seeds ≡ true → (p : Place) × Contains seeds p × (is_of k t p ≡ true)
one_of_seeds k t [] e = cc
one_of_seeds k t (p ∷ seeds) e = elim (or_cases (is_of k t p) (list_any (is_of k t) seeds) e) [
  | inl h ↦ (p, (0, omega arith, refl), h)
  | inr h ↦ let rest : _ = one_of_seeds k t seeds h in (rest.0, (suc rest.1.0, omega (arith, rest.1.1), rest.1.2), rest.2)
]

module _ (dag : Dag) (seeds : List Place) where
  pub touched : (k t : ℕ) (i : ℤ) → IsDependent dag seeds k t i → IsTouched dag seeds k t
  touched k t i (IsDependent.Seed c) =
      let p : Place = record { run = k; task = t; index = None } in
      IsTouched.Seed (list_any_at (is_of k t) seeds c.0 p c.1 (ap (is_of k t) c.2 ∙ of_itself k t p refl refl))
  touched k t i (IsDependent.SeedAt c) =
      let p : Place = record { run = k; task = t; index = Some i } in
      IsTouched.Seed (list_any_at (is_of k t) seeds c.0 p c.1 (ap (is_of k t) c.2 ∙ of_itself k t p refl refl))
  touched k t i (IsDependent.Downstream {u = u} {j = j} h d) = IsTouched.Downstream h (touched k u j d)
  touched (suc k) t i (IsDependent.NextRun {j = j} h d) = IsTouched.NextRun h (touched k t j d)

  of_seed : (p : Place) → Contains seeds p → (i : ℤ) × IsDependent dag seeds p.run p.task i
  of_seed p c = go p.index refl
    where
      go : (o : Option ℤ) → p.index ≡ o → (i : ℤ) × IsDependent dag seeds p.run p.task i
      go None e = (pos 0, IsDependent.Seed (subst (Contains seeds) (λ j. record { run = p.run; task = p.task; index = e j }) c))
      go (Some i) e = (i, IsDependent.SeedAt (subst (Contains seeds) (λ j. record { run = p.run; task = p.task; index = e j }) c))

  pub some_instance : (k t : ℕ) → IsTouched dag seeds k t → (i : ℤ) × IsDependent dag seeds k t i
  some_instance k t (IsTouched.Seed e) =
      let found : _ = one_of_seeds k t seeds e in
      let same : _ = of_parts k t found.0 found.2 in
      let is : _ = of_seed found.0 found.1 in
      (is.0, subst (λ (n : ℕ). IsDependent dag seeds n t is.0) (sym same.0) (subst (λ (s : ℕ). IsDependent dag seeds found.0.run s is.0) (sym same.1) is.1))
  some_instance k t (IsTouched.Downstream {u = u} h d) = (pos 0, IsDependent.Downstream h (some_instance k u d).1)
  some_instance (suc k) t (IsTouched.NextRun h d) = (pos 0, IsDependent.NextRun h (some_instance k t d).1)

-- ---- as it is looked up

none_marked : (t : ℕ) → is_marked_in [] t ≡ true → ⊥
none_marked t e = cc

module _ (dag : Dag) (sound : IsSound dag) (seeds : List Place) (runs : ℕ) (all : Following) (are : AreTouched dag seeds runs all.touched) (held : HoldSeeds seeds all.seeds) where
  marked : (k t : ℕ) → k < runs → t < length dag.tasks → (is_marked_in (row_at all.touched k) t ≡ true) ↔ IsTouched dag seeds k t
  marked k t l m = (are.each k l).right t m

  led_forth : (k t : ℕ) (i : ℤ) → k < runs → t < length dag.tasks → is_led_to_in dag all k t i ≡ true → IsDependent dag seeds k t i
  led_forth k t i l m e = elim (or_cases (has_seed_in all.seeds k t None) _ e) [
    | inl h ↦ IsDependent.Seed ((held (record { run = k; task = t; index = None })).0 h)
    | inr h ↦ elim (or_cases (has_seed_in all.seeds k t (Some i)) _ h) [
      | inl g ↦ IsDependent.SeedAt ((held (record { run = k; task = t; index = Some i })).0 g)
      | inr g ↦ elim (or_cases (is_marked_in [] t) _ g) [
        | inl f ↦ absurd (none_marked t f)
        | inr f ↦ elim (or_cases ((task_of dag t).depends_on_past && is_marked_in (marks_before_in all.touched k) t) _ f) [
          | inl b ↦ let both : _ = and_parts (task_of dag t).depends_on_past (is_marked_in (marks_before_in all.touched k) t) b in past k l both.0 both.1
          | inr b ↦ let one : _ = one_marked (row_at all.touched k) (task_of dag t).upstreams b in
              IsDependent.Downstream one.1 (some_instance dag seeds k one.0 ((marked k one.0 l (sound.in_range t one.0 one.1)).0 one.2)).1
        ]
      ]
    ]
  ]
    where
      past : (n : ℕ) → n < runs → (task_of dag t).depends_on_past ≡ true → is_marked_in (marks_before_in all.touched n) t ≡ true → IsDependent dag seeds n t i
      past zero low d b = absurd (none_marked t b)
      past (suc n) low d b = IsDependent.NextRun d (some_instance dag seeds n t ((marked n t (omega (arith, low)) m).0 b)).1

  led_back : (k t : ℕ) (i : ℤ) → k < runs → t < length dag.tasks → IsDependent dag seeds k t i → is_led_to_in dag all k t i ≡ true
  led_back k t i l m (IsDependent.Seed c) = or_left _ _ ((held (record { run = k; task = t; index = None })).1 c)
  led_back k t i l m (IsDependent.SeedAt c) =
      or_right (has_seed_in all.seeds k t None) _ (or_left _ _ ((held (record { run = k; task = t; index = Some i })).1 c))
  led_back k t i l m (IsDependent.Downstream {u = u} {j = j} h d) =
      or_right (has_seed_in all.seeds k t None) _ (or_right (has_seed_in all.seeds k t (Some i)) _ (or_right (is_marked_in [] t) _
      (or_right ((task_of dag t).depends_on_past && is_marked_in (marks_before_in all.touched k) t) _
      (marked_one (row_at all.touched k) (task_of dag t).upstreams u h ((marked k u l (sound.in_range t u h)).1 (touched dag seeds k u j d))))))
  led_back (suc k) t i l m (IsDependent.NextRun {j = j} h d) =
      or_right (has_seed_in all.seeds (suc k) t None) _ (or_right (has_seed_in all.seeds (suc k) t (Some i)) _ (or_right (is_marked_in [] t) _
      (or_left _ _ (and_from _ _ h ((marked k t (omega (arith, l)) m).1 (touched dag seeds k t j d))))))

  pub found_right : AreDependents dag seeds runs all
  found_right = record {
    len = are.len;
    right = λ k t i l m. (
      λ e. led_forth k t i l m (and_parts (is_marked_in (row_at all.touched k) t) (is_led_to_in dag all k t i) e).1,
      λ d. and_from _ _ ((marked k t l m).1 (touched dag seeds k t i d)) (led_back k t i l m d),
    );
  }

pub if_both : {T E : Type 0} (r : Result T E) (P Q R : T → Type 0) → ((x : T) → P x → Q x → R x) → IfOk r P → IfOk r Q → IfOk r R
if_both (Ok x) P Q R f p q = f x p q
if_both (Err e) P Q R f p q = tt
