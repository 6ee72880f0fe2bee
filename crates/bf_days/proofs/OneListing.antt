-- Two listings of the same days are the same.
use Rattle.std.proofs.Common.{◌≡◌, ◌⊎◌, ℕ, zero, suc, ◌<◌, ℤ, ◌<ℤ◌, List, [], ◌∷◌, map, length, get_or, refl, ap, ◌∙◌, sym, subst, arith, inl, inr}
use Rattle.std.proofs.lemmas.Int.{ints}
use Rattle.std.specs.List.{AllPairs, All}
use Rattle.jiff.specs.Types.{TimeZone}
use Rattle.bf_cron.specs.declared.spec.CronSpec.{CronSpec}
use Rattle.bf_interval.specs.Intervals.{ends}
use Rattle.bf_interval.specs.declared.interval.Interval.{Interval}
use Rattle.bf_interval.proofs.OneListing.{same_moment}
use Rattle.bf_days.specs.Listing.{AreIntervalsOn, StartsOn}
use Rattle.bf_days.specs.declared.days.Days.{Days}

same_interval : (a b : Interval) → ends a ≡ ends b → a ≡ b
same_interval a b e = λ i. record {
  start = same_moment a.start b.start (ap (λ p. p.0) e) i;
  end = same_moment a.end b.end (ap (λ p. p.1) e) i;
}

-- one of the intervals has these ends
abbrev Has : List Interval → ℤ × ℤ → Type 0
Has [] p = ⊥
Has (x ∷ xs) p = (ends x ≡ p) ⊎ Has xs p

abbrev Rises : List Interval → Type 0
Rises [] = Unit {0}
Rises (x ∷ xs) = ((p : ℤ × ℤ) → Has xs p → x.start.nanosecond <ℤ p.0) × Rises xs

has_at : (xs : List Interval) (k : ℕ) (p : ℤ × ℤ) → k < length (map ends xs) → get_or (map ends xs) k p ≡ p → Has xs p
has_at [] k p l e = absurd (omega (arith, l))
has_at (x ∷ xs) zero p l e = inl e
has_at (x ∷ xs) (suc k) p l e = inr (has_at xs k p (omega (arith, l)) e)

place_in : (xs : List Interval) (p : ℤ × ℤ) → Has xs p → (k : ℕ) × (k < length xs) × ((d : Interval) → ends (get_or xs k d) ≡ p)
place_in [] p has = absurd has
place_in (x ∷ xs) p has = elim has as (λ _. (k : ℕ) × (k < length (x ∷ xs)) × ((d : Interval) → ends (get_or (x ∷ xs) k d) ≡ p)) [
  | inl e ↦ (0, omega arith, λ d. e)
  | inr later ↦ (let (k, l, at) = place_in xs p later in (suc k, omega arith, at))
]

rises_from : (xs : List Interval) → AllPairs (λ i j. i.start.nanosecond <ℤ j.start.nanosecond) xs → Rises xs
rises_from [] pairs = tt
rises_from (x ∷ xs) pairs = (
  λ p has. (let (k, l, at) = place_in xs p has in let P : ℤ × ℤ → Type 0 = λ q. x.start.nanosecond <ℤ q.0 in subst P (at x) (pairs 0 (suc k) x (omega arith) (omega arith))),
  rises_from xs (λ i j d l small. pairs (suc i) (suc j) d (omega arith) (omega arith)),
)

same_head : (x y : Interval) (xs ys : List Interval) → Rises (x ∷ xs) → Rises (y ∷ ys) → Has (y ∷ ys) (ends x) → Has (x ∷ xs) (ends y) → ends x ≡ ends y
same_head x y xs ys r t f g = elim f as (λ _. ends x ≡ ends y) [
  | inl e ↦ sym e
  | inr later ↦ elim g as (λ _. ends x ≡ ends y) [ inl e ↦ e | inr after ↦ absurd (omega (arith, ints, t.0 (ends x) later, r.0 (ends y) after)) ]
]

-- what comes after the head has other ends
not_head : (x y : Interval) (xs : List Interval) (p : ℤ × ℤ) → Rises (x ∷ xs) → ends x ≡ ends y → Has xs p → ends y ≡ p → ⊥
not_head x y xs p r same has e =
    let start = ap (λ q. q.0) (same ∙ e) in
    omega (arith, ints, r.0 p has)

same_rising : (xs ys : List Interval) → Rises xs → Rises ys → ((p : ℤ × ℤ) → Has xs p → Has ys p) → ((p : ℤ × ℤ) → Has ys p → Has xs p) → xs ≡ ys
same_rising [] [] r t f g = refl
same_rising [] (y ∷ ys) r t f g = absurd (g (ends y) (inl refl))
same_rising (x ∷ xs) [] r t f g = absurd (f (ends x) (inl refl))
same_rising (x ∷ xs) (y ∷ ys) r t f g =
    let e = same_head x y xs ys r t (f (ends x) (inl refl)) (g (ends y) (inl refl)) in
    let rest = same_rising xs ys r.1 t.1
    (λ p has. elim (f p (inr has)) as (λ _. Has ys p) [ inl h ↦ absurd (not_head x y xs p r e has h) | inr k ↦ k ])
    (λ p has. elim (g p (inr has)) as (λ _. Has xs p) [ inl h ↦ absurd (not_head y x ys p t (sym e) has h) | inr k ↦ k ]) in
    ap (λ z. z ∷ xs) (same_interval x y e) ∙ ap (λ zs. y ∷ zs) rest

-- what one listing has stands in each other
carried : (spec : CronSpec) (zone : TimeZone) (days : Days) (xs ys : List Interval) → AreIntervalsOn spec zone days xs → AreIntervalsOn spec zone days ys → (p : ℤ × ℤ) → Has xs p → Has ys p
carried spec zone days xs ys a b p has =
    let (k, inside, at) = place_in xs p has in
    let P : ℤ × ℤ → Type 0 = StartsOn spec zone days in
    let (j, small, is) = b.all p (given xs k p inside at P a.each) in
    has_at ys j p small is
  where
    given : (xs : List Interval) (k : ℕ) (p : ℤ × ℤ) → k < length xs → ((d : Interval) → ends (get_or xs k d) ≡ p) → (P : ℤ × ℤ → Type 0) → All (λ i. P (ends i)) xs → P p
    given [] k p inside at P each = absurd (omega (arith, inside))
    given (x ∷ xs) k p inside at P each = subst P (at x) (each k x inside)

pub one_listing : (spec : CronSpec) (zone : TimeZone) (days : Days) (xs ys : List Interval) → AreIntervalsOn spec zone days xs → AreIntervalsOn spec zone days ys → xs ≡ ys
one_listing spec zone days xs ys a b =
    same_rising xs ys (rises_from xs a.rising) (rises_from ys b.rising) (carried spec zone days xs ys a b) (carried spec zone days ys xs b a)
