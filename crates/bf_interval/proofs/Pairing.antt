-- The pairs of neighbours among the first fires are the data intervals of the range.
use Rattle.std.proofs.Common.{◌≡◌, ◌↔◌, ◌≢◌, ℕ, ◌+◌, ◌<◌, ◌≤◌, ℤ, pos, ◌≤ℤ◌, List, [], ◌∷◌, ◌++◌, map, length, get_or, length-append, ap, ◌∙◌, sym, subst, arith, inl, inr, Result, Ok, Err}
use Rattle.std.proofs.lemmas.Int.{ints}
use Rattle.std.specs.List.{Contains, All}
use Rattle.std.specs.List.Sorted.{IsStrictlyIncreasing}
use Rattle.std.proofs.lemmas.List.{get_or_default, get_or-map, get_or_append_left, length-map}
use Rattle.std.proofs.Math.Seq.{get_or-append_seam}
use Rattle.std.proofs.lemmas.List.Elements.{Contains-get_or}
use Rattle.std.proofs.lemmas.List.Kept.{AllPairs-from_increasing}
use Rattle.std.proofs.lemmas.Bool.{cases_order, cases_lt, cases_eq}
use Rattle.jiff.specs.Types.{TimeZone}
use Rattle.bf_cron.specs.declared.spec.CronSpec.{CronSpec}
use Rattle.bf_interval.specs.Fires.{IsFire, IsInterval}
use Rattle.bf_interval.specs.Intervals.{ends, StartsIn, AreIntervals, HasIntervals, IsRange, IsAnswer}
use Rattle.bf_interval.specs.inner.Search.{seconds, AreFirst, AreEnough, ArePairs, IsPaired}
use Rattle.bf_interval.specs.declared.interval.Interval.{Interval}
use Rattle.bf_interval.specs.declared.fault.IntervalFault.{IntervalFault}
use Rattle.bf_interval.specs.declared.fault.IntervalFault.TheVariants.{OutsideYears, RangeReversed, TooManyRuns, OutOfMemory}
use Rattle.bf_interval.proofs.Margins.{not_late, whole}

-- places in a list that rises go with its numbers
before : (xs : List ℕ) (i j : ℕ) → IsStrictlyIncreasing xs → i < length xs → j < length xs → get_or xs i 0 < get_or xs j 0 → i < j
before xs i j rising small inside up =
    elim (cases_order i j) as (λ _. i < j) [
      | inl e ↦ absurd (omega (arith, ap (λ k. get_or xs k 0) e))
      | inr r ↦ elim r as (λ _. i < j) [ inl l ↦ l | inr g ↦ absurd (omega (arith, AllPairs-from_increasing xs rising j i 0 g small)) ]
    ]

-- a number that the list has, by its place
place_of : (xs : List ℕ) (k : ℕ) → Contains xs k → (i : ℕ) × (i < length xs) × (get_or xs i 0 ≡ k)
place_of xs k h = (h.0, h.1, get_or_default xs h.0 0 k h.1 ∙ h.2)

-- two neighbours are a data interval
neighbours : (spec : CronSpec) (zone : TimeZone) (first : ℕ) (xs : List ℕ) (i : ℕ) → AreFirst spec zone first xs → i + 1 < length xs → IsInterval spec zone (seconds (get_or xs i 0)) (seconds (get_or xs (i + 1) 0))
neighbours spec zone first xs i are small =
    let (low, opens) = are.each (get_or xs i 0) (Contains-get_or xs i 0 (omega arith)) in
    let (_, closes) = are.each (get_or xs (i + 1) 0) (Contains-get_or xs (i + 1) 0 small) in
    let up = are.rising i small in
    record {
      opens = opens;
      closes = closes;
      rises = omega (arith, ints);
      next = λ n f above.
          let (k, is) = whole spec zone n f (omega (arith, ints)) in
          elim (cases_lt k (get_or xs (i + 1) 0)) as (λ _. seconds (get_or xs (i + 1) 0) ≤ℤ n) [
            | inl l ↦
                let P : ℤ → Type 0 = λ m. IsFire spec zone m in
                let has = are.below k (get_or xs (i + 1) 0) (omega (arith, ints)) (subst P is f) (Contains-get_or xs (i + 1) 0 small) (omega arith) in
                let (j, inside, at) = place_of xs k has in
                let low_side = before xs i j are.rising (omega arith) inside (omega (arith, ints)) in
                let high_side = before xs j (i + 1) are.rising inside small (omega arith) in
                absurd (omega arith)
            | inr g ↦ omega (arith, ints)
          ];
    }

-- the ends of a data interval are neighbours in the list
record AreNeighbours (xs : List ℕ) (a b : ℕ) : Type 0 where
  place : ℕ
  inside : place + 1 < length xs
  first : get_or xs place 0 ≡ a
  second : get_or xs (place + 1) 0 ≡ b

-- a number behind a place that isn't above the next one is that one
next_is : (xs : List ℕ) (i j b : ℕ) → IsStrictlyIncreasing xs → i < j → j < length xs → get_or xs j 0 ≡ b → b ≤ get_or xs (i + 1) 0 → get_or xs (i + 1) 0 ≡ b
next_is xs i j b rising behind inside at low = elim (cases_eq j (i + 1)) as (λ _. get_or xs (i + 1) 0 ≡ b) [
  | inl e ↦ ap (λ k. get_or xs k 0) (sym e) ∙ at
  | inr d ↦ absurd (omega (arith, AllPairs-from_increasing xs rising (i + 1) j 0 (omega arith) inside))
]

-- where the list goes past its start
within_past : (spec : CronSpec) (zone : TimeZone) (first : ℕ) (xs : List ℕ) (a b t : ℕ) → AreFirst spec zone first xs → IsInterval spec zone (seconds a) (seconds b) → first ≤ a → t < length xs → a < get_or xs t 0 → AreNeighbours xs a b
within_past spec zone first xs a b t are p low inside past =
    let (i, small, at) = place_of xs a (are.below a (get_or xs t 0) low p.opens (Contains-get_or xs t 0 inside) (omega arith)) in
    let it = before xs i t are.rising small inside (omega arith) in
    let next : i + 1 < length xs = omega arith in
    let (_, fire) = are.each (get_or xs (i + 1) 0) (Contains-get_or xs (i + 1) 0 next) in
    let up = are.rising i next in
    let rise = p.rises in
    let least = p.next (seconds (get_or xs (i + 1) 0)) fire (omega (arith, ints)) in
    let (j, jin, jat) = place_of xs b (are.below b (get_or xs (i + 1) 0) (omega (arith, ints)) p.closes (Contains-get_or xs (i + 1) 0 next) (omega (arith, ints))) in
    let ij = before xs i j are.rising small jin (omega (arith, ints)) in
    record { place = i; inside = next; first = at; second = next_is xs i j b are.rising ij jin jat (omega (arith, ints)) }

-- where the list has all fires
within_all : (spec : CronSpec) (zone : TimeZone) (first : ℕ) (xs : List ℕ) (a b : ℕ) → AreFirst spec zone first xs → IsInterval spec zone (seconds a) (seconds b) → first ≤ a → ((k : ℕ) → first ≤ k → IsFire spec zone (seconds k) → Contains xs k) → AreNeighbours xs a b
within_all spec zone first xs a b are p low all =
    let rise = p.rises in
    let (j, jin, jat) = place_of xs b (all b (omega (arith, ints)) p.closes) in
    within_past spec zone first xs a b j are p low jin (omega (arith, ints))

-- in each case
placed : (spec : CronSpec) (zone : TimeZone) (first last : ℕ) (xs : List ℕ) (found : List Interval) (a b : ℕ) → AreFirst spec zone first xs → AreEnough spec zone first last xs → IsPaired xs last (Ok found) → IsInterval spec zone (seconds a) (seconds b) → first ≤ a → a ≤ last → AreNeighbours xs a b
placed spec zone first last xs found a b are enough (pairs, beyond) p low up = elim enough as (λ _. AreNeighbours xs a b) [
  | inl past ↦
      let (t, x, inside, at, more) = past in
      let e : get_or xs t 0 ≡ x = get_or_default xs t 0 x inside ∙ at in
      within_past spec zone first xs a b t are p low inside (omega arith)
  | inr r ↦ elim r as (λ _. AreNeighbours xs a b) [
    | inl many ↦
        let few = pairs.few in
        let past = beyond (omega arith) in
        within_past spec zone first xs a b (length found) are p low (omega arith) (omega arith)
    | inr all ↦ within_all spec zone first xs a b are p low all
  ]
]

ends_at : (found : List Interval) (i : ℕ) (p : ℤ × ℤ) → i < length found → ((d : Interval) → ends (get_or found i d) ≡ p) → Contains (map ends found) p
ends_at [] i p inside is = absurd (omega (arith, inside))
ends_at (x ∷ xs) i p inside is = (i, omega (arith, inside, length-map (x ∷ xs) ends), get_or-map ends (x ∷ xs) i x p inside ∙ is x)

-- and their pair stands in the list of pairs
paired_at : (xs : List ℕ) (last : ℕ) (found : List Interval) (a b : ℕ) → IsStrictlyIncreasing xs → IsPaired xs last (Ok found) → a ≤ last → AreNeighbours xs a b → Contains (map ends found) (seconds a, seconds b)
paired_at xs last found a b rising (pairs, beyond) up at =
    let first = at.first in
    let inside_all = at.inside in
    let inside : at.place < length found = elim (cases_lt at.place (length found)) as (λ _. at.place < length found) [
      | inl l ↦ l
      | inr g ↦
          let past = beyond (omega arith) in
          elim (cases_eq at.place (length found)) as (λ _. at.place < length found) [
            | inl e ↦ absurd (omega (arith, ap (λ k. get_or xs k 0) e))
            | inr d ↦ absurd (omega (arith, AllPairs-from_increasing xs rising (length found) at.place 0 (omega arith) (omega arith)))
          ]
    ] in
    ends_at found at.place (seconds a, seconds b) inside
    (λ d. pairs.each at.place d inside ∙ ap (λ k. (seconds k, seconds (get_or xs (at.place + 1) 0))) at.first ∙ ap (λ k. (seconds a, seconds k)) at.second)

with_ends : (found : List Interval) (p : ℤ × ℤ) (a b : ℕ) → p.0 ≡ seconds a → p.1 ≡ seconds b → Contains (map ends found) (seconds a, seconds b) → Contains (map ends found) p
with_ends found p a b start end has =
    let P : ℤ × ℤ → Type 0 = Contains (map ends found) in
    subst P (λ i. (sym start i, sym end i)) has

are_intervals : (spec : CronSpec) (zone : TimeZone) (from to : ℤ) (first last : ℕ) (xs : List ℕ) (found : List Interval) → pos 0 ≤ℤ from → ((k : ℕ) → (first ≤ k) ↔ (from ≤ℤ seconds k)) → ((k : ℕ) → (k ≤ last) ↔ (seconds k ≤ℤ to)) → AreFirst spec zone first xs → AreEnough spec zone first last xs → IsPaired xs last (Ok found) → AreIntervals spec zone from to found
are_intervals spec zone from to first last xs found low round_from round_to are enough paired = record {
  rising = λ i j d l small.
      let inside = paired.0.inside (omega arith) in
      let e = ap (λ p. p.0) (paired.0.each i d (omega arith)) in
      let h = ap (λ p. p.0) (paired.0.each j d small) in
      let up = AllPairs-from_increasing xs are.rising i j 0 l (omega arith) in
      omega (arith, ints);
  each = λ i d small.
      let inside = paired.0.inside (omega arith) in
      let P : ℤ × ℤ → Type 0 = StartsIn spec zone from to in
      let after = (are.each (get_or xs i 0) (Contains-get_or xs i 0 (omega arith))).0 in
      subst P (sym (paired.0.each i d small))
      (neighbours spec zone first xs i are (omega arith), (round_from (get_or xs i 0)).0 after, (round_to (get_or xs i 0)).0 (paired.0.within i small));
  all = λ p is.
      let (interval, after, until) = is in
      let rise = interval.rises in
      let (a, ea) = whole spec zone p.0 interval.opens (omega (arith, ints)) in
      let (b, eb) = whole spec zone p.1 interval.closes (omega (arith, ints)) in
      let Q : ℤ → Type 0 = λ n. IsInterval spec zone n p.1 in
      let R : ℤ → Type 0 = λ n. IsInterval spec zone (seconds a) n in
      let exact = subst R eb (subst Q ea interval) in
      let low : first ≤ a = (round_from a).1 (omega (arith, ints)) in
      let high : a ≤ last = (round_to a).1 (omega (arith, ints)) in
      let at = placed spec zone first last xs found a b are enough paired exact low high in
      with_ends found p a b ea eb (paired_at xs last found a b are.rising paired high at);
}

has_intervals : (spec : CronSpec) (zone : TimeZone) (from to : ℤ) (first last : ℕ) (xs : List ℕ) → ((k : ℕ) → (first ≤ k) ↔ (from ≤ℤ seconds k)) → ((k : ℕ) → (k ≤ last) ↔ (seconds k ≤ℤ to)) → AreFirst spec zone first xs → IsPaired xs last (Err TooManyRuns) → HasIntervals spec zone from to 4_097
has_intervals spec zone from to first last xs round_from round_to are many = record {
  at = λ i. (seconds (get_or xs i 0), seconds (get_or xs (i + 1) 0));
  each = λ i small.
      let after = (are.each (get_or xs i 0) (Contains-get_or xs i 0 (omega (arith, many.0)))).0 in
      (neighbours spec zone first xs i are (omega (arith, many.0)), (round_from (get_or xs i 0)).0 after, (round_to (get_or xs i 0)).0 (many.1 i small));
  rising = λ i small. omega (arith, ints, are.rising i (omega (arith, many.0)));
}

-- fires are moments that a timestamp holds
pub bounded : (spec : CronSpec) (zone : TimeZone) (first : ℕ) (xs : List ℕ) → AreFirst spec zone first xs → All (λ k. k ≤ 253_402_207_200) xs
bounded spec zone first xs are k d small =
    let (_, f) = are.each (get_or xs k d) (Contains-get_or xs k d small) in
    omega (arith, not_late spec zone (get_or xs k d) f, f.in_dates)

pub answered : (spec : CronSpec) (zone : TimeZone) (from to : ℤ) (first last : ℕ) (xs : List ℕ) (result : Result (List Interval) IntervalFault) → IsRange from to → ((k : ℕ) → (first ≤ k) ↔ (from ≤ℤ seconds k)) → ((k : ℕ) → (k ≤ last) ↔ (seconds k ≤ℤ to)) → AreFirst spec zone first xs → AreEnough spec zone first last xs → IsPaired xs last result → IsAnswer spec zone from to result
answered spec zone from to first last xs (Ok found) range round_from round_to are enough paired =
    (range, paired.0.few, are_intervals spec zone from to first last xs found range.from_in_years.0 round_from round_to are enough paired)
answered spec zone from to first last xs (Err TooManyRuns) range round_from round_to are enough paired =
    (range, has_intervals spec zone from to first last xs round_from round_to are paired)
answered spec zone from to first last xs (Err OutOfMemory) range round_from round_to are enough paired = tt
answered spec zone from to first last xs (Err OutsideYears) range round_from round_to are enough paired = absurd paired
answered spec zone from to first last xs (Err RangeReversed) range round_from round_to are enough paired = absurd paired

-- ---- one pair more

pub length_push : (found : List Interval) (new : Interval) (i : ℕ) → length found ≡ i → length (found ++ new ∷ []) ≡ i + 1
length_push found new i len = omega (arith, length-append found (new ∷ []))

pub pairs_push : (fires : List ℕ) (to i : ℕ) (found : List Interval) (new : Interval) → ArePairs fires to found → length found ≡ i → i ≢ 4_096 → i + 1 < length fires → get_or fires i 0 ≤ to → ends new ≡ (seconds (get_or fires i 0), seconds (get_or fires (i + 1) 0)) → ArePairs fires to (found ++ new ∷ [])
pairs_push fires to i found new pairs len room inside low is =
    let more = length_push found new i len in
    record {
      inside = λ _. omega arith;
      each = λ k d small. elim (cases_lt k i) as (λ _. ends (get_or (found ++ new ∷ []) k d) ≡ (seconds (get_or fires k 0), seconds (get_or fires (k + 1) 0))) [
        | inl l ↦ ap ends (get_or_append_left found (new ∷ []) d k (omega arith)) ∙ pairs.each k d (omega arith)
        | inr g ↦
            let P : ℕ → Type 0 = λ j. ends (get_or (found ++ new ∷ []) j d) ≡ (seconds (get_or fires j 0), seconds (get_or fires (j + 1) 0)) in
            let at : get_or (found ++ new ∷ []) i d ≡ new = ap (λ j. get_or (found ++ new ∷ []) j d) (sym len) ∙ get_or-append_seam found new [] d in
            let same : i ≡ k = omega arith in
            subst P same (ap ends at ∙ is)
      ];
      within = λ k small. elim (cases_lt k i) as (λ _. get_or fires k 0 ≤ to) [
        | inl l ↦ pairs.within k (omega arith)
        | inr g ↦ let same : k ≡ i = omega arith in omega (arith, ap (λ j. get_or fires j 0) same)
      ];
      few = let few = pairs.few in omega arith;
    }
