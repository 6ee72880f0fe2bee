-- What is kept of a listing where it starts on the days.
use Rattle.std.proofs.Common.{◌≡◌, ℕ, zero, suc, ◌+◌, ◌<◌, ◌≤◌, ◌-◌, ℤ, pos, ◌<ℤ◌, ◌≤ℤ◌, unsigned_abs, List, [], ◌∷◌, ◌++◌, ◌⊎◌, Bool, true, false, cond, map, length, length-append, get_or, take, refl, sym, ap, ◌∙◌, subst, arith, inl, inr, ◌≢◌, Result, Ok, Err, OnOk, IfErr}
use Rattle.std.specs.List.{All, AllPairs, Contains, filter}
use Rattle.std.proofs.lemmas.Int.{ints}
use Rattle.std.proofs.lemmas.Bool.{cases_lt}
use Rattle.std.proofs.lemmas.List.{get_or-take, length-take-le, map-append}
use Rattle.std.proofs.lemmas.List.Elements.{All-append, All-filter, All-head, All-tail, All-take, All-weaker, Contains-append_left, Contains-append_right, filter_passes}
use Rattle.std.proofs.lemmas.List.Kept.{AllPairs-cons, AllPairs-filter}
use Rattle.std.proofs.lemmas.List.Filters.{length-filter_more}
use Rattle.jiff.specs.Types.{TimeZone}
use Rattle.bf_cron.specs.declared.spec.CronSpec.{CronSpec}
use Rattle.bf_interval.specs.Intervals.{ends, StartsIn, AreIntervals, HasIntervals, IsAnswer}
use Rattle.bf_interval.specs.declared.interval.Interval.{Interval}
use Rattle.bf_interval.specs.declared.fault.IntervalFault.{IntervalFault}
use Rattle.bf_interval.specs.declared.fault.IntervalFault.TheVariants.{OutsideYears, RangeReversed, TooManyRuns, OutOfMemory}
use Rattle.bf_days.specs.declared.days.Days.{Days}
use Rattle.bf_days.specs.Days.{is_on_day}
use Rattle.bf_days.specs.Listing.{StartsOn, AreIntervalsBetween, HasIntervalsOn}
use Rattle.bf_days.specs.inner.Listing.{are_on, IsKeptFault, IsAddFault}

-- ---- lists

pairs_appended : {X : Type 0} (R : X → X → Type 0) (xs ys : List X) → AllPairs R xs → AllPairs R ys → All (λ x. All (R x) ys) xs → AllPairs R (xs ++ ys)
pairs_appended R [] ys a b c = b
pairs_appended R (x ∷ xs) ys a b c =
    AllPairs-cons R x (xs ++ ys)
    (All-append (R x) xs ys (λ k d h. a 0 (suc k) d (omega arith) (omega arith)) (All-head (λ y. All (R y) ys) x xs c))
    (pairs_appended R xs ys (λ i j d up h. a (suc i) (suc j) d (omega arith) (omega arith)) b (All-tail (λ y. All (R y) ys) x xs c))

pairs_taken : {X : Type 0} (R : X → X → Type 0) (n : ℕ) (xs : List X) → n ≤ length xs → AllPairs R xs → AllPairs R (take n xs)
pairs_taken R n xs small a i j d up h =
    let len = length-take-le n xs small in
    let low : i < n = omega (arith, len) in
    let high : j < n = omega (arith, len) in
    rw (get_or-take n xs i d, get_or-take n xs j d) (a i j d up (omega arith))

cons_cases : {X : Type 0} (y : X) (ys : List X) (x : X) (k : ℕ) → k < length (y ∷ ys) → get_or (y ∷ ys) k x ≡ x → (y ≡ x) ⊎ Contains ys x
cons_cases y ys x zero small e = inl e
cons_cases y ys x (suc k) small e = inr (k, omega (arith, small), e)

grown : (b : Bool) (x : Interval) (xs : List Interval) (v : ℤ × ℤ) → Contains (map ends xs) v → Contains (map ends (cond b (x ∷ xs) xs)) v
grown true x xs v h = Contains-append_right (ends x ∷ []) (map ends xs) v h
grown false x xs v h = h

placed : (b : Bool) (x : Interval) (xs : List Interval) (v : ℤ × ℤ) → b ≡ true → ends x ≡ v → Contains (map ends (cond b (x ∷ xs) xs)) v
placed true x xs v on e = (0, omega arith, e)
placed false x xs v on e = cc

-- what passes the test is kept
ends_kept : (p : Interval → Bool) (xs : List Interval) (v : ℤ × ℤ) → ((x : Interval) → ends x ≡ v → p x ≡ true) → Contains (map ends xs) v → Contains (map ends (filter p xs)) v
ends_kept p [] v may h = absurd (omega (arith, h.1))
ends_kept p (x ∷ xs) v may h = elim (cons_cases (ends x) (map ends xs) v h.0 h.1 h.2) as (λ _. Contains (map ends (filter p (x ∷ xs))) v) [
  | inl e ↦ placed (p x) x (filter p xs) v (may x e) e
  | inr t ↦ grown (p x) x (filter p xs) v (ends_kept p xs v may t)
]

-- ---- listings

abbrev pub Rises : Interval → Interval → Type 0
Rises i j = i.start.nanosecond <ℤ j.start.nanosecond

module _ (spec : CronSpec) (zone : TimeZone) (days : Days) (low from to : ℕ) (old xs : List Interval) where
  each_kept : to ≤ 7_258_118_399_000_000_001 → All (λ i. StartsIn spec zone (pos from) (pos (to - 1)) (ends i)) xs → All (λ i. StartsOn spec zone days (ends i)) (filter (are_on zone days) xs)
  each_kept small each k d h =
      let in_range = All-filter (are_on zone days) (λ i. StartsIn spec zone (pos from) (pos (to - 1)) (ends i)) xs each k d h in
      (in_range.0, (omega (arith, ints, in_range.1), omega (arith, ints, in_range.2, small)), filter_passes (are_on zone days) xs k d h)

  rising_kept : AllPairs Rises old → All (λ i. i.start.nanosecond <ℤ pos from) old → AllPairs Rises xs → All (λ i. StartsIn spec zone (pos from) (pos (to - 1)) (ends i)) xs → AllPairs Rises (old ++ filter (are_on zone days) xs)
  rising_kept rising before rise each =
      let late : All (λ j. pos from ≤ℤ j.start.nanosecond) (filter (are_on zone days) xs) = All-weaker (λ i. StartsIn spec zone (pos from) (pos (to - 1)) (ends i)) (λ j. pos from ≤ℤ j.start.nanosecond) (λ i s. s.1) (filter (are_on zone days) xs) (All-filter (are_on zone days) (λ i. StartsIn spec zone (pos from) (pos (to - 1)) (ends i)) xs each) in
      pairs_appended Rises old (filter (are_on zone days) xs) rising (AllPairs-filter Rises (are_on zone days) xs rise)
      (All-weaker (λ i. i.start.nanosecond <ℤ pos from) (λ i. All (Rises i) (filter (are_on zone days) xs))
      (λ i early. All-weaker (λ j. pos from ≤ℤ j.start.nanosecond) (Rises i) (λ j l. omega (arith, ints, early, l)) (filter (are_on zone days) xs) late) old before)

-- a listing of the next moments, where it starts on the days, behind those before
pub kept : (spec : CronSpec) (zone : TimeZone) (days : Days) (low from to : ℕ) (old xs : List Interval) → low ≤ from → from < to → to ≤ 7_258_118_399_000_000_001
    → AreIntervalsBetween spec zone days low from old → AreIntervals spec zone (pos from) (pos (to - 1)) xs → AreIntervalsBetween spec zone days low to (old ++ filter (are_on zone days) xs)
kept spec zone days low from to old xs lower up small are listed = record {
  rising = rising_kept spec zone days low from to old xs are.rising are.before listed.rising listed.each;
  each = All-append (λ i. StartsOn spec zone days (ends i)) old (filter (are_on zone days) xs) are.each (each_kept spec zone days low from to old xs small listed.each);
  before = All-append (λ i. i.start.nanosecond <ℤ pos to) old (filter (are_on zone days) xs)
      (All-weaker (λ i. i.start.nanosecond <ℤ pos from) (λ i. i.start.nanosecond <ℤ pos to) (λ i early. omega (arith, ints, early, up)) old are.before)
      (All-filter (are_on zone days) (λ i. i.start.nanosecond <ℤ pos to) xs (All-weaker (λ i. StartsIn spec zone (pos from) (pos (to - 1)) (ends i)) (λ i. i.start.nanosecond <ℤ pos to) (λ i s. omega (arith, ints, s.2, up)) xs listed.each));
  all = λ v on above below. rw map-append (elim (cases_lt (unsigned_abs v.0) from) as (λ _. Contains (map ends old ++ map ends (filter (are_on zone days) xs)) v) [
    | inl l ↦ Contains-append_left (map ends old) (map ends (filter (are_on zone days) xs)) v (are.all v on above (omega (arith, ints, on.1.0, l)))
    | inr g ↦ Contains-append_right (map ends old) (map ends (filter (are_on zone days) xs)) v
        (ends_kept (are_on zone days) xs v (λ x e. ap (λ (w : ℤ × ℤ). is_on_day zone days w.0) e ∙ on.2)
        (listed.all v (on.0, omega (arith, ints, on.1.0, g), omega (arith, ints, below, up))))
  ]);
}

-- too many of them start on the days
pub too_many : (spec : CronSpec) (zone : TimeZone) (days : Days) (low from to n : ℕ) (old xs : List Interval) (some : Interval) → low ≤ from → from < to → to ≤ 7_258_118_399_000_000_001
    → AreIntervalsBetween spec zone days low from old → AreIntervals spec zone (pos from) (pos (to - 1)) xs → n ≤ length xs → length (old ++ filter (are_on zone days) (take n xs)) ≡ 4_097 → HasIntervalsOn spec zone days 4_097
too_many spec zone days low from to n old xs some lower up small are listed within many =
    let first = take n xs in
    let each = All-take (λ i. StartsIn spec zone (pos from) (pos (to - 1)) (ends i)) n xs listed.each in
    let found = old ++ filter (are_on zone days) first in
    let rise = rising_kept spec zone days low from to old first are.rising are.before (pairs_taken Rises n xs within listed.rising) each in
    let on = All-append (λ i. StartsOn spec zone days (ends i)) old (filter (are_on zone days) first) are.each (each_kept spec zone days low from to old first small each) in
    record {
      at = λ k. ends (get_or found k some);
      each = λ k h. on k some (omega (arith, many, h));
      rising = λ k h. rise k (k + 1) some (omega arith) (omega (arith, many, h));
    }

-- where two of them start there is more than a nanosecond
pub two_there : (spec : CronSpec) (zone : TimeZone) (from to : ℕ) (a b : ℤ) → a ≡ pos from → b ≡ pos (to - 1) → from < to → HasIntervals spec zone a b 4_097 → from + 1 < to
two_there spec zone from to a b first last up has =
    let x = has.each 0 (omega arith) in
    let y = has.each 1 (omega arith) in
    let r = has.rising 0 (omega arith) in
    omega (arith, ints, x.1, x.2, y.1, y.2, r, first, last, up)

-- ---- what is added

-- the listing between two moments, by the moments that were handed in
pub record IsListedBetween (spec : CronSpec) (zone : TimeZone) (from to : ℕ) (a b : ℤ) (xs ys : List Interval) : Type 0 where
  pub first : a ≡ pos from
  pub last : b ≡ pos (to - 1)
  pub listed : AreIntervals spec zone a b xs
  pub same : ys ≡ xs

between : (spec : CronSpec) (zone : TimeZone) (from to : ℕ) (a b : ℤ) (xs ys : List Interval) → IsListedBetween spec zone from to a b xs ys → AreIntervals spec zone (pos from) (pos (to - 1)) ys
between spec zone from to a b xs ys is =
    let P : ℤ → Type 0 = λ x. AreIntervals spec zone x b xs in
    let Q : ℤ → Type 0 = λ y. AreIntervals spec zone (pos from) y xs in
    let R : List Interval → Type 0 = λ zs. AreIntervals spec zone (pos from) (pos (to - 1)) zs in
    subst R (sym is.same) (subst Q is.last (subst P is.first is.listed))

pub added : (spec : CronSpec) (zone : TimeZone) (days : Days) (low from to : ℕ) (a b : ℤ) (old xs ys new : List Interval) → from < to → to ≤ 7_258_118_399_000_000_001
    → IsListedBetween spec zone from to a b xs ys → new ≡ old ++ filter (are_on zone days) ys → low ≤ from → AreIntervalsBetween spec zone days low from old → AreIntervalsBetween spec zone days low to new
added spec zone days low from to a b old xs ys new up small is e lower are =
    let P : List Interval → Type 0 = λ zs. AreIntervalsBetween spec zone days low to zs in
    subst P (sym e) (kept spec zone days low from to old ys lower up small are (between spec zone from to a b xs ys is))

pub not_added : (spec : CronSpec) (zone : TimeZone) (days : Days) (low from to : ℕ) (a b : ℤ) (old xs ys : List Interval) (fault : IntervalFault) → from < to → to ≤ 7_258_118_399_000_000_001
    → IsListedBetween spec zone from to a b xs ys → IsKeptFault (are_on zone days) old ys fault → low ≤ from → AreIntervalsBetween spec zone days low from old → IsAddFault spec zone days fault
not_added spec zone days low from to a b old xs ys OutsideYears up small is why lower are = why
not_added spec zone days low from to a b old xs ys RangeReversed up small is why lower are = why
not_added spec zone days low from to a b old xs ys TooManyRuns up small is why lower are =
    too_many spec zone days low from to why.n old ys why.some lower up small are (between spec zone from to a b xs ys is) why.within why.many
not_added spec zone days low from to a b old xs ys OutOfMemory up small is why lower are = tt

-- no listing, where that isn't for too many of them
pub not_listed : (spec : CronSpec) (zone : TimeZone) (days : Days) (from to : ℕ) (a b : ℤ) (fault : IntervalFault) → a ≡ pos from → b ≡ pos (to - 1) → from < to → to ≤ 7_258_118_399_000_000_001
    → IsAnswer spec zone a b (Err fault) → fault ≢ TooManyRuns → IsAddFault spec zone days fault
not_listed spec zone days from to a b OutsideYears first last up small why other = elim why as (λ _. ⊥) [
  | inl out ↦ out (omega (arith, ints, first), omega (arith, ints, first, up, small))
  | inr out ↦ out (omega (arith, ints, last), omega (arith, ints, last, up, small))
]
not_listed spec zone days from to a b RangeReversed first last up small why other = omega (arith, ints, first, last, up, why.2)
not_listed spec zone days from to a b TooManyRuns first last up small why other = absurd (other refl)
not_listed spec zone days from to a b OutOfMemory first last up small why other = tt

-- the one too many of those that pass
pub one_too_many : (p : Interval → Bool) (old xs now : List Interval) (i : ℕ) (x : Interval) → i < length xs → x ≡ get_or xs i x → p x ≡ true → now ≡ old ++ filter p (take i xs) → length now ≡ 4_096
    → length (old ++ filter p (take (i + 1) xs)) ≡ 4_097
one_too_many p old xs now i x inside is on e many =
    let passes : p (get_or xs i x) ≡ true = ap p (sym is) ∙ on in
    let one : ◌≡◌ {A = ℕ} (cond (p (get_or xs i x)) 1 0) 1 = ap (λ b. cond b 1 0) passes in
    omega (arith, length-append old (filter p (take (i + 1) xs)), length-append old (filter p (take i xs)), length-filter_more p xs i x inside, one, ap length e, many)

-- a refusal for too many, as it is
pub two_from : (spec : CronSpec) (zone : TimeZone) (from to : ℕ) (a b : ℤ) (fault : IntervalFault) → fault ≡ TooManyRuns → a ≡ pos from → b ≡ pos (to - 1) → from < to → IsAnswer spec zone a b (Err fault) → from + 1 < to
two_from spec zone from to a b fault same first last up why =
    let P : IntervalFault → Type 0 = λ e. IsAnswer spec zone a b (Err e) in
    two_there spec zone from to a b first last up (subst P same why).1

-- ---- answers

pub on_ok : {A E P Q : Type 0} (r : Result A E) → OnOk r P → (P → Q) → OnOk r Q
on_ok (Ok x) p f = f p
on_ok (Err e) p f = p

pub if_err : {A E : Type 0} {P Q : E → Type 0} (r : Result A E) → IfErr r P → ((e : E) → P e → Q e) → IfErr r Q
if_err (Ok x) p f = p
if_err (Err e) p f = f e p
