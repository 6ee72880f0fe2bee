-- The data intervals of a listing leave no time out between them.
use Rattle.std.proofs.Common.{◌≡◌, ℕ, zero, suc, ◌+◌, ◌<◌, ℤ, pos, ◌+ℤ◌, ◌-ℤ◌, unsigned_abs, ◌<ℤ◌, ◌≤ℤ◌, List, Some, slice_get, length, get_or, ap, ◌∙◌, sym, arith}
use Rattle.std.proofs.lemmas.Int.{ints, by_lt_z}
use Rattle.std.proofs.lemmas.Option.{get_or_from_slice_get, slice_get_within}
use Rattle.jiff.specs.Types.{TimeZone}
use Rattle.bf_cron.specs.declared.spec.CronSpec.{CronSpec}
use Rattle.bf_interval.specs.Fires.{IsFire, IsInterval}
use Rattle.bf_interval.specs.Intervals.{AreIntervals, StartsIn}
use Rattle.bf_interval.specs.declared.interval.Interval.{Interval}
use Rattle.bf_interval.proofs.OneListing.{same_moment}
use Rattle.bf_interval.proofs.Places.{stands_at, place_before}

-- a fire that isn't the last has a next one, though none is computed here
has_next : (spec : CronSpec) (zone : TimeZone) (far : ℕ) (start later : ℤ) → IsFire spec zone start → IsFire spec zone later → start <ℤ later → later ≤ℤ (start +ℤ pos far) → ((end : ℤ) → IsInterval spec zone start end → ⊥) → ⊥
has_next spec zone zero start later opens fire up near none = omega (arith, ints)
has_next spec zone (suc far) start later opens fire up near none =
    none later (record {
      opens = opens;
      closes = fire;
      rises = up;
      next = λ n between above. by_lt_z n later
          (λ below. absurd (has_next spec zone far start n opens between above (omega (arith, ints)) none))
          (λ not_below. not_below);
    })

-- no data interval of the range starts between the starts of two neighbours of its listing
none_between : (spec : CronSpec) (zone : TimeZone) (from to : ℤ) (found : List Interval) (k : ℕ) (d : Interval) (p : ℤ × ℤ) → AreIntervals spec zone from to found → k + 1 < length found → StartsIn spec zone from to p → (get_or found k d).start.nanosecond <ℤ p.0 → p.0 <ℤ (get_or found (k + 1) d).start.nanosecond → ⊥
none_between spec zone from to found k d p are inside is above below =
    let (j, within, at) = stands_at spec zone from to found p are is in
    let start = at d in
    let l = place_before spec zone from to found k j d are (omega arith) within (omega (arith, ints)) in
    let g = place_before spec zone from to found j (k + 1) d are within inside (omega (arith, ints)) in
    omega arith

meets : (spec : CronSpec) (zone : TimeZone) (from to : ℤ) (found : List Interval) (k : ℕ) (d : Interval) → AreIntervals spec zone from to found → k + 1 < length found → (get_or found k d).end.nanosecond ≡ (get_or found (k + 1) d).start.nanosecond
meets spec zone from to found k d are inside =
    let a = get_or found k d in
    let b = get_or found (k + 1) d in
    let (first, after, _) = are.each k d (omega arith) in
    let (second, _, until) = are.each (k + 1) d inside in
    let up = are.rising k (k + 1) d (omega arith) inside in
    let rise = first.rises in
    let least = first.next b.start.nanosecond second.opens up in
    by_lt_z a.end.nanosecond b.start.nanosecond
    (λ below. absurd (has_next spec zone (unsigned_abs (b.start.nanosecond -ℤ a.end.nanosecond)) a.end.nanosecond b.start.nanosecond first.closes second.opens below (omega (arith, ints))
    (λ end next. none_between spec zone from to found k d (a.end.nanosecond, end) are inside (next, omega (arith, ints), omega (arith, ints)) rise below)))
    (λ not_below. omega (arith, ints))

pub intervals_meet : (spec : CronSpec) (zone : TimeZone) (from to : ℤ) (found : List Interval) (k : ℕ) (a b : Interval) → AreIntervals spec zone from to found → slice_get found k ≡ Some a → slice_get found (k + 1) ≡ Some b → a.end ≡ b.start
intervals_meet spec zone from to found k a b are at_a at_b =
    let inside : k + 1 < length found = slice_get_within found (k + 1) b at_b in
    let is_a = get_or_from_slice_get found k a a at_a in
    let is_b = get_or_from_slice_get found (k + 1) b a at_b in
    same_moment a.end b.start
    (sym (ap (λ i. i.end.nanosecond) is_a) ∙ meets spec zone from to found k a are inside ∙ ap (λ i. i.start.nanosecond) is_b)
