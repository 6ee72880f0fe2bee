-- The run that starts at the moment of a text.
use Rattle.std.proofs.Common.{◌≡◌, ◌<◌, ◌+◌, ◌*◌, ◌%◌, ℕ, zero, suc, ℤ, pos, ◌<ℤ◌, nat_lt, false, List, [], ◌∷◌, length, get_or, slice_get, Option, Some, None, Ok, Err, Ordering, Less, Equal, Greater, refl, sym, ap, ◌∙◌, subst, inl, inr, arith}
use Rattle.std.specs.List.Sorted.{IsBinarySearchResult, IsNonDecreasingBy, IsSortedBy}
use Rattle.std.specs.Ordering.{int_cmp, is_lt, ordering_index}
use Rattle.std.specs.Cmp.{int_cmp_total}
use Rattle.std.proofs.lemmas.Bool.{cases_Bool}
use Rattle.std.proofs.lemmas.Bool.Decides.{nat_tests}
use Rattle.std.proofs.lemmas.Cmp.{int_ranked}
use Rattle.std.proofs.lemmas.Int.{ints}
use Rattle.std.proofs.lemmas.List.Sorted.{searchable_from_sorted}
use Rattle.std.proofs.lemmas.Option.{get_or_from_slice_get, slice_get_within}
use Rattle.bf_interval.specs.declared.interval.Interval.{Interval}
use Rattle.bf_interval.specs.Runs.{AreOfRuns, IsOfRun}
use Rattle.bf_interval.proofs.OfRuns.{shown_of_runs}
use Rattle.bf_moment.specs.Moment.{IsShown, IsWhole, Spells, moment_text, nearest}
use Rattle.bf_moment.proofs.OneText.{one_text}
use Rattle.bf_plan.proofs.ListLemmas.{some_same}
use Rattle.bf_journal.specs.inner.Tells.{StartsAt, StartsOn}

abbrev pub start_of : Interval → ℤ
start_of run = run.start.nanosecond

-- there is such a run
pub there : (runs : List Interval) (k : ℕ) → k < length runs → (run : Interval) × (slice_get runs k ≡ Some run)
there [] k within = absurd (omega (arith, within))
there (run ∷ runs) zero within = (run, refl)
there (run ∷ runs) (suc k) within = there runs k (omega (arith, within))

-- ---- the search by moments

-- there is such a run, and it starts then
on_run : (o : Option Interval) (moment : ℤ) → StartsOn o moment → (run : Interval) × (o ≡ Some run) × (start_of run ≡ moment)
on_run None moment starts = absurd starts
on_run (Some run) moment starts = (run, refl, starts)

-- what the comparison tells
is_less : (x y : ℤ) → int_cmp x y ≡ Less → x <ℤ y
is_less x y e = int_ranked x y Less (sym e)

is_equal : (x y : ℤ) → int_cmp x y ≡ Equal → x ≡ y
is_equal x y e = int_ranked x y Equal (sym e)

is_greater : (x y : ℤ) → int_cmp x y ≡ Greater → y <ℤ x
is_greater x y e = int_ranked x y Greater (sym e)

not_less : (x y : ℤ) → x <ℤ y → is_lt (int_cmp y x) ≡ false
not_less x y below = go (int_cmp y x) refl
  where
    go : (o : Ordering) → int_cmp y x ≡ o → is_lt o ≡ false
    go Less e = absurd (omega (arith, ints, is_less y x e, below))
    go Equal e = refl
    go Greater e = refl

module _ (runs : List Interval) (are : AreOfRuns runs) (key : ℤ) where
  sorted : IsSortedBy (λ a b. is_lt (int_cmp (start_of a) (start_of b))) runs
  sorted k d low within = not_less (start_of (get_or runs k d)) (start_of (get_or runs (k + 1) d)) (are.rising k (k + 1) d (omega arith) within)

  rises : IsNonDecreasingBy (λ run. ordering_index (int_cmp (start_of run) key)) runs
  rises = searchable_from_sorted int_cmp_total start_of runs key sorted

  pub found : (at : ℕ) → at < length runs → IsBinarySearchResult (λ run. int_cmp (start_of run) key) runs (Ok at) → StartsOn (slice_get runs at) key
  found at within is =
      let (run, is_run) = there runs at within in
      let same : get_or runs at run ≡ run = get_or_from_slice_get runs at run run is_run in
      subst (λ o. StartsOn o key) (sym is_run) (ap start_of (sym same) ∙ is_equal (start_of (get_or runs at run)) key (is run))

  pub not_found : (at : ℕ) → IsBinarySearchResult (λ run. int_cmp (start_of run) key) runs (Err at) → (k : ℕ) → StartsOn (slice_get runs k) key → ⊥
  not_found at is k starts =
      let (run, is_run, starts_then) = on_run (slice_get runs k) key starts in
      let within : k < length runs = slice_get_within runs k run is_run in
      let same : start_of (get_or runs k run) ≡ key = ap start_of (get_or_from_slice_get runs k run run is_run) ∙ starts_then in
      let parted = is rises in
      elim (cases_Bool (nat_lt k at)) as (λ _. ⊥) [
        | inl before ↦ omega (arith, ints, same, is_less (start_of (get_or runs k run)) key (parted.0 k run (omega arith) (grind (arith, nat_tests, before))))
        | inr behind ↦ omega (arith, ints, same, is_greater (start_of (get_or runs k run)) key (parted.1 k run (grind (arith, nat_tests, behind)) within))
      ]

-- ---- the text of a start

-- the text is that of the start of such a run
at_run : (o : Option Interval) (text : List ℕ) → StartsAt o text → (run : Interval) × (o ≡ Some run) × (text ≡ moment_text (start_of run))
at_run None text starts = absurd starts
at_run (Some run) text starts = (run, refl, starts)

pub of_run : (runs : List Interval) → AreOfRuns runs → (k : ℕ) (run : Interval) → slice_get runs k ≡ Some run → IsOfRun run
of_run runs are k run is = subst IsOfRun (get_or_from_slice_get runs k run run is) (are.each k run (slice_get_within runs k run is))

pub shown_run : (runs : List Interval) → AreOfRuns runs → (k : ℕ) (run : Interval) → slice_get runs k ≡ Some run → IsShown (start_of run)
shown_run runs are k run is =
    subst (λ (r : Interval). IsShown (start_of r)) (get_or_from_slice_get runs k run run is) ((shown_of_runs runs are k run (slice_get_within runs k run is)).0)

pub whole_run : (run : Interval) → IsOfRun run → IsWhole (start_of run)
whole_run run of_run =
    let start = of_run.start in
    let whole : start.second * 1_000_000_000 % 1_000_000_000 ≡ 0 = omega arith in
    subst IsWhole (sym start.is) (ap pos whole)

spells_start : (run : Interval) (text : List ℕ) → IsShown (start_of run) → IsOfRun run → text ≡ moment_text (start_of run) → Spells text (start_of run)
spells_start run text shown of_run is = record { shown = shown; whole = whole_run run of_run; text = inl is }

moment_length : (n : ℤ) → length (moment_text n) ≡ 20
unfolding moment_text
moment_length n = refl

-- a moment that such a text spells is the start
says_start : (run : Interval) (text : List ℕ) (moment n : ℤ) → IsShown (start_of run) → IsOfRun run → text ≡ moment_text (start_of run) → Spells text n → moment ≡ nearest n → start_of run ≡ moment
says_start run text moment n shown of_run is spells near = elim spells.text [
  | inl long ↦
      let same : n ≡ start_of run = one_text n (start_of run) spells.shown shown spells.whole (whole_run run of_run) (sym long ∙ is) in
      let start = of_run.start.is in
      let last = of_run.start.to_2208 in
      grind (arith, ints, same, near, start, last)
  | inr date ↦ absurd (let long : length text ≡ 20 = ap length is ∙ moment_length (start_of run) in omega (arith, ap length date.1, long))
]

module _ (runs : List Interval) (are : AreOfRuns runs) (text : List ℕ) where
  -- a text that spells no moment is that of no start
  pub none_spelled : ((n : ℤ) → Spells text n → ⊥) → (k : ℕ) → StartsAt (slice_get runs k) text → ⊥
  none_spelled none k starts =
      let (run, is_run, is) = at_run (slice_get runs k) text starts in
      none (start_of run) (spells_start run text (shown_run runs are k run is_run) (of_run runs are k run is_run) is)

  module _ (moment : ℤ) (spelled : (n : ℤ) × (Spells text n × (moment ≡ nearest n))) where
    -- of a run whose start has the text, the start is the moment that it spells
    starts_then : (k : ℕ) → StartsAt (slice_get runs k) text → StartsOn (slice_get runs k) moment
    starts_then k starts =
        let (run, is_run, is) = at_run (slice_get runs k) text starts in
        subst (λ o. StartsOn o moment) (sym is_run)
        (says_start run text moment spelled.0 (shown_run runs are k run is_run) (of_run runs are k run is_run) is spelled.1.0 spelled.1.1)

    pub none_at : ((k : ℕ) → StartsOn (slice_get runs k) moment → ⊥) → (k : ℕ) → StartsAt (slice_get runs k) text → ⊥
    none_at none k starts = none k (starts_then k starts)

    -- and one run that starts then has the text, if any has
    pub other_text : (at : ℕ) → StartsOn (slice_get runs at) moment → (StartsAt (slice_get runs at) text → ⊥) → (k : ℕ) → StartsAt (slice_get runs k) text → ⊥
    other_text at starts_on other k starts =
        let (run, is_run, is) = at_run (slice_get runs k) text starts in
        let (there, is_there, on) = on_run (slice_get runs at) moment starts_on in
        let (here, is_here, then) = on_run (slice_get runs k) moment (starts_then k starts) in
        let same : run ≡ here = some_same (sym is_run ∙ is_here) in
        other (subst (λ o. StartsAt o text) (sym is_there) (is ∙ ap (λ (r : Interval). moment_text (start_of r)) same ∙ ap moment_text (then ∙ sym on)))
