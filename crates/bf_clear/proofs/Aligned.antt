-- What is taken of a report, part by part.
use Rattle.std.proofs.Common.{◌≡◌, ◌≢◌, ◌<◌, ◌++◌, ℕ, zero, suc, Bool, true, false, List, [], ◌∷◌, length, map, get_or, slice_get, nat_lt, cond, Option, Some, None, option_and_then, refl, sym, ap, ◌∙◌, subst, arith}
use Rattle.std.specs.List.{find, position, position_or_len}
use Rattle.std.specs.Ordering.{int_eq}
use Rattle.std.proofs.Math.ListN.{set}
use Rattle.std.proofs.lemmas.Bool.{and_parts}
use Rattle.std.proofs.lemmas.Bool.Decides.{nat_tests, Decides-int_eq}
use Rattle.std.proofs.lemmas.List.{get_or-map, length-map}
use Rattle.std.proofs.lemmas.List.Folds.{find_at}
use Rattle.std.proofs.lemmas.Option.{slice_get_past, slice_get-get_or}
use Rattle.std.proofs.lemmas.List.Quantifiers.{position-Some}
use Rattle.std.proofs.lemmas.Slice.Eq.{bytes_eq-Decides}
use Rattle.std.specs.Str.{bytes_eq}
use Rattle.bf_value.specs.Distinct.{AreDistinct}
use Rattle.bf_plan.specs.declared.plan.Task.{Task}
use Rattle.bf_plan.specs.declared.plan.Dag.{Dag}
use Rattle.bf_interval.specs.declared.interval.Interval.{Interval}
use Rattle.bf_report.specs.declared.report.Report.{Report}
use Rattle.bf_report.specs.declared.report.RunReport.{RunReport}
use Rattle.bf_clear.specs.Aligning.{AreAligned, IsAligned, is_over, tasks_at, tasks_in, tasks_told, told_at}
use Rattle.bf_clear.specs.inner.Aligning.{AreAlignedBy, AreApart}
use Rattle.bf_clear.specs.inner.Entries.{IsWithin}
use Rattle.bf_clear.specs.Matching.{is_same_interval_in}
use Rattle.bf_clear.proofs.Within.{sized_within}

-- what stands at the place of the first that passes is the first that passes
pub found_place : {X : Type 0} (p : X → Bool) (xs : List X) → option_and_then (slice_get xs) (position p xs) ≡ find p xs
found_place p xs = by (nat_lt n (length xs)) refl ∙ sym (find_at p xs)
  where
    n : ℕ
    n = position_or_len p xs

    by : (b : Bool) → nat_lt n (length xs) ≡ b → option_and_then (slice_get xs) (cond b (Some n) None) ≡ slice_get xs n
    by true e = refl
    by false e = sym (slice_get_past xs n (grind (arith, nat_tests)))

-- one that doesn't pass, in the place of one that doesn't
pub find_set_unfound : {X : Type 0} (p : X → Bool) (xs : List X) (i : ℕ) (y d : X) → p y ≡ false → p (get_or xs i d) ≡ false → find p (set xs i y) ≡ find p xs
find_set_unfound p [] i y d new old = refl
find_set_unfound p (x ∷ xs) zero y d new old = rw (new, old) refl
find_set_unfound p (x ∷ xs) (suc i) y d new old = rw (find_set_unfound p xs i y d new old) refl

module _ (runs : List RunReport) (interval : Interval) (place : ℕ) (d : RunReport) (at : position (is_over interval) runs ≡ Some place) (within : place < length runs) where
  -- the run over that data interval
  pub told_there : tasks_at runs interval ≡ (get_or runs place d).tasks
  told_there = ap tasks_in (sym (found_place (is_over interval) runs) ∙ (ap (option_and_then (slice_get runs)) at ∙ slice_get-get_or runs place d within))

-- where there is none nothing is told
pub untold : (runs : List RunReport) (interval : Interval) → position (is_over interval) runs ≡ None → tasks_at runs interval ≡ []
untold runs interval none = ap tasks_in (sym (found_place (is_over interval) runs) ∙ ap (option_and_then (slice_get runs)) none)

-- a run that starts with one interval is over no other
pub over_one : (run : RunReport) (interval other : Interval) → is_over interval run ≡ true → other.start.nanosecond ≢ interval.start.nanosecond → is_over other run ≡ false
over_one run interval other here far = by (is_over other run) refl
  where
    starts : (over : Interval) → is_over over run ≡ true → run.interval.start.nanosecond ≡ over.start.nanosecond
    starts over e = (Decides-int_eq run.interval.start.nanosecond over.start.nanosecond).0 (and_parts (int_eq run.interval.start.nanosecond over.start.nanosecond) (int_eq run.interval.end.nanosecond over.end.nanosecond) e).0

    by : (b : Bool) → is_over other run ≡ b → is_over other run ≡ false
    by false e = e
    by true e = absurd (far (sym (starts other e) ∙ starts interval here))

-- what is told of a run stands still where that of another is taken
pub told_else : (runs : List RunReport) (interval : Interval) (place : ℕ) (run taken : RunReport) → run ≡ get_or runs place run → is_over interval run ≡ true → taken.interval ≡ run.interval
    → (other : Interval) → other.start.nanosecond ≢ interval.start.nanosecond → tasks_at (set runs place taken) other ≡ tasks_at runs other
told_else runs interval place run taken is here same other far =
    let gone = over_one run interval other here far in
    ap tasks_in (find_set_unfound (is_over other) runs place taken run (ap (λ (i : Interval). is_same_interval_in i other) same ∙ gone) (ap (is_over other) (sym is) ∙ gone))

mapped_twice : {X Y Z : Type 0} (h : Y → Z) (g : X → Y) (xs : List X) → map h (map g xs) ≡ map (λ x. h (g x)) xs
mapped_twice h g [] = refl
mapped_twice h g (x ∷ xs) = ap (λ rest. h (g x) ∷ rest) (mapped_twice h g xs)

-- ---- runs

module _ (places : List (Option ℕ)) (told : List RunReport) where
  -- one more run
  pub aligned_more : (intervals : List Interval) (runs : List RunReport) (interval : Interval) (run : RunReport) → AreAlignedBy places told intervals runs
      → run.interval ≡ interval → run.tasks ≡ map (told_at (tasks_at told interval)) places → AreAlignedBy places told (intervals ++ interval ∷ []) (runs ++ run ∷ [])
  aligned_more [] [] interval run are same is = (same, is, tt)
  aligned_more (first ∷ rest) (r ∷ rs) interval run are same is = (are.0, are.1, aligned_more rest rs interval run are.2 same is)
  aligned_more [] (r ∷ rs) interval run are same is = absurd are
  aligned_more (first ∷ rest) [] interval run are same is = absurd are

  -- where a task's place is that of its id, the tasks of each run are those that stand under their ids
  pub aligned_by_ids : (dag : Dag) (report : Report) → told ≡ report.runs → places ≡ map (λ task. position (bytes_eq task.id) report.tasks) dag.tasks
      → (intervals : List Interval) (runs : List RunReport) → AreAlignedBy places told intervals runs → AreAligned dag report intervals runs
  aligned_by_ids dag report all are_places [] [] are = tt
  aligned_by_ids dag report all are_places (interval ∷ intervals) (run ∷ runs) are =
      (are.0, are.1 ∙ by_ids, aligned_by_ids dag report all are_places intervals runs are.2)
    where
      by_ids : map (told_at (tasks_at told interval)) places ≡ tasks_told dag report.tasks (tasks_at report.runs interval)
      by_ids =
          (λ k. map (told_at (tasks_at (all k) interval)) (are_places k))
          ∙ mapped_twice (told_at (tasks_at report.runs interval)) (λ (task : Task). position (bytes_eq task.id) report.tasks) dag.tasks
  aligned_by_ids dag report all are_places [] (run ∷ runs) are = absurd are
  aligned_by_ids dag report all are_places (interval ∷ intervals) [] are = absurd are

-- ---- sizes

module _ (dag : Dag) (told : Report) where
  aligned_long : (intervals : List Interval) (runs : List RunReport) → AreAligned dag told intervals runs → length runs ≡ length intervals
  aligned_long [] [] are = refl
  aligned_long [] (run ∷ runs) are = absurd are
  aligned_long (interval ∷ intervals) [] are = absurd are
  aligned_long (interval ∷ intervals) (run ∷ runs) are = ap suc (aligned_long intervals runs are.2)

  aligned_each : (intervals : List Interval) (runs : List RunReport) → AreAligned dag told intervals runs → (k : ℕ) (run : RunReport) → slice_get runs k ≡ Some run → length run.tasks ≡ length dag.tasks
  aligned_each intervals [] are k run e = cc
  aligned_each [] (r ∷ rs) are k run e = absurd are
  aligned_each (interval ∷ intervals) (r ∷ rs) are zero run e =
      let same : r ≡ run = cc in
      ap (λ (x : RunReport). length x.tasks) (sym same) ∙ (ap length are.1 ∙ length-map dag.tasks _)
  aligned_each (interval ∷ intervals) (r ∷ rs) are (suc k) run e = aligned_each intervals rs are.2 k run e

-- what is told of the plan and of the runs is of what is there
pub aligned_within : (dag : Dag) (intervals : List Interval) (told aligned : Report) → IsAligned dag intervals told aligned → IsWithin dag (length intervals) aligned
aligned_within dag intervals told aligned is =
    sized_within dag (length intervals) aligned (aligned_long dag told intervals aligned.runs is.runs) (aligned_each dag told intervals aligned.runs is.runs)

-- ---- ids

-- a place is that of one id
same_id : (ids : List (List ℕ)) (one other : List ℕ) (place : ℕ) → position (bytes_eq one) ids ≡ Some place → position (bytes_eq other) ids ≡ Some place → one ≡ other
same_id ids one other place here there =
    (bytes_eq-Decides one (get_or ids place [])).0 (position-Some (bytes_eq one) ids place [] here).1
    ∙ sym ((bytes_eq-Decides other (get_or ids place [])).0 (position-Some (bytes_eq other) ids place [] there).1)

-- so distinct ids stand at no one place
pub places_apart : (ids names : List (List ℕ)) → AreDistinct names → AreApart (map (λ name. position (bytes_eq name) ids) names)
places_apart ids names distinct i j d below within same = by (position (bytes_eq (get_or names i [])) ids) refl
  where
    last : j < length names
    last = omega (arith, within, length-map names (λ (name : List ℕ). position (bytes_eq name) ids))

    here : get_or (map (λ name. position (bytes_eq name) ids) names) i d ≡ position (bytes_eq (get_or names i [])) ids
    here = get_or-map (λ (name : List ℕ). position (bytes_eq name) ids) names i [] d (omega (arith, below, last))

    there : get_or (map (λ name. position (bytes_eq name) ids) names) j d ≡ position (bytes_eq (get_or names j [])) ids
    there = get_or-map (λ (name : List ℕ). position (bytes_eq name) ids) names j [] d last

    by : (o : Option ℕ) → position (bytes_eq (get_or names i [])) ids ≡ o → get_or (map (λ name. position (bytes_eq name) ids) names) i d ≡ None
    by None is = here ∙ is
    by (Some place) is = absurd (distinct i j [] below last (same_id ids (get_or names i []) (get_or names j []) place is (sym there ∙ (sym same ∙ (here ∙ is)))))

-- nor do tasks with distinct ids
pub tasks_apart : (ids : List (List ℕ)) (tasks : List Task) → AreDistinct (map (λ task. task.id) tasks) → AreApart (map (λ task. position (bytes_eq task.id) ids) tasks)
tasks_apart ids tasks distinct = subst AreApart (mapped_twice (λ name. position (bytes_eq name) ids) (λ (task : Task). task.id) tasks) (places_apart ids (map (λ task. task.id) tasks) distinct)
