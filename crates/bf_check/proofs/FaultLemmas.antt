-- Which of the faults of a draft is answered.
use Rattle.std.proofs.Common.{◌≡◌, ℕ, ◌<◌, ◌≤◌, ◌==◌, List, [], ◌∷◌, length, map, get_or, slice_get, Bool, true, false, true≢false, Option, option_map, Some, None, if◌then◌else◌, refl, sym, ap, ◌∙◌, arith}
use Rattle.std.specs.List.{position, zip}
use Rattle.std.proofs.lemmas.List.{length-map}
use Rattle.std.proofs.lemmas.List.Quantifiers.{position-Some}
use Rattle.std.proofs.lemmas.Option.{slice_get-get_or, slice_get-map, slice_get_within}
use Rattle.std.proofs.lemmas.Slice.Zip.{length-zip}
use Rattle.bf_graph.specs.Edges.{IsAcyclic}
use Rattle.bf_read.specs.declared.draft.Draft.{Draft}
use Rattle.bf_read.specs.declared.draft.TaskDraft.{TaskDraft}
use Rattle.bf_check.specs.declared.fault.TaskFault.{TaskFault}
use Rattle.bf_check.specs.declared.fault.TaskFault.TheVariants.{UnknownUpstream, UnknownPool, SlotsBeyondPool, BadRule, PullNotSettled, ExpandSource, ExpandRule, BranchMisuse}
use Rattle.bf_check.specs.Checking.{shape_in}
use Rattle.bf_check.specs.inner.Looks.{IsPlaceOfFirst}
use Rattle.bf_check.specs.Refusals.{refusal_number_of, Has, NoneHas, HasNoneBelow, HasNoFault}
use Rattle.bf_plan.proofs.ListLemmas.{some_same}
use Rattle.bf_graph.proofs.Places.{none_passing}
use Rattle.bf_check.proofs.ListLemmas.{item_at, pair_at}

-- ---- numbers

fault_at : ℕ → Option TaskFault
fault_at n =
    if n == 6 then Some UnknownUpstream
    else (if n == 8 then Some UnknownPool
    else (if n == 9 then Some SlotsBeyondPool
    else (if n == 10 then Some BadRule
    else (if n == 14 then Some PullNotSettled
    else (if n == 15 then Some ExpandSource
    else (if n == 16 then Some ExpandRule
    else (if n == 17 then Some BranchMisuse else None)))))))

fault_at_number : (fault : TaskFault) → fault_at (refusal_number_of fault) ≡ Some fault
unfolding fault_at
fault_at_number UnknownUpstream = refl
fault_at_number UnknownPool = refl
fault_at_number SlotsBeyondPool = refl
fault_at_number BadRule = refl
fault_at_number PullNotSettled = refl
fault_at_number ExpandSource = refl
fault_at_number ExpandRule = refl
fault_at_number BranchMisuse = refl

-- a number is that of one fault
pub one_number : (a b : TaskFault) → refusal_number_of a ≡ refusal_number_of b → a ≡ b
one_number a b e = let both : Some a ≡ Some b = sym (fault_at_number a) ∙ ap fault_at e ∙ fault_at_number b in cc

-- ---- below a number

module _ (draft : Draft) where
  pub with_edges : HasNoneBelow draft 7 → IsAcyclic (shape_in draft.tasks).upstreams → HasNoneBelow draft 8
  with_edges below acyclic = record { tasks = by; edges = λ h. acyclic }
    where
      by : (fault : TaskFault) → refusal_number_of fault < 8 → NoneHas draft fault
      by UnknownUpstream h = below.tasks UnknownUpstream (omega arith)
      by UnknownPool h = absurd (omega (arith, h))
      by SlotsBeyondPool h = absurd (omega (arith, h))
      by BadRule h = absurd (omega (arith, h))
      by PullNotSettled h = absurd (omega (arith, h))
      by ExpandSource h = absurd (omega (arith, h))
      by ExpandRule h = absurd (omega (arith, h))
      by BranchMisuse h = absurd (omega (arith, h))

  -- no fault of a task has the numbers 11 to 13
  pub up_to : (n : ℕ) → n ≤ 14 → HasNoneBelow draft 11 → HasNoneBelow draft n
  up_to n most below = record { tasks = by; edges = λ h. below.edges (omega arith) }
    where
      by : (fault : TaskFault) → refusal_number_of fault < n → NoneHas draft fault
      by UnknownUpstream h = below.tasks UnknownUpstream (omega arith)
      by UnknownPool h = below.tasks UnknownPool (omega arith)
      by SlotsBeyondPool h = below.tasks SlotsBeyondPool (omega arith)
      by BadRule h = below.tasks BadRule (omega arith)
      by PullNotSettled h = absurd (omega (arith, h, most))
      by ExpandSource h = absurd (omega (arith, h, most))
      by ExpandRule h = absurd (omega (arith, h, most))
      by BranchMisuse h = absurd (omega (arith, h, most))

-- ---- the first task with a fault

module _ (draft : Draft) (fault : TaskFault) where
  -- a test of what was found of each task tells which tasks have the fault
  pub record Tells {Y : Type 0} (q : Y → Bool) (ys : List Y) : Type 0 where
    pub one_each : length ys ≡ length draft.tasks
    pub has : (t : ℕ) (task : TaskDraft) (y : Y) → slice_get draft.tasks t ≡ Some task → slice_get ys t ≡ Some y → q y ≡ true → Has draft fault t task
    pub has_not : (t : ℕ) (task : TaskDraft) (y : Y) → slice_get draft.tasks t ≡ Some task → slice_get ys t ≡ Some y → q y ≡ false → ¬ (Has draft fault t task)

  pub first_told : {Y : Type 0} (q : Y → Bool) (ys : List Y) → Tells q ys → IsPlaceOfFirst draft fault (position q ys)
  first_told q [] tells = λ t task there. let within = slice_get_within draft.tasks t task there in absurd (omega (arith, within, tells.one_each))
  first_told {Y} q (d ∷ rest) tells = go (position q ys) refl
    where
      ys : List Y
      ys = d ∷ rest

      passes_not : (s : ℕ) (other : TaskDraft) → s < length ys → slice_get draft.tasks s ≡ Some other → q (get_or ys s d) ≡ false → ¬ (Has draft fault s other)
      passes_not s other h there fails = tells.has_not s other (get_or ys s d) there (slice_get-get_or ys s d h) fails

      go : (place : Option ℕ) → position q ys ≡ place → IsPlaceOfFirst draft fault place
      go None e = λ t task there.
          let within = slice_get_within draft.tasks t task there in
          let low : t < length ys = omega (arith, within, tells.one_each) in
          passes_not t task low there (none_passing q ys d e t low)
      go (Some t) e =
          let first = position-Some q ys t d e in
          let within : t < length draft.tasks = omega (arith, first.0, tells.one_each) in
          let task = item_at draft.tasks t within in
          record {
            task = task.0;
            there = task.1;
            has = tells.has t task.0 (get_or ys t d) task.1 (slice_get-get_or ys t d first.0) first.1;
            none_before = λ s other h there. passes_not s other (omega (arith, h, first.0)) there (first.2 s h);
          }

  module _ (has : TaskDraft → Bool) (right : (t : ℕ) (task : TaskDraft) → has task ≡ true → Has draft fault t task) (seen : (t : ℕ) (task : TaskDraft) → Has draft fault t task → has task ≡ true) where
    -- by what is found of a task alone
    pub told_by_each : {Y Z : Type 0} (q : Y → Bool) (view : Y → Z) (f : TaskDraft → Z) (ys : List Y) → map view ys ≡ map f draft.tasks → ((task : TaskDraft) (y : Y) → view y ≡ f task → q y ≡ has task) → IsPlaceOfFirst draft fault (position q ys)
    told_by_each {Y} q view f ys found tests = first_told q ys (record {
      one_each = sym (length-map ys view) ∙ ap length found ∙ length-map draft.tasks f;
      has = λ t task y there at passes. right t task (sym (same t task y there at) ∙ passes);
      has_not = λ t task y there at fails yes. true≢false (sym (seen t task yes) ∙ sym (same t task y there at) ∙ fails);
    })
      where
        same : (t : ℕ) (task : TaskDraft) (y : Y) → slice_get draft.tasks t ≡ Some task → slice_get ys t ≡ Some y → q y ≡ has task
        same t task y there at =
            let both : Some (view y) ≡ Some (f task) = sym (ap (option_map view) at) ∙ sym (slice_get-map view ys t) ∙ ap (λ zs. slice_get zs t) found ∙ slice_get-map f draft.tasks t ∙ ap (option_map f) there in
            tests task y (some_same both)

    -- by a task and what an earlier look found of it
    pub told_by_pairs : {Y : Type 0} (q : TaskDraft × Y → Bool) (g : TaskDraft → Option Y) (ys : List Y) → map Some ys ≡ map g draft.tasks → ((task : TaskDraft) (y : Y) → g task ≡ Some y → q (task, y) ≡ has task) → IsPlaceOfFirst draft fault (position q (zip draft.tasks ys))
    told_by_pairs {Y} q g ys found tests = first_told q (zip draft.tasks ys) (record {
      one_each = (let all = length-zip draft.tasks ys in let same = sym (length-map ys Some) ∙ ap length found ∙ length-map draft.tasks g in omega (arith, all, same));
      has = λ t task (other, y) there at passes. right t task (sym (same t task other y there at) ∙ passes);
      has_not = λ t task (other, y) there at fails yes. true≢false (sym (seen t task yes) ∙ sym (same t task other y there at) ∙ fails);
    })
      where
        same : (t : ℕ) (task other : TaskDraft) (y : Y) → slice_get draft.tasks t ≡ Some task → slice_get (zip draft.tasks ys) t ≡ Some (other, y) → q (other, y) ≡ has task
        same t task other y there at =
            let both = pair_at draft.tasks ys t other y at in
            let it : other ≡ task = some_same (sym both.0 ∙ there) in
            let of : Some (g task) ≡ Some (Some y) = sym (ap (option_map g) there) ∙ sym (slice_get-map g draft.tasks t) ∙ ap (λ zs. slice_get zs t) (sym found) ∙ slice_get-map Some ys t ∙ ap (option_map Some) both.1 in
            ap (λ (d : TaskDraft). q (d, y)) it ∙ tests task y (some_same of)

-- a draft without a fault up to the last number has none
pub no_fault : (draft : Draft) → HasNoneBelow draft 18 → HasNoFault draft
no_fault draft below = record { tasks = λ fault. below.tasks fault (last fault); edges = below.edges (omega arith) }
  where
    last : (fault : TaskFault) → refusal_number_of fault < 18
    last UnknownUpstream = omega arith
    last UnknownPool = omega arith
    last SlotsBeyondPool = omega arith
    last BadRule = omega arith
    last PullNotSettled = omega arith
    last ExpandSource = omega arith
    last ExpandRule = omega arith
    last BranchMisuse = omega arith
