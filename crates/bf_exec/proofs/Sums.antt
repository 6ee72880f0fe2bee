-- The sums over all lanes after a step over one of them, and the lane that awaits no answer.
use Rattle.std.proofs.Common.{◌≡◌, ◌<◌, ◌≤◌, ◌+◌, ◌++◌, ◌∷◌, ℕ, zero, suc, Bool, true, not, List, [], length, slice_get, slice_set, Some, None, sum_by, All, get_or, refl, sym, ap, ◌∙◌, subst, arith}
use Rattle.std.proofs.lemmas.List.Sums.{fails_before_first, sum_by-cons, sum_by_push}
use Rattle.std.proofs.lemmas.Bool.{ltb-true, not-true, not-false}
use Rattle.std.proofs.lemmas.Grind.{common_steps}
use Rattle.std.proofs.lemmas.List.Quantifiers.{position-Some}
use Rattle.std.proofs.lemmas.Option.{slice_get-get_or}
use Rattle.std.specs.List.{position, position_or_len}
use Rattle.bf_try.specs.Asked.{Asked}
use Rattle.bf_lane.specs.declared.messages.Answer.{Answer}
use Rattle.bf_lane.specs.declared.messages.Job.{Job}
use Rattle.bf_lane.specs.declared.messages.Job.TheVariants.{Run, Stop}
use Rattle.bf_lane.specs.Lanes.{all_runs, answered, asked, asked_by}
use Rattle.bf_lane.specs.Open.{IsIdleAt, Scheduled, scheduled, awaits}
use Rattle.bf_lane.specs.Rounds.{IsGathered, IsSubmitted}
use Rattle.bf_lane.proofs.Serving.{all_runs_run, answered_append, asked_append}
use Rattle.bf_exec.specs.Accounts.{NoneStopped, gathered_sum, submitted_sum}
use Rattle.bf_exec.specs.inner.Accounts.{AreUnused}

-- the sum over the lanes, of which one has changed
lanes_set : (f : Scheduled → ℕ) (lanes : List Scheduled) (at : ℕ) (lane new : Scheduled) → slice_get lanes at ≡ Some lane → sum_by f (slice_set lanes at new) + f lane ≡ sum_by f lanes + f new
lanes_set f [] at lane new e = cc
lanes_set f (l ∷ ls) zero lane new e =
    let same : l ≡ lane = cc in
    let one : f l ≡ f lane = ap f same in
    let a : _ = sum_by-cons f new ls in
    let b : _ = sum_by-cons f l ls in
    omega (arith, one, a, b)
lanes_set f (l ∷ ls) (suc at) lane new e =
    let rest : _ = lanes_set f ls at lane new e in
    let a : _ = sum_by-cons f l (slice_set ls at new) in
    let b : _ = sum_by-cons f l ls in
    omega (arith, rest, a, b)

length_lanes : (lanes : List Scheduled) (at : ℕ) (new : Scheduled) → length (slice_set lanes at new) ≡ length lanes
length_lanes [] at new = refl
length_lanes (l ∷ ls) zero new = refl
length_lanes (l ∷ ls) (suc at) new = let rest : _ = length_lanes ls at new in omega (arith, rest)

stopped_set : (lanes : List Scheduled) (at : ℕ) (lane new : Scheduled) → slice_get lanes at ≡ Some lane → (all_runs lane.submitted ≡ true → all_runs new.submitted ≡ true) → NoneStopped lanes → NoneStopped (slice_set lanes at new)
stopped_set [] at lane new e keeps none = tt
stopped_set (l ∷ ls) zero lane new e keeps none = let same : l ≡ lane = cc in (keeps (sym (ap (λ (x : Scheduled). all_runs x.submitted) same) ∙ none.0), none.1)
stopped_set (l ∷ ls) (suc at) lane new e keeps none = (none.0, stopped_set ls at lane new e keeps none.1)

-- ---- a try more that was submitted

module _ (lanes next : List Scheduled) (at : ℕ) (t : Asked) (is : IsSubmitted lanes next at t) where
  pub submitted_more : (h : Asked → ℕ) → submitted_sum h next ≡ submitted_sum h lanes + h t
  submitted_more h =
      let set : _ = lanes_set (λ lane. sum_by h (asked lane.submitted)) lanes at is.lane (scheduled (is.lane.submitted ++ Run t ∷ []) is.lane.gathered) is.here in
      let one : sum_by h (asked (is.lane.submitted ++ Run t ∷ [])) ≡ sum_by h (asked is.lane.submitted) + h t = ap (sum_by h) (asked_append is.lane.submitted (Run t ∷ [])) ∙ sum_by_push h (asked is.lane.submitted) t in
      subst (λ (ls : List Scheduled). submitted_sum h ls ≡ submitted_sum h lanes + h t) (sym is.new) (omega (arith, set, one))

  pub submitted_gathered : (h : Asked → ℕ) → gathered_sum h next ≡ gathered_sum h lanes
  submitted_gathered h =
      let set : _ = lanes_set (λ lane. sum_by h (answered lane.gathered)) lanes at is.lane (scheduled (is.lane.submitted ++ Run t ∷ []) is.lane.gathered) is.here in
      subst (λ (ls : List Scheduled). gathered_sum h ls ≡ gathered_sum h lanes) (sym is.new) (omega (arith, set))

  pub submitted_length : length next ≡ length lanes
  submitted_length = ap length is.new ∙ length_lanes lanes at _

  pub submitted_runs : NoneStopped lanes → NoneStopped next
  submitted_runs none = subst NoneStopped (sym is.new) (stopped_set lanes at is.lane _ is.here (λ runs. all_runs_run is.lane.submitted t runs) none)

-- ---- an answer more that was gathered

module _ (lanes next : List Scheduled) (at : ℕ) (a : Answer) (is : IsGathered lanes next at a) where
  pub gathered_more : (h : Asked → ℕ) → gathered_sum h next ≡ gathered_sum h lanes + h (asked_by a)
  gathered_more h =
      let set : _ = lanes_set (λ lane. sum_by h (answered lane.gathered)) lanes at is.lane (scheduled is.lane.submitted (is.lane.gathered ++ a ∷ [])) is.here in
      let one : sum_by h (answered (is.lane.gathered ++ a ∷ [])) ≡ sum_by h (answered is.lane.gathered) + h (asked_by a) = ap (sum_by h) (answered_append is.lane.gathered (a ∷ [])) ∙ sum_by_push h (answered is.lane.gathered) (asked_by a) in
      subst (λ (ls : List Scheduled). gathered_sum h ls ≡ gathered_sum h lanes + h (asked_by a)) (sym is.new) (omega (arith, set, one))

  pub gathered_submitted : (h : Asked → ℕ) → submitted_sum h next ≡ submitted_sum h lanes
  gathered_submitted h =
      let set : _ = lanes_set (λ lane. sum_by h (asked lane.submitted)) lanes at is.lane (scheduled is.lane.submitted (is.lane.gathered ++ a ∷ [])) is.here in
      subst (λ (ls : List Scheduled). submitted_sum h ls ≡ submitted_sum h lanes) (sym is.new) (omega (arith, set))

  pub gathered_length : length next ≡ length lanes
  gathered_length = ap length is.new ∙ length_lanes lanes at _

  pub gathered_runs : NoneStopped lanes → NoneStopped next
  gathered_runs none = subst NoneStopped (sym is.new) (stopped_set lanes at is.lane _ is.here (λ runs. runs) none)

-- ---- lanes that nothing went over

pub unused_submitted : (h : Asked → ℕ) (lanes : List Scheduled) → AreUnused lanes → submitted_sum h lanes ≡ 0
unused_submitted h [] none = refl
unused_submitted h (l ∷ ls) none =
    let rest : _ = unused_submitted h ls none.1 in
    let one : sum_by h (asked l.submitted) ≡ 0 = ap (λ (x : Scheduled). sum_by h (asked x.submitted)) none.0 in
    let a : _ = sum_by-cons (λ (lane : Scheduled). sum_by h (asked lane.submitted)) l ls in
    omega (arith, rest, one, a)

pub unused_gathered : (h : Asked → ℕ) (lanes : List Scheduled) → AreUnused lanes → gathered_sum h lanes ≡ 0
unused_gathered h [] none = refl
unused_gathered h (l ∷ ls) none =
    let rest : _ = unused_gathered h ls none.1 in
    let one : sum_by h (answered l.gathered) ≡ 0 = ap (λ (x : Scheduled). sum_by h (answered x.gathered)) none.0 in
    let a : _ = sum_by-cons (λ (lane : Scheduled). sum_by h (answered lane.gathered)) l ls in
    omega (arith, rest, one, a)

pub unused_runs : (lanes : List Scheduled) → AreUnused lanes → NoneStopped lanes
unused_runs [] none = tt
unused_runs (l ∷ ls) none = (ap (λ (x : Scheduled). all_runs x.submitted) none.0, unused_runs ls none.1)

-- ---- the lane that awaits no answer

count_asked : (js : List Job) → all_runs js ≡ true → sum_by (λ _. 1) (asked js) ≡ length js
count_asked [] runs = refl
count_asked (Run t ∷ js) runs =
    let rest : _ = count_asked js runs in
    let a : _ = sum_by-cons (λ (_ : Asked). 1) t (asked js) in
    omega (arith, rest, a)
count_asked (Stop ∷ js) runs = cc

count_answered : (as' : List Answer) → sum_by (λ _. 1) (answered as') ≡ length as'
count_answered [] = refl
count_answered (a ∷ as') =
    let rest : _ = count_answered as' in
    let b : _ = sum_by-cons (λ (_ : Asked). 1) (asked_by a) (answered as') in
    omega (arith, rest, b)

-- where each lane awaits an answer, more tries were submitted than answers gathered, by as many as there are lanes at least
all_busy : (lanes : List Scheduled) → NoneStopped lanes → All (λ lane. awaits lane ≡ true) lanes → gathered_sum (λ _. 1) lanes + length lanes ≤ submitted_sum (λ _. 1) lanes
all_busy [] none all = omega arith
all_busy (l ∷ ls) none all =
    let rest : _ = all_busy ls none.1 (λ k d below. all (suc k) d (omega (arith, below))) in
    let s : _ = count_asked l.submitted none.0 in
    let g : _ = count_answered l.gathered in
    let less : length l.gathered < length l.submitted = ltb-true _ _ (all 0 l (omega arith)) in
    let a : _ = sum_by-cons (λ (lane : Scheduled). sum_by (λ _. 1) (asked lane.submitted)) l ls in
    let b : _ = sum_by-cons (λ (lane : Scheduled). sum_by (λ _. 1) (answered lane.gathered)) l ls in
    omega (arith, rest, s, g, less, a, b)

abbrev is_idle : Scheduled → Bool
is_idle lane = not (awaits lane)

-- where none awaits no answer, each awaits one
none_idle : (lanes : List Scheduled) → position is_idle lanes ≡ None → All (λ lane. awaits lane ≡ true) lanes
none_idle lanes none k d below =
    let far : length lanes ≤ position_or_len is_idle lanes = grind (arith, common_steps) in
    not-false _ (fails_before_first is_idle lanes k d (omega (arith, far, below)))

-- where fewer tries than lanes were submitted and not gathered, one lane awaits no answer
pub some_idle : (lanes : List Scheduled) (n : ℕ) → NoneStopped lanes → submitted_sum (λ _. 1) lanes ≡ gathered_sum (λ _. 1) lanes + n → n < length lanes → position is_idle lanes ≡ None → ⊥
some_idle lanes n none equal few is_none =
    let busy : _ = all_busy lanes none (none_idle lanes is_none) in
    omega (arith, busy, equal, few)

-- the first lane that awaits no answer is one
pub first_idle : (lanes : List Scheduled) (at : ℕ) → position is_idle lanes ≡ Some at → IsIdleAt lanes at
first_idle lanes at is =
    let d : Scheduled = scheduled [] [] in
    let found : _ = position-Some is_idle lanes at d is in
    record { lane = get_or lanes at d; here = slice_get-get_or lanes at d found.0; idle = not-true _ found.1 }
