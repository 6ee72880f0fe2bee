-- The states of closed runs.
use Rattle.std.proofs.Common.{◌≡◌, ◌<◌, ℕ, suc, zero, Bool, true, false, not, ◌&&◌, ◌||◌, if◌then◌else◌, length, ◌+◌, slice_index_or, slice_get, slice_set, List, [], ◌∷◌, Option, None, Some, is_some, option_map, refl, sym, ap, ap₂, ◌∙◌, inl, inr, arith}
use Rattle.std.specs.List.{list_all, list_any}
use Rattle.std.proofs.lemmas.Bool.{and_parts}
use Rattle.bf_core.specs.Terms.{Dag, IsSound, State, Run, RunPhase, RunState, Cell, Instance, Phase, TaskResult, TaskValue, is_failed}
use Rattle.bf_core.specs.Recursion.{fails_run, any_below, run_state_of}
use Rattle.bf_core.specs.Events.{no_run, row_of, value_in, phase_in, cell_in, entry_in, HasEnded, results, cons_result}
use Rattle.bf_core.specs.inner.Events.{is_closed, value_or_blocked}
use Rattle.bf_core.specs.Agreement.{IsOutcome, AreRunStates}
use Rattle.bf_core.specs.inner.Checks.{AreStatesOf, row_value}
use Rattle.bf_core.proofs.Outcomes.{outcome_fails}
use Rattle.bf_core.proofs.Placing.{any_default}
use Rattle.bf_core.specs.inner.Words.{is_failed_phase, is_failed_instance, instances_fail}
use Rattle.bf_core.proofs.Sums.{some_results}
use Rattle.bf_core.proofs.Numbers.{below_or}

failed_cons : (a : ℕ) (p : Phase) (o : Option (List TaskResult)) (b : Bool) → ((rs : List TaskResult) → o ≡ Some rs → list_any (λ r. is_failed r.outcome) rs ≡ b) →
    (rs : List TaskResult) → cons_result a p o ≡ Some rs → list_any (λ r. is_failed r.outcome) rs ≡ (is_failed_phase p || b)
failed_cons a (Phase.Finished o) (Some ts) b h [] e = cc
failed_cons a (Phase.Finished o) (Some ts) b h (r ∷ rs) e =
    let out : r.outcome ≡ o = cc in
    let same : ts ≡ rs = cc in
    ap₂ (λ x y. is_failed x || y) out (h rs (ap Some same))
failed_cons a (Phase.Finished o) None b h rs e = cc
failed_cons a Phase.Waiting o b h rs e = cc
failed_cons a Phase.Running o b h rs e = cc

failed_results : (xs : List Instance) (rs : List TaskResult) → results xs ≡ Some rs → list_any (λ r. is_failed r.outcome) rs ≡ list_any is_failed_instance xs
failed_results [] [] e = refl
failed_results [] (r ∷ rs) e = cc
failed_results (x ∷ xs) rs e = failed_cons x.attempt x.phase (results xs) _ (failed_results xs) rs e

both_ways : (a b : Bool) → (a && b) ≡ (b && a)
both_ways true true = refl
both_ways true false = refl
both_ways false true = refl
both_ways false false = refl

fails_of : (leaf : Bool) (o : Option (List TaskResult)) (f b : Bool) → is_some o ≡ f → ((rs : List TaskResult) → o ≡ Some rs → list_any (λ r. is_failed r.outcome) rs ≡ b) →
    (not f || (b && leaf)) ≡ fails_run leaf (value_or_blocked (option_map TaskValue.Ran o))
fails_of leaf None f b e h = rw (← e)
fails_of leaf (Some rs) f b e h = rw (← e, h rs refl) (both_ways b leaf)

pub ran_fails : (leaf : Bool) (xs : List Instance) → instances_fail leaf xs ≡ fails_run leaf (value_or_blocked (option_map TaskValue.Ran (results xs)))
ran_fails leaf xs = fails_of leaf (results xs) _ _ (some_results xs) (failed_results xs)

-- ---- some task, or none

pub any_at : (n t : ℕ) (p : ℕ → Bool) → t < n → p t ≡ true → any_below n p ≡ true
any_at zero t p l e = absurd (omega (arith, l))
any_at (suc n) t p l e = elim (below_or t n (omega (arith, l))) [ inl less ↦ or_true (p n) (any_at n t p less e) | inr same ↦ ap (λ b. b || any_below n p) (ap p (sym same) ∙ e) ]
  where
    or_true : (b : Bool) {c : Bool} → c ≡ true → (b || c) ≡ true
    or_true true h = refl
    or_true false h = h

-- ---- every run is closed

is_closed_is : (p : RunPhase) → is_closed p ≡ true → p ≡ RunPhase.Closed
is_closed_is RunPhase.Closed e = refl
is_closed_is RunPhase.Open e = cc
is_closed_is RunPhase.Unopened e = cc

closed_from : (rs : List Run) → list_all (λ r. is_closed r.phase) rs ≡ true → (k : ℕ) → k < length rs → (slice_index_or rs k no_run).phase ≡ RunPhase.Closed
closed_from [] e k l = absurd (omega (arith, l))
closed_from (r ∷ rs) e zero l = is_closed_is r.phase (and_parts (is_closed r.phase) _ e).0
closed_from (r ∷ rs) e (suc k) l = closed_from rs (and_parts (is_closed r.phase) _ e).1 k (omega arith)

closed_back : (rs : List Run) → ((k : ℕ) → k < length rs → (slice_index_or rs k no_run).phase ≡ RunPhase.Closed) → list_all (λ r. is_closed r.phase) rs ≡ true
closed_back [] h = refl
closed_back (r ∷ rs) h = rw (h 0 (omega arith), closed_back rs (λ k l. h (suc k) (omega arith)))

pub ended_from : (s : State) → list_all (λ r. is_closed r.phase) s.runs ≡ true → HasEnded s
unfolding phase_in
ended_from s e = closed_from s.runs e

pub ended_back : (s : State) → HasEnded s → list_all (λ r. is_closed r.phase) s.runs ≡ true
unfolding phase_in
ended_back s h = closed_back s.runs h

-- ---- the states of the runs

-- the states by the rows are the recursion's
pub states_are : (dag : Dag) → IsSound dag → (runs : ℕ) (s : State) (states : List RunState) → length s.runs ≡ runs → IsOutcome dag runs s → AreStatesOf dag s.runs states → AreRunStates dag (entry_in s.ledger) runs states
unfolding cell_in
states_are dag sound runs s states count is are = (are.0 ∙ count, λ k l. are.1 k (rw count l) ∙ ap (λ b. Some (if b then RunState.Failed else RunState.Success)) (outcome_fails dag sound runs s is k l))

set_here : {A : Type 0} (xs : List A) (i : ℕ) (v : A) → i < length xs → slice_get (slice_set xs i v) i ≡ Some v
set_here [] i v l = absurd (omega (arith, l))
set_here (x ∷ xs) zero v l = refl
set_here (x ∷ xs) (suc i) v l = set_here xs i v (omega arith)

set_there : {A : Type 0} (xs : List A) (i : ℕ) (v : A) (k : ℕ) → k < i → slice_get (slice_set xs i v) k ≡ slice_get xs k
set_there [] i v k l = refl
set_there (x ∷ xs) zero v k l = absurd (omega (arith, l))
set_there (x ∷ xs) (suc i) v zero l = refl
set_there (x ∷ xs) (suc i) v (suc k) l = set_there xs i v k (omega arith)

-- one more place is written
pub written_more : (states : List RunState) (i : ℕ) (v : RunState) (f : ℕ → RunState) → i < length states → ((k : ℕ) → k < i → slice_get states k ≡ Some (f k)) → v ≡ f i →
    (k : ℕ) → k < i + 1 → slice_get (slice_set states i v) k ≡ Some (f k)
written_more states i v f there before is k l =
    elim (below_or k i (omega arith)) [
      | inl less ↦ set_there states i v k less ∙ before k less
      | inr same ↦ ap (λ n. slice_get (slice_set states i v) n) same ∙ set_here states i v there ∙ ap Some is ∙ ap (λ n. Some (f n)) (sym same)
    ]

-- the state of a row is that of its place
pub row_state : (dag : Dag) (runs : List Run) (k : ℕ) (row : Run) (cells : List Cell) (v : RunState) → k < length runs → row ≡ slice_index_or runs k row → cells ≡ row.cells →
    v ≡ run_state_of dag (λ t. value_or_blocked (value_in (slice_index_or cells t Cell.Undecided))) → v ≡ run_state_of dag (row_value runs k)
row_state dag runs k row cells v l is same e =
    let at : row ≡ row_of runs k = is ∙ any_default runs k row no_run l in
    e ∙ ap (λ cs. run_state_of dag (λ t. value_or_blocked (value_in (slice_index_or cs t Cell.Undecided)))) (same ∙ ap (λ (r : Run). r.cells) at)
