-- Counts of instances, one after another, and what is seen of instances that ran.
use Rattle.std.proofs.Common.{◌≡◌, ℕ, ◌+◌, ◌≤◌, ◌==◌, Bool, true, false, not, ◌&&◌, ◌||◌, true≢false, if◌then◌else◌, inl, inr, List, [], ◌∷◌, length, Option, None, Some, is_some, option_map, refl, sym, ap, ap₂, ◌∙◌, arith}
use Rattle.std.specs.List.{list_all}
use Rattle.std.proofs.lemmas.Bool.{cases_Bool, eqb-true, eq-eqb, false_from_ne_true}
use Rattle.bf_rule.specs.Verdicts.{total_of}
use Rattle.bf_try.specs.Grades.{most_items}
use Rattle.bf_core.specs.Few.{IsFew}
use Rattle.bf_core.specs.Terms.{Counts, Dag, Task, add, Cell, Instance, Phase, Outcome, TaskValue, TaskResult, Verdict, is_failed, is_waiting}
use Rattle.bf_core.specs.Deciding.{past_verdict_of, all_passed, counts_over, lets_decide_in}
use Rattle.bf_core.specs.Events.{counts_of_cell, counts_of_instance, counts_of_instances, results, cons_result, seen_in, value_in}
use Rattle.bf_core.specs.inner.Words.{is_finished, passed, ran_ruling}

pub total_add : (a b : Counts) → total_of (add a b) ≡ total_of a + total_of b
total_add a b = omega arith

pub total_instance : (p : Phase) → total_of (counts_of_instance p) ≡ 1
total_instance (Phase.Finished (Outcome.Success v)) = refl
total_instance (Phase.Finished Outcome.Failed) = refl
total_instance (Phase.Finished Outcome.Skipped) = refl
total_instance Phase.Waiting = refl
total_instance Phase.Running = refl

pub total_instances : (xs : List Instance) → total_of (counts_of_instances xs) ≡ length xs
total_instances [] = refl
total_instances (x ∷ xs) = omega (arith, total_add (counts_of_instance x.phase) (counts_of_instances xs), total_instance x.phase, total_instances xs)

-- ---- settled, passed

some_cons : (a : ℕ) (p : Phase) (o : Option (List TaskResult)) → is_some (cons_result a p o) ≡ (is_finished p && is_some o)
some_cons a (Phase.Finished o) (Some rs) = refl
some_cons a (Phase.Finished o) None = refl
some_cons a Phase.Waiting o = refl
some_cons a Phase.Running o = refl

pub some_results : (xs : List Instance) → is_some (results xs) ≡ list_all (λ x. is_finished x.phase) xs
some_results [] = refl
some_results (x ∷ xs) = some_cons x.attempt x.phase (results xs) ∙ ap (λ b. is_finished x.phase && b) (some_results xs)

some_map : (o : Option (List TaskResult)) → is_some (option_map TaskValue.Ran o) ≡ is_some o
some_map None = refl
some_map (Some rs) = refl

pub finished_settled : (xs : List Instance) → list_all (λ x. is_finished x.phase) xs ≡ is_some (option_map TaskValue.Ran (results xs))
finished_settled xs = sym (some_map (results xs) ∙ some_results xs)

passed_cons : (a : ℕ) (p : Phase) (o : Option (List TaskResult)) (b : Bool) → ((rs : List TaskResult) → o ≡ Some rs → all_passed rs ≡ b) →
    (rs : List TaskResult) → cons_result a p o ≡ Some rs → all_passed rs ≡ (passed p && b)
passed_cons a (Phase.Finished o) (Some ts) b h [] e = cc
passed_cons a (Phase.Finished o) (Some ts) b h (r ∷ rs) e =
    let out : r.outcome ≡ o = cc in
    let same : ts ≡ rs = cc in
    ap₂ (λ x y. not (is_failed x) && y) out (h rs (ap Some same))
passed_cons a (Phase.Finished o) None b h rs e = cc
passed_cons a Phase.Waiting o b h rs e = cc
passed_cons a Phase.Running o b h rs e = cc

passed_results : (xs : List Instance) (rs : List TaskResult) → results xs ≡ Some rs → all_passed rs ≡ list_all (λ x. passed x.phase) xs
passed_results [] [] e = refl
passed_results [] (r ∷ rs) e = cc
passed_results (x ∷ xs) rs e = passed_cons x.attempt x.phase (results xs) _ (passed_results xs) rs e

past_of : (o : Option (List TaskResult)) (f p : Bool) → is_some o ≡ f → ((rs : List TaskResult) → o ≡ Some rs → all_passed rs ≡ p) →
    past_verdict_of (option_map TaskValue.Ran o) ≡ (if not f then Verdict.Wait else (if p then Verdict.Run else Verdict.Blocked))
past_of None f p e h = rw (← e)
past_of (Some rs) f p e h = rw (← e, h rs refl)

pub past_ran : (xs : List Instance) → ran_ruling xs ≡ past_verdict_of (option_map TaskValue.Ran (results xs))
past_ran xs = sym (past_of (results xs) _ _ (some_results xs) (passed_results xs))

-- few instances are counted of a cell that has few
pub few_total : (c : Cell) → IsFew c → total_of (counts_of_cell c) ≤ most_items
few_total Cell.Undecided few = omega arith
few_total Cell.Blocked few = omega arith
few_total Cell.Skipped few = omega arith
few_total Cell.UpstreamFailed few = omega arith
few_total (Cell.Ran xs) few = omega (arith, total_instances xs, few)

-- ---- settled, where none is unfinished

sum_is_none : (a b : ℕ) → (a + b == 0) ≡ ((a == 0) && (b == 0))
sum_is_none a b = elim (cases_Bool (a == 0)) as (λ _. (a + b == 0) ≡ ((a == 0) && (b == 0))) [
  | inl none ↦ let same : a + b ≡ b = omega (arith, eqb-true a 0 none) in rw none (ap (λ n. n == 0) same)
  | inr some ↦ rw some (false_from_ne_true (a + b == 0) (λ both. let none : a ≡ 0 = omega (arith, eqb-true (a + b) 0 both) in true≢false (sym (eq-eqb a 0 none) ∙ some)))
]

none_unfinished : (p : Phase) → ((counts_of_instance p).unfinished == 0) ≡ is_finished p
none_unfinished (Phase.Finished (Outcome.Success v)) = refl
none_unfinished (Phase.Finished Outcome.Failed) = refl
none_unfinished (Phase.Finished Outcome.Skipped) = refl
none_unfinished Phase.Waiting = refl
none_unfinished Phase.Running = refl

none_unfinished_of : (xs : List Instance) → ((counts_of_instances xs).unfinished == 0) ≡ list_all (λ x. is_finished x.phase) xs
none_unfinished_of [] = refl
none_unfinished_of (x ∷ xs) =
    sum_is_none (counts_of_instance x.phase).unfinished (counts_of_instances xs).unfinished ∙ ap₂ (λ a b. a && b) (none_unfinished x.phase) (none_unfinished_of xs)

none_unfinished_in : (c : Cell) → ((counts_of_cell c).unfinished == 0) ≡ is_some (value_in c)
none_unfinished_in Cell.Undecided = refl
none_unfinished_in Cell.Blocked = refl
none_unfinished_in Cell.Skipped = refl
none_unfinished_in Cell.UpstreamFailed = refl
none_unfinished_in (Cell.Ran xs) = none_unfinished_of xs ∙ finished_settled xs

or_false : (b : Bool) → (b || false) ≡ b
or_false true = refl
or_false false = refl

module _ (dag : Dag) (task : Task) (cell : ℕ → Cell) where
  -- where the rule waits for all, they let it decide once none is unfinished
  pub let_decide_where_none_is_unfinished : is_waiting task.rule ≡ true → (us : List ℕ) →
      ((counts_over (λ u. seen_in (cell u)) us).unfinished == 0) ≡ list_all (lets_decide_in dag task (λ u. seen_in (cell u))) us
  let_decide_where_none_is_unfinished waits [] = refl
  let_decide_where_none_is_unfinished waits (u ∷ us) =
      let lets : ((counts_of_cell (cell u)).unfinished == 0) ≡ lets_decide_in dag task (λ u. seen_in (cell u)) u =
      rw waits (none_unfinished_in (cell u) ∙ sym (or_false (is_some (value_in (cell u))))) in
      sum_is_none (counts_of_cell (cell u)).unfinished (counts_over (λ u. seen_in (cell u)) us).unfinished
      ∙ ap₂ (λ a b. a && b) lets (let_decide_where_none_is_unfinished waits us)
