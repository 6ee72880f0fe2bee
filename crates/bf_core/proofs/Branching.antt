-- What is known of a branch by its instances.
use Rattle.std.proofs.Common.{◌≡◌, ℕ, Bool, true, false, not, ◌&&◌, if◌then◌else◌, List, [], ◌∷◌, Option, None, Some, is_some, option_map, refl, sym, ap, ap₂, ◌∙◌}
use Rattle.std.specs.List.{list_all, list_any}
use Rattle.bf_core.specs.Terms.{Dag, Instance, Outcome, Phase, Task, TaskResult, TaskValue, Verdict, is_branch_in, task_of, verdict}
use Rattle.bf_core.specs.Deciding.{Seen, branch_is, branch_skips, counts_over, is_blocked_in, lets_decide_in, upstream_verdict_of}
use Rattle.bf_core.specs.Events.{results, cons_result}
use Rattle.bf_core.specs.inner.Words.{is_finished, instances_skip_in, known_to_be, phase_skips_in}
use Rattle.bf_core.proofs.Sums.{some_results}

and_false : (b : Bool) → (b && false) ≡ false
and_false true = refl
and_false false = refl

-- a fact about a branch, once its value is known
pub known_branch : (dag : Dag) (p : TaskValue → Bool) (u : ℕ) (o : Option TaskValue) → (is_branch_in (task_of dag u) && known_to_be p o) ≡ branch_is dag p u o
known_branch dag p u None = and_false (is_branch_in (task_of dag u))
known_branch dag p u (Some v) = refl

pub ran_not_blocked : (o : Option (List TaskResult)) → false ≡ known_to_be is_blocked_in (option_map TaskValue.Ran o)
ran_not_blocked None = refl
ran_not_blocked (Some rs) = refl

first_skips : (dag : Dag) (t u a : ℕ) (p : Phase) (o : Option (List TaskResult)) (f : Bool) → is_some o ≡ f →
    ((is_finished p && f) && phase_skips_in dag t u p) ≡ known_to_be (branch_skips dag t u) (option_map TaskValue.Ran (cons_result a p o))
first_skips dag t u a (Phase.Finished (Outcome.Success v)) (Some rs) f e = ap (λ b. b && phase_skips_in dag t u (Phase.Finished (Outcome.Success v))) (sym e)
first_skips dag t u a (Phase.Finished Outcome.Failed) (Some rs) f e = and_false f
first_skips dag t u a (Phase.Finished Outcome.Skipped) (Some rs) f e = and_false f
first_skips dag t u a (Phase.Finished o) None f e = ap (λ b. b && phase_skips_in dag t u (Phase.Finished o)) (sym e)
first_skips dag t u a Phase.Waiting o f e = refl
first_skips dag t u a Phase.Running o f e = refl

-- a branch skips by its instances as by their value
pub ran_skips : (dag : Dag) (t u : ℕ) (xs : List Instance) → instances_skip_in dag t u xs ≡ known_to_be (branch_skips dag t u) (option_map TaskValue.Ran (results xs))
ran_skips dag t u [] = refl
ran_skips dag t u (x ∷ xs) = first_skips dag t u x.attempt x.phase (results xs) _ (some_results xs)

-- ---- the ruling

-- what the code asks of the upstreams `us` of the task
module _ (dag : Dag) (seen : ℕ → Seen) (t : ℕ) (d : Dag) (same : d ≡ dag) (task : Task) (is : task ≡ task_of d t) (us : List ℕ) (of : us ≡ task.upstreams) where
  abbrev All : Bool
  All = list_all (lets_decide_in d task seen) us

  abbrev Skips : Bool
  Skips = list_any (λ u. branch_is dag (branch_skips dag t u) u (seen u).value) us

  abbrev Blocks : Bool
  Blocks = list_any (λ u. branch_is d is_blocked_in u (seen u).value) us

  abbrev Rules : Verdict
  Rules = verdict task.rule (counts_over seen us)

  abbrev chosen : Bool → Bool → Bool → Verdict
  chosen all skips blocks = if not all then Verdict.Wait else (if skips then Verdict.Skip else (if blocks then Verdict.Blocked else Rules))

  ruling_is : chosen All Skips Blocks ≡ upstream_verdict_of dag seen t
  unfolding upstream_verdict_of
  ruling_is = ap (λ us. body d task us) of ∙ ap (λ task. body d task task.upstreams) is ∙ ap (λ d. body d (task_of d t) (task_of d t).upstreams) same
    where
      body : Dag → Task → List ℕ → Verdict
      body d task us =
          if not (list_all (lets_decide_in d task seen) us) then Verdict.Wait
          else (if list_any (λ u. branch_is dag (branch_skips dag t u) u (seen u).value) us then Verdict.Skip
          else (if list_any (λ u. branch_is d is_blocked_in u (seen u).value) us then Verdict.Blocked
          else verdict task.rule (counts_over seen us)))

  pub ruling_waits : false ≡ All → Verdict.Wait ≡ upstream_verdict_of dag seen t
  ruling_waits p = ap (λ all. chosen all Skips Blocks) p ∙ ruling_is

  pub ruling_skips : true ≡ All → true ≡ Skips → Verdict.Skip ≡ upstream_verdict_of dag seen t
  ruling_skips p q = ap₂ (λ all skips. chosen all skips Blocks) p q ∙ ruling_is

  pub ruling_blocks : true ≡ All → false ≡ Skips → true ≡ Blocks → Verdict.Blocked ≡ upstream_verdict_of dag seen t
  ruling_blocks p q r = ap₂ (λ skips blocks. chosen true skips blocks) q r ∙ ap (λ all. chosen all Skips Blocks) p ∙ ruling_is

  pub ruling_rules : true ≡ All → false ≡ Skips → false ≡ Blocks → Rules ≡ upstream_verdict_of dag seen t
  ruling_rules p q r = ap₂ (λ skips blocks. chosen true skips blocks) q r ∙ ap (λ all. chosen all Skips Blocks) p ∙ ruling_is
