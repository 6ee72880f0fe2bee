-- The recursion's values are the one solution of its equation.
use Rattle.std.proofs.Common.{◌≡◌, ℕ, suc, zero, ◌<◌, Bool, true, false, Option, None, Some, refl, sym, ap, ◌∙◌, arith}
use Rattle.bf_core.specs.Terms.{Dag, Ledger, TaskValue, Verdict, IsSound, task_of}
use Rattle.bf_core.specs.Deciding.{Seen, settled, past_after, after_verdict, upstream_verdict_of, task_verdict_of, decision}
use Rattle.bf_core.specs.Recursion.{value_of, out, before, decided, SolvesRecursion}
use Rattle.bf_core.proofs.Depth.{decision_cong, pull_below, out_is}

-- nothing is asked of the past in the first run, whether or not the task depends on it
same_past : (depends : Bool) (past other : Option TaskValue) (verdict : Verdict) → past_after depends 0 past verdict ≡ past_after depends 0 other verdict
same_past true past other Verdict.Run = refl
same_past false past other Verdict.Run = refl
same_past depends past other _ = refl

pub first_same : (dag : Dag) (seen : ℕ → Seen) (past other : Option TaskValue) (task : ℕ) → decision dag 0 seen past task ≡ decision dag 0 seen other task
unfolding decision task_verdict_of
first_same dag seen past other task = ap (after_verdict dag seen task) (same_past (task_of dag task).depends_on_past past other (upstream_verdict_of dag seen task))

module _ (dag : Dag) (sound : IsSound dag) (ledger : Ledger) where
  -- the equation in one run, behind a past
  abbrev SolvesRun : ℕ → (ℕ → Option TaskValue) → (ℕ → TaskValue) → Type 0
  SolvesRun run past value = (task : ℕ) → value task ≡ value_of dag ledger run task (decision dag run (λ upstream. settled (value upstream)) (past task) task)

  -- its values are the same, by the ranks of tasks
  one_run : (run : ℕ) (past : ℕ → Option TaskValue) (one two : ℕ → TaskValue) → SolvesRun run past one → SolvesRun run past two →
      (depth task : ℕ) → sound.rank task < depth → one task ≡ two task
  one_run run past one two first second zero task l = absurd (omega (arith, l))
  one_run run past one two first second (suc depth) task l =
      first task
      ∙ (ap (value_of dag ledger run task)
      (decision_cong dag run (λ upstream. settled (one upstream)) (λ upstream. settled (two upstream)) (past task) task sound
      (λ u h. ap settled (one_run run past one two first second depth u (below u (sound.rises task u h) depth l)))
      (λ u h. ap settled (one_run run past one two first second depth u (below u (pull_below dag sound task u h) depth l))))
      ∙ sym (second task))
    where
      below : (u : ℕ) → sound.rank u < sound.rank task → (n : ℕ) → sound.rank task < suc n → sound.rank u < n
      below u x n y = omega arith

  out_first : (task : ℕ) → out dag ledger zero task ≡ value_of dag ledger zero task (decision dag zero (λ upstream. settled (out dag ledger zero upstream)) None task)
  unfolding decided
  out_first task =
      out_is dag sound ledger zero task
      ∙ ap (value_of dag ledger zero task) (first_same dag (λ upstream. settled (out dag ledger zero upstream)) (Some (before dag ledger zero task)) None task)

  out_later : (run task : ℕ) → out dag ledger (suc run) task
      ≡ value_of dag ledger (suc run) task (decision dag (suc run) (λ upstream. settled (out dag ledger (suc run) upstream)) (Some (out dag ledger run task)) task)
  unfolding decided before
  out_later run task = out_is dag sound ledger (suc run) task

  pub out_solves : SolvesRecursion dag ledger (out dag ledger)
  out_solves = record { first = out_first; later = out_later }

  pub one_solution : (value : ℕ → ℕ → TaskValue) → SolvesRecursion dag ledger value → (run task : ℕ) → value run task ≡ out dag ledger run task
  one_solution value solves zero task =
      one_run zero (λ t. None) (value zero) (out dag ledger zero) solves.first out_first (suc (sound.rank task)) task (omega arith)
  one_solution value solves (suc run) task =
      one_run (suc run) (λ t. Some (value run t)) (value (suc run)) (out dag ledger (suc run)) (solves.later run)
      (λ t. out_later run t
      ∙ ap (λ v. value_of dag ledger (suc run) t (decision dag (suc run) (λ upstream. settled (out dag ledger (suc run) upstream)) (Some v) t)) (sym (one_solution value solves run t)))
      (suc (sound.rank task)) task (omega arith)
