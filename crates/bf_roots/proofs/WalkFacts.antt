-- The walk, place by place.
use Rattle.std.proofs.Common.{◌≡◌, ◌≤◌, inl, inr, ℕ, zero, suc, Bool, true, false, List, [], ◌∷◌, ◌++◌, Contains, length, reverse, refl, ap, sym, ◌∙◌, subst, append_assoc, append-nil, arith}
use Rattle.std.specs.Prelude.{All, slice_get}
use Rattle.std.specs.List.{AllByRecursion}
use Rattle.std.proofs.lemmas.List.{reverse-append, reverse-reverse}
use Rattle.std.proofs.lemmas.List.Elements.{Contains-append_cases, Contains-append_left, Contains-append_right, recursion_from_All}
use Rattle.bf_core.specs.Terms.{Dag}
use Rattle.bf_report.specs.declared.report.RunReport.{RunReport}
use Rattle.bf_report.specs.declared.report.Report.{Report}
use Rattle.bf_report.specs.declared.report.TaskReport.{TaskReport}
use Rattle.bf_reason.specs.Runs.{tasks_in, tasks_before, tasks_in_run}
use Rattle.bf_roots.specs.declared.step.Root.{Root}
use Rattle.bf_roots.specs.declared.step.WalkStep.{WalkStep}
use Rattle.bf_roots.specs.Onward.{onward, onward_among, roots_among, roots_at}
use Rattle.bf_roots.specs.Walks.{AreRootsOf, First, IsComeTo, IsRootOf, Onward, Walk, Ends, Looks, Passes, first_step_of, is_seen_in, nothing_seen, with_seen}

-- steps that are put on the pile in turn come off it in order
pub piled : (left more : List WalkStep) → reverse (left ++ reverse more) ≡ more ++ reverse left
piled left more = reverse-append left (reverse more) ∙ ap (λ xs. xs ++ reverse left) (reverse-reverse more)

pub popped : (left : List WalkStep) (step : WalkStep) → reverse (left ++ step ∷ []) ≡ step ∷ reverse left
popped left step = reverse-append left (step ∷ [])

-- ---- the walk while it is gone

module _ (dag : Dag) (report : Report) (run task : ℕ) where
  -- what is still to be found makes all of it
  pub begun : (seen : List (List Bool)) (left : List WalkStep) (found : List Root) → seen ≡ nothing_seen (length report.runs) (length dag.tasks) → left ≡ first_step_of run task ∷ [] → found ≡ []
      → (rest : List Root) → Walk dag report seen (reverse left) rest → AreRootsOf dag report run task (found ++ rest)
  begun seen left found seen_is left_is found_is rest walk =
      subst (λ (f : List Root). AreRootsOf dag report run task (f ++ rest)) (sym found_is)
      (subst (λ (s : List (List Bool)). Walk dag report s (first_step_of run task ∷ []) rest) seen_is
      (subst (λ (l : List WalkStep). Walk dag report seen (reverse l) rest) left_is walk))

  pub passed : (seen : List (List Bool)) (old new : List WalkStep) (found : List Root) (step : WalkStep) → old ≡ new ++ step ∷ [] → is_seen_in seen step.run step.task ≡ true →
      ((rest : List Root) → Walk dag report seen (reverse old) rest → AreRootsOf dag report run task (found ++ rest)) →
      (rest : List Root) → Walk dag report seen (reverse new) rest → AreRootsOf dag report run task (found ++ rest)
  passed seen old new found step is there goes rest walk =
      goes rest (subst (λ (l : List WalkStep). Walk dag report seen l rest) (sym (ap reverse is ∙ popped new step)) (Passes there walk))

  pub looked : (seen seen_new : List (List Bool)) (old popped_left new : List WalkStep) (found found_new : List Root) (step : WalkStep) (tasks before : List TaskReport) →
      old ≡ popped_left ++ step ∷ [] → is_seen_in seen step.run step.task ≡ false →
      tasks ≡ tasks_in report step.run → before ≡ tasks_before report step.run →
      seen_new ≡ with_seen seen step.run step.task → reverse new ≡ onward_among dag tasks before step ++ reverse popped_left → found_new ≡ found ++ roots_among tasks step →
      ((rest : List Root) → Walk dag report seen (reverse old) rest → AreRootsOf dag report run task (found ++ rest)) →
      (rest : List Root) → Walk dag report seen_new (reverse new) rest → AreRootsOf dag report run task (found_new ++ rest)
  looked seen seen_new old popped_left new found found_new step tasks before is unseen tasks_are before_are seen_is left_is found_is goes rest walk =
      let onward_is : onward_among dag tasks before step ≡ onward dag report step =
      ap (λ (t : List TaskReport). onward_among dag t before step) tasks_are ∙ ap (λ (b : List TaskReport). onward_among dag (tasks_in report step.run) b step) before_are in
      let roots_are : roots_among tasks step ≡ roots_at report step = ap (λ (t : List TaskReport). roots_among t step) tasks_are in
      let behind : Walk dag report (with_seen seen step.run step.task) (onward dag report step ++ reverse popped_left) rest =
      subst (λ (s : List (List Bool)). Walk dag report s (onward dag report step ++ reverse popped_left) rest) seen_is
      (subst (λ (l : List WalkStep). Walk dag report seen_new l rest) (left_is ∙ ap (λ (steps : List WalkStep). steps ++ reverse popped_left) onward_is) walk) in
      let all = goes (roots_at report step ++ rest)
      (subst (λ (l : List WalkStep). Walk dag report seen l (roots_at report step ++ rest)) (sym (ap reverse is ∙ popped popped_left step)) (Looks unseen behind)) in
      subst (λ (f : List Root). AreRootsOf dag report run task f)
      (sym (append_assoc found (roots_at report step) rest) ∙ ap (λ (f : List Root). f ++ rest) (sym (found_is ∙ ap (λ (roots : List Root). found ++ roots) roots_are))) all

  pub ended : (seen : List (List Bool)) (left : List WalkStep) (found : List Root) → left ≡ [] →
      ((rest : List Root) → Walk dag report seen (reverse left) rest → AreRootsOf dag report run task (found ++ rest)) → AreRootsOf dag report run task found
  ended seen left found none goes =
      subst (λ (f : List Root). AreRootsOf dag report run task f) (append-nil found)
      (goes [] (subst (λ (l : List WalkStep). Walk dag report seen (reverse l) []) (sym none) Ends))

-- ---- the tasks of a run

few_of : (n : ℕ) (runs : List RunReport) (run : ℕ) → AllByRecursion (λ r. length r.tasks ≡ n) runs → length (tasks_in_run (slice_get runs run)) ≤ n
few_of n [] run each = omega arith
few_of n (first ∷ rest) zero each = omega (arith, each.0)
few_of n (first ∷ rest) (suc run) each = few_of n rest run each.1

pub few_at : (n : ℕ) (report : Report) (run : ℕ) → All (λ r. length r.tasks ≡ n) report.runs → length (tasks_in report run) ≤ n
few_at n report run each = few_of n report.runs run (recursion_from_All (λ r. length r.tasks ≡ n) report.runs each)

-- ---- what is come to

module _ (dag : Dag) (report : Report) (run task : ℕ) where
  abbrev AllComeTo : List WalkStep → Type 0
  AllComeTo left = (step : WalkStep) → Contains left step → IsComeTo dag report run task step

  roots_found : {seen : _} {left : List WalkStep} {found : List Root} → Walk dag report seen left found → AllComeTo left →
      (root : Root) → Contains found root → IsRootOf dag report run task root
  roots_found Ends come root within = absurd (omega (arith, within.1))
  roots_found (Passes {step = step} {left = left} seen walk) come root within =
      roots_found walk (λ s there. come s (Contains-append_right (step ∷ []) left s there)) root within
  roots_found (Looks {step = step} {left = left} {found = found} unseen walk) come root within =
      let here : IsComeTo dag report run task step = come step (Contains-append_left (step ∷ []) left step (0, omega arith, refl)) in
      let onward_come : AllComeTo (onward dag report step ++ left) = λ s there. elim (Contains-append_cases (onward dag report step) left s there) [
        | inl next ↦ Onward here next
        | inr later ↦ come s (Contains-append_right (step ∷ []) left s later)
      ] in
      elim (Contains-append_cases (roots_at report step) found root within) [
        | inl found_here ↦ (step, here, found_here)
        | inr later ↦ roots_found walk onward_come root later
      ]

  only_first : AllComeTo (first_step_of run task ∷ [])
  only_first step there = subst (IsComeTo dag report run task) (is_first there) First
    where
      is_first : Contains (first_step_of run task ∷ []) step → first_step_of run task ≡ step
      is_first (zero, low, is) = is
      is_first (suc k, low, is) = absurd (omega (arith, low))

  pub roots_come_to : (roots : List Root) → AreRootsOf dag report run task roots → (root : Root) → Contains roots root → IsRootOf dag report run task root
  roots_come_to roots walk = roots_found walk only_first
