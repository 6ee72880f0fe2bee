-- The walk, depth first, to each place once.
use Rattle.std.specs.Prelude.{◌≡◌, ℕ, Bool, true, false, List, [], ◌∷◌, ◌++◌, Contains, None, length, replicate, slice_index_or, slice_set}
use Rattle.bf_core.specs.Terms.{Dag}
use Rattle.bf_report.specs.declared.report.Report.{Report}
use Rattle.bf_roots.specs.declared.step.Root.{Root}
use Rattle.bf_roots.specs.declared.step.WalkStep.{WalkStep}
use Rattle.bf_roots.specs.Onward.{onward, roots_at}

-- for each run a mark for each task, where the walk has been; there is no way to a place that isn't there
abbrev pub is_seen_in : List (List Bool) → ℕ → ℕ → Bool
is_seen_in seen run task = slice_index_or (slice_index_or seen run []) task true

abbrev pub with_seen : List (List Bool) → ℕ → ℕ → List (List Bool)
with_seen seen run task = slice_set seen run (slice_set (slice_index_or seen run []) task true)

-- from these steps, in their order, these roots are found: a place where it has been is passed over; else its root is found, where one
-- is there, and the steps onward from it come before the others
pub data Walk (dag : Dag) (report : Report) : List (List Bool) → List WalkStep → List Root
    → Type 0 where
  Ends : {seen : List (List Bool)} → Walk dag report seen [] []
  Passes : {seen : List (List Bool)} {step : WalkStep} {left : List WalkStep} {found : List Root} →
      is_seen_in seen step.run step.task ≡ true → Walk dag report seen left found
      → Walk dag report seen (step ∷ left) found
  Looks : {seen : List (List Bool)} {step : WalkStep} {left : List WalkStep} {found : List Root} →
      is_seen_in seen step.run step.task ≡ false
      → Walk dag report (with_seen seen step.run step.task) (onward dag report step
      ++ left) found →
      Walk dag report seen (step ∷ left) (roots_at report step ++ found)

abbrev pub nothing_seen : ℕ → ℕ → List (List Bool)
nothing_seen runs tasks = replicate runs (replicate tasks false)

abbrev pub first_step_of : ℕ → ℕ → WalkStep
first_step_of run task = record { run = run; task = task; began = None }

-- the roots of the task in the run
abbrev pub AreRootsOf : Dag → Report → ℕ → ℕ → List Root → Type 0
AreRootsOf dag report run task roots =
    Walk dag report (nothing_seen (length report.runs) (length dag.tasks)) (first_step_of run task
    ∷ []) roots

-- ---- where it comes to

-- the step leads on from the task in the run
pub data IsComeTo (dag : Dag) (report : Report) (run task : ℕ) : WalkStep → Type 0 where
  First : IsComeTo dag report run task (first_step_of run task)
  Onward : {from to : WalkStep} → IsComeTo dag report run task from
      → Contains (onward dag report from) to → IsComeTo dag report run task to

-- the root is what began at a place that is come to
abbrev pub IsRootOf : Dag → Report → ℕ → ℕ → Root → Type 0
IsRootOf dag report run task root =
    (step : WalkStep) × IsComeTo dag report run task step × Contains (roots_at report step) root
