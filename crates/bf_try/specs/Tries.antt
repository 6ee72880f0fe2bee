-- The ledger of tries, and the results of instances over it.
use Rattle.std.specs.Prelude.{◌≡◌, ℕ, suc, zero, ℤ, pos, negsuc, nat_abs, Bool, true, false, if◌then◌else◌, Option, None, Some, is_some}
use Rattle.bf_value.specs.declared.name.JobName.{JobName}
use Rattle.bf_plan.specs.declared.plan.Task.{Task}
use Rattle.bf_plan.specs.declared.plan.Dag.{Dag}
use Rattle.bf_plan.specs.Plans.{task_of}
use Rattle.bf_xcom.specs.declared.values.Outcome.{Outcome}
use Rattle.bf_xcom.specs.declared.values.Outcome.TheVariants.{Success, Failed, Skipped}
use Rattle.bf_xcom.specs.declared.values.TaskResult.{TaskResult}
use Rattle.bf_try.specs.declared.ledger.Entry.{Entry}

-- a ledger of tries, by its look-up
abbrev pub Ledger : Type 0
Ledger = JobName → Option Entry

-- the index of an instance: -1 for an unmapped task
abbrev pub map_index : Task → ℕ → ℤ
map_index task place = if is_some task.expand then pos place else negsuc 0

-- the place of the instance with that index
abbrev pub place_of : Task → ℤ → ℕ
place_of task index = if is_some task.expand then nat_abs index else 0

-- the name of a try of the instance in a place of the task, in the run
unfoldable pub name_of : Dag → ℕ → ℕ → ℕ → ℕ → JobName
name_of dag run task place attempt =
    record { run = run; task = task; index = map_index (task_of dag task) place; attempt = attempt }

abbrev pub is_failed : Outcome → Bool
is_failed Failed = true
is_failed (Success value) = false
is_failed Skipped = false

abbrev pub outcome_of : Option Entry → Outcome
outcome_of None = Failed
outcome_of (Some entry) = entry.outcome

abbrev pub outcome_at : Dag → Ledger → ℕ → ℕ → ℕ → ℕ → Outcome
outcome_at dag ledger run task place attempt =
    outcome_of (ledger (name_of dag run task place attempt))

-- from this attempt on, the first that isn't failed; the last of all, where none of the `left` before it is
abbrev pub last_try : (ℕ → Outcome) → ℕ → ℕ → ℕ
last_try outcome attempt zero = attempt
last_try outcome attempt (suc left) =
    if is_failed (outcome attempt) then last_try outcome (suc attempt) left else attempt

-- the result of an instance: the outcome of its last try, and that try's number
unfoldable pub result_of : Dag → Ledger → ℕ → ℕ → ℕ → TaskResult
result_of dag ledger run task place =
    let attempt = last_try (outcome_at dag ledger run task place) 1 (task_of dag task).retries in
    record { outcome = outcome_at dag ledger run task place attempt; tries = attempt }

-- ---- two ledgers

-- equal outcomes wherever name and Given are equal
abbrev pub AreAlike : Ledger → Ledger → Type 0
AreAlike one two =
    (name : JobName) (entry same : Entry) → one name ≡ Some entry → two name ≡ Some same
    → entry.given ≡ same.given → entry.outcome ≡ same.outcome
