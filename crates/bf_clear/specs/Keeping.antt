-- What is kept of a report where instances are cleared.
use Rattle.std.specs.Prelude.{◌≡◌, ◌↔◌, ℕ, nat_lt, ◌&&◌, not, if◌then◌else◌, Bool, true, List, length, Option, Some, None}
use Rattle.bf_value.specs.declared.name.JobName.{JobName}
use Rattle.bf_plan.specs.declared.plan.Dag.{Dag}
use Rattle.bf_try.specs.declared.ledger.Entry.{Entry}
use Rattle.bf_try.specs.Grades.{fits_in}
use Rattle.bf_try.specs.Tries.{Ledger}
use Rattle.bf_report.specs.declared.report.Report.{Report}
use Rattle.bf_dependents.specs.declared.place.Place.{Place}
use Rattle.bf_dependents.specs.Dependents.{has_instance_in, Following, IsBeside}
use Rattle.bf_clear.specs.Entries.{told}

-- an entry is kept exactly where the report tells of it, it isn't cleared, and its outcome fits
abbrev pub AreKept : Dag → List Place → Report → Ledger → Type 0
AreKept dag seeds report kept =
    (name : JobName) (entry : Entry) → (kept name ≡ Some entry)
    ↔ ((told dag report name ≡ Some entry) × IsBeside dag seeds name
    × (fits_in dag name.task entry.outcome ≡ true))

-- ---- as it is looked up

-- what contracts see of a report where instances are cleared: the tasks, what is cleared, and the report
pub record Clearance : Type 0 where
  pub dag : Dag
  pub cleared : Following
  pub report : Report

abbrev pub fitting : Dag → ℕ → Option Entry → Option Entry
fitting dag task None = None
fitting dag task (Some entry) = if fits_in dag task entry.outcome then Some entry else None

abbrev pub kept_of : Bool → Dag → ℕ → Option Entry → Option Entry
kept_of beside dag task entry = if beside then fitting dag task entry else None

-- what is kept: the entries of the report but for what is cleared and what doesn't fit
abbrev pub kept_in : Clearance → Ledger
kept_in clearance name =
    kept_of (nat_lt name.task (length clearance.dag.tasks)
    && not (has_instance_in clearance.dag clearance.cleared name.run name.task name.index)) clearance.dag
    name.task (told clearance.dag clearance.report name)
