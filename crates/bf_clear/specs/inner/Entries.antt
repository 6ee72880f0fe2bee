-- A report that tells only of tasks and runs that are there.
use Rattle.std.specs.Prelude.{◌≡◌, ◌<◌, ℕ, ℤ, length, Some}
use Rattle.bf_plan.specs.declared.plan.Dag.{Dag}
use Rattle.bf_report.specs.declared.report.InstanceReport.{InstanceReport}
use Rattle.bf_report.specs.declared.report.Report.{Report}
use Rattle.bf_clear.specs.Entries.{found_at}

-- ---- tries

-- what stands in the report is of tasks and runs that are there
abbrev pub IsWithin : Dag → ℕ → Report → Type 0
IsWithin dag runs report =
    (run task : ℕ) (index : ℤ) (instance : InstanceReport) → found_at report run task index
    ≡ Some instance → (run < runs) × (task < length dag.tasks)
