-- Which instances failed.
use Rattle.std.specs.Prelude.{◌≡◌, ℕ, ◌<◌, ℤ, pos, ◌<ℤ◌, List, length, Contains, Some}
use Rattle.bf_interval.specs.declared.interval.Interval.{Interval}
use Rattle.bf_plan.specs.declared.plan.Dag.{Dag}
use Rattle.bf_xcom.specs.declared.values.Outcome.{Outcome}
use Rattle.bf_report.specs.declared.report.InstanceReport.{InstanceReport}
use Rattle.bf_report.specs.declared.report.Report.{Report}
use Rattle.bf_dependents.specs.declared.place.Place.{Place}
use Rattle.bf_clear.specs.Entries.{found_at}

-- the report tells of the instance of that index, and it failed
abbrev pub HasFailed : Report → ℕ → ℕ → ℤ → Type 0
HasFailed report k t i =
    (x : InstanceReport) × (found_at report k t i ≡ Some x) × (x.result.outcome ≡ Outcome.Failed)

-- the place is of one instance, which failed
abbrev pub IsOfFailed : Report → Place → Type 0
IsOfFailed report p = (i : ℤ) × (p.index ≡ Some i) × HasFailed report p.run p.task i

-- the places of the instances that failed: of each, and of nothing else
pub record AreFailed (dag : Dag) (intervals : List Interval) (report : Report)
    (places : List Place) : Type 0 where
  pub each : (p : Place) → Contains places p → IsOfFailed report p
  pub all : (k t : ℕ) (i : ℤ) → k < length intervals → t < length dag.tasks → i <ℤ pos 2_147_483_648
      → HasFailed report k t i → Contains places (record { run = k; task = t; index = Some i })
