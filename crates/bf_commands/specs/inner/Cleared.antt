-- What the command `clear` reports: a backfill that goes on from what is kept of a report.
use Rattle.std.specs.Prelude.{◌≡◌, ℕ, Bool, List, Option, Some, None}
use Rattle.bf_plan.specs.declared.plan.Dag.{Dag}
use Rattle.bf_interval.specs.declared.interval.Interval.{Interval}
use Rattle.bf_table.specs.declared.table.TableEntry.{TableEntry}
use Rattle.bf_try.specs.Tries.{Ledger}
use Rattle.bf_process.specs.Words.{LaunchingOf}
use Rattle.bf_kept.specs.Kept.{MayGiveUpAnew}
use Rattle.bf_command_fault.specs.declared.fault.CommandFault.{CommandFault}
use Rattle.bf_commands.specs.inner.OverTable.{IsWantingWorkers}
use Rattle.bf_planning.specs.Tables.{IsTableFault}
use Rattle.bf_commands.specs.Programs.{Losing, MayGiveUpLaunched}
use Rattle.bf_commands.specs.inner.Programs.{IsStopOfOrWanting}

-- the backfill with programs that goes on from what is kept stops, at no try that is kept; or memory or the device is wanting
abbrev pub IsStopOrWantingAnew : Ledger → LaunchingOf → Losing → Dag → List Interval → CommandFault
    → Type 0
IsStopOrWantingAnew kept launching may_lose dag intervals fault =
    IsStopOfOrWanting (MayGiveUpAnew kept
    (MayGiveUpLaunched launching may_lose dag intervals)) launching.logs dag intervals fault

-- where a table answers and workers are started, one can't be; else it stops as one of programs does; or memory or the device is
-- wanting
abbrev pub IsStopOrWantingFrom : Bool → Ledger → LaunchingOf → Losing → Option (List TableEntry)
    → Dag → List Interval → CommandFault → Type 0
IsStopOrWantingFrom alone kept launching may_lose (Some entries) dag intervals fault =
    IsWantingWorkers alone fault
IsStopOrWantingFrom alone kept launching may_lose None dag intervals fault =
    IsStopOrWantingAnew kept launching may_lose dag intervals fault

-- the fault is that of the table's bytes, where there are some
abbrev pub IsFaultOfTable : Option (List ℕ) → CommandFault → Type 0
IsFaultOfTable table fault = (bytes : List ℕ) × (table ≡ Some bytes) × IsTableFault bytes fault
