-- What the command `dry` reports: a run for each data interval of a range, over a table.
use Rattle.std.specs.Prelude.{◌≡◌, ℕ, Bool, false, List, Option, Ok, Err}
use Rattle.bf_read.specs.declared.draft.Draft.{Draft}
use Rattle.bf_check.specs.Checking.{dag_of}
use Rattle.bf_interval.specs.declared.interval.Interval.{Interval}
use Rattle.bf_table.specs.declared.table.TableEntry.{TableEntry}
use Rattle.bf_table.specs.Tables.{table_in}
use Rattle.bf_command_fault.specs.declared.fault.CommandFault.{CommandFault}
use Rattle.bf_command_fault.specs.declared.fault.CommandFault.TheVariants.{Table, Range, CannotWrite, Stopped}
use Rattle.bf_command_fault.specs.declared.stop.StopFault.{StopFault}
use Rattle.bf_planning.specs.declared.range.RunRange.{RunRange}
use Rattle.bf_planning.specs.Graphs.{IsGraph, IsFaultIn}
use Rattle.bf_planning.specs.Lists.{HasListing}
use Rattle.bf_commands.specs.OverTable.{TableReport}
use Rattle.bf_planning.specs.Tables.{IsTable}

-- the bytes say a graph, which has no fault, and a table, and the text is the report of the graph's runs in the range over that
pub record IsDryReport (graph : List ℕ) (file : Option (List ℕ)) (table : List ℕ) (range : RunRange)
    (text : List ℕ) (success : Bool) : Type 0 where
  pub draft : Draft
  pub entries : List TableEntry
  pub found : List Interval
  pub graph_is : IsGraph graph file draft
  pub table_says : table_in table ≡ Ok entries
  pub listing : HasListing graph file range (Ok found)
  pub reported : TableReport (dag_of draft) entries found text success

-- the fault is the first: those of the graph go before those of the table, and those of the range behind them; then, where workers are
-- started, one can't be; or memory or the device is wanting
abbrev pub DryFault : Bool → List ℕ → Option (List ℕ) → List ℕ → RunRange → CommandFault → Type 0
DryFault alone graph file table range (Table fault) =
    (draft : Draft) × IsGraph graph file draft × (table_in table ≡ Err fault)
DryFault alone graph file table range (Range fault) =
    IsTable table × HasListing graph file range (Err fault)
DryFault alone graph file table range (CannotWrite n) = Unit {0}
DryFault alone graph file table range (Stopped stop) =
    (found : List Interval) × IsTable table × HasListing graph file range (Ok found)
    × (stop ≡ StopFault.CannotStart) × (alone ≡ false)
DryFault alone graph file table range fault = IsFaultIn graph file fault
