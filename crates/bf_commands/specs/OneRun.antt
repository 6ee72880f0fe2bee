-- What the command `single` reports: one run, at a moment, over a table.
use Rattle.std.specs.Prelude.{◌≡◌, ℕ, Bool, List, Option, Ok, Err}
use Rattle.jiff.specs.declared.timestamp.Timestamp.{Timestamp}
use Rattle.bf_read.specs.declared.draft.Draft.{Draft}
use Rattle.bf_check.specs.Checking.{dag_of}
use Rattle.bf_interval.specs.declared.fault.IntervalFault.{IntervalFault}
use Rattle.bf_interval.specs.Runs.{intervals_at}
use Rattle.bf_interval.specs.Years.{IsInYears}
use Rattle.bf_table.specs.declared.table.TableEntry.{TableEntry}
use Rattle.bf_table.specs.Tables.{table_in}
use Rattle.bf_command_fault.specs.declared.fault.CommandFault.{CommandFault}
use Rattle.bf_command_fault.specs.declared.fault.CommandFault.TheVariants.{Table, Range, CannotWrite}
use Rattle.bf_command_fault.specs.declared.range.RangeFault.TheVariants.{Unlisted}
use Rattle.bf_planning.specs.Graphs.{IsGraph, IsFaultIn}
use Rattle.bf_commands.specs.OverTable.{TableReport}
use Rattle.bf_planning.specs.Tables.{IsTable}

-- the bytes say a graph, which has no fault, and a table, and the text is the report of one run of this over that
pub record IsSingleReport (graph : List ℕ) (file : Option (List ℕ)) (table : List ℕ)
    (at : Timestamp) (text : List ℕ) (success : Bool) : Type 0 where
  pub draft : Draft
  pub entries : List TableEntry
  pub graph_is : IsGraph graph file draft
  pub table_says : table_in table ≡ Ok entries
  pub in_years : IsInYears at.nanosecond
  pub reported : TableReport (dag_of draft) entries (intervals_at at) text success

-- the fault is the first: those of the graph go before those of the table, and the moment comes last; or memory or the device is wanting
abbrev pub SingleFault : List ℕ → Option (List ℕ) → List ℕ → Timestamp → CommandFault → Type 0
SingleFault graph file table at (Table fault) =
    (draft : Draft) × IsGraph graph file draft × (table_in table ≡ Err fault)
SingleFault graph file table at (Range fault) =
    (draft : Draft) × IsGraph graph file draft × IsTable table
    × (fault ≡ Unlisted IntervalFault.OutsideYears) × ¬ (IsInYears at.nanosecond)
SingleFault graph file table at (CannotWrite n) = Unit {0}
SingleFault graph file table at fault = IsFaultIn graph file fault
