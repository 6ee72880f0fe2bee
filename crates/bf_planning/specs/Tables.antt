-- What the bytes of a table say.
use Rattle.std.specs.Prelude.{◌≡◌, ℕ, List, Ok, Err}
use Rattle.bf_table.specs.declared.table.TableEntry.{TableEntry}
use Rattle.bf_table.specs.Tables.{table_in}
use Rattle.bf_command_fault.specs.declared.fault.CommandFault.{CommandFault}
use Rattle.bf_command_fault.specs.declared.fault.CommandFault.TheVariants.{Table, OutOfMemory}

-- the table's bytes say a table
pub record IsTable (table : List ℕ) : Type 0 where
  pub entries : List TableEntry
  pub says : table_in table ≡ Ok entries

-- the fault is the table's; or memory is wanting
abbrev pub IsTableFault : List ℕ → CommandFault → Type 0
IsTableFault bytes (Table fault) = table_in bytes ≡ Err fault
IsTableFault bytes OutOfMemory = Unit {0}
IsTableFault bytes _ = ⊥
