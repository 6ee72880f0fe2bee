-- What is read of files.
use Rattle.std.specs.Prelude.{◌≡◌, ◌⊎◌, ℕ, List, Option, option_map}
use Rattle.bf_commands.specs.declared.cleared.ToClear.{ToClear}
use Rattle.bf_table.specs.Tables.{table_in}
use Rattle.bf_command_line.specs.declared.forms.GraphAsked.{GraphAsked}
use Rattle.bf_command_fault.specs.declared.fault.CommandFault.{CommandFault}
use Rattle.bf_planning.specs.declared.range.RunRange.{RunRange}
use Rattle.bf_commands.specs.Cleared.{IsFaultBefore, IsReady}
use Rattle.bf_disk.specs.Files.{AreReadable, Files}
use Rattle.bf_input.specs.Inputs.{OfFilesAndNamedTable, clear_paths, AreAlike, IsReadingFault, IsReportFault}
use Rattle.bf_backfills.specs.declared.named.UnreadToClear.{UnreadToClear}
use Rattle.bf_backfills.specs.inner.Named.{IsReadFor, path_of}

-- this holds of bytes that say what the graph file and the table are told to hold, where one is named
pub record IsOfBytes (files : Files) (asked : GraphAsked) (path : Option (List ℕ)) (P : List ℕ
    → Option (List ℕ) → Option (List ℕ) → Type 0) : Type 0 where
  pub graph : List ℕ
  pub zone : Option (List ℕ)
  pub table : Option (List ℕ)
  pub alike : OfFilesAndNamedTable files asked path
      (λ held zone_held other. AreAlike graph held zone zone_held
      × (option_map table_in table ≡ option_map table_in other))
  pub holds : P graph zone table

-- the first fault of the files, the graph, the table and the range
abbrev pub IsPreparingFault : Files → GraphAsked → Option (List ℕ) → Option (List ℕ) → RunRange
    → CommandFault → Type 0
IsPreparingFault files asked path seeds range fault =
    IsReadingFault files (clear_paths asked path seeds) fault
    ⊎ (AreReadable files (clear_paths asked path seeds)
    × IsOfBytes files asked path (λ graph zone table. IsFaultBefore graph zone table range
    fault))

-- the fault of preparing; or there is none, they can be read, and what is to be cleared, and the fault is that of the report's file
abbrev pub IsFaultBeforeClearing : Files → GraphAsked → Option (List ℕ) → UnreadToClear → RunRange
    → List ℕ → CommandFault → Type 0
IsFaultBeforeClearing files asked path named range report fault =
    IsPreparingFault files asked path (path_of named) range fault
    ⊎ (AreReadable files (clear_paths asked path (path_of named))
    × IsOfBytes files asked path (λ graph zone table. IsReady graph zone table range)
    × ((what : ToClear) × IsReadFor files named what)
    × IsReportFault report (files report) fault)
