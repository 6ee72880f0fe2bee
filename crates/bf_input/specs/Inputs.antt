-- What is read of the files that a line names.
use Rattle.std.specs.Prelude.{◌≡◌, ◌≢◌, ℕ, ◌+◌, List, ◌∷◌, [], ◌++◌, take, Ok, Option, Vec, option_map, string_bytes}
use Rattle.std.specs.Global.{Global}
use Rattle.jiff.specs.Types.{TimeZone}
use Rattle.bf_disk.specs.Files.{Files, IsFirstUntold, IsHeld, IsHeldIfNamed, IsReadable, IsUntold, named_paths}
use Rattle.bf_read.specs.Limits.{most_bytes}
use Rattle.bf_read.specs.Reading.{GraphFile, graph_in}
use Rattle.bf_zone.specs.Zones.{Asked, IsZone}
use Rattle.bf_report_reader.specs.Faults.{Tells}
use Rattle.bf_report_reader.specs.declared.fault.ReportFault.{ReportFault}
use Rattle.bf_command_line.specs.declared.forms.GraphAsked.{GraphAsked}
use Rattle.bf_command_fault.specs.declared.fault.CommandFault.{CommandFault}
use Rattle.bf_command_fault.specs.declared.fault.CommandFault.TheVariants.{OutOfMemory, CannotRead, Journal, Report as BadReport}
use Rattle.bf_journal.specs.declared.fault.JournalFault.{JournalFault}

-- the graph file and, where one is named, the zone file are told to hold these bytes
pub record AreHeld (files : Files) (asked : GraphAsked) (graph : List ℕ)
    (zone : Option (List ℕ)) : Type 0 where
  pub graph_held : IsHeld (files (string_bytes asked.graph)) graph
  pub zone_held : IsHeldIfNamed files (option_map string_bytes asked.zone_file) zone

-- P holds of whatever the graph file and the zone file are told to hold
abbrev pub OfFiles : Files → GraphAsked → (List ℕ → Option (List ℕ) → Type 0) → Type 0
OfFiles files asked P =
    (graph : List ℕ) (zone : Option (List ℕ)) → AreHeld files asked graph zone → P graph zone

-- P holds of whatever the graph file, the zone file and the table are told to hold
abbrev pub OfFilesAndTable : Files → GraphAsked → List ℕ
    → (List ℕ → Option (List ℕ) → List ℕ → Type 0) → Type 0
OfFilesAndTable files asked path P =
    (graph table : List ℕ) (zone : Option (List ℕ)) → AreHeld files asked graph zone
    → IsHeld (files path) table → P graph zone table

-- P holds of whatever the graph file, the zone file, and a table where one is named are told to hold
abbrev pub OfFilesAndNamedTable : Files → GraphAsked → Option (List ℕ)
    → (List ℕ → Option (List ℕ) → Option (List ℕ) → Type 0) → Type 0
OfFilesAndNamedTable files asked path P =
    (graph : List ℕ) (zone table : Option (List ℕ)) → AreHeld files asked graph zone
    → IsHeldIfNamed files path table → P graph zone table

-- the paths of the graph file and of the zone file, in the order in which they are read
abbrev pub graph_paths : GraphAsked → List (List ℕ)
graph_paths asked = string_bytes asked.graph ∷ named_paths (option_map string_bytes asked.zone_file)

-- the paths of the graph file, of the zone file where one is named, and of the table, in the order in which they are read
abbrev pub table_paths : GraphAsked → List ℕ → List (List ℕ)
table_paths asked table = graph_paths asked ++ table ∷ []

-- the paths of the graph file, and of the zone file, the table and the seeds file where they are named, in that order
abbrev pub clear_paths : GraphAsked → Option (List ℕ) → Option (List ℕ) → List (List ℕ)
clear_paths asked table seeds = graph_paths asked ++ (named_paths table ++ named_paths seeds)

-- ---- what is read of them

-- the bytes of a file, where one was read
abbrev pub bytes_of : Option (Vec ℕ Global) → Option (List ℕ)
bytes_of read = option_map (λ v. v.items) read

-- two zone files mean the same zones, whatever the graph's zone is
pub record MeanAlike (one other : Option (List ℕ)) : Type 0 where
  pub to : (zone : Asked) (z : TimeZone) → IsZone zone one z → IsZone zone other z
  pub back : (zone : Asked) (z : TimeZone) → IsZone zone other z → IsZone zone one z

-- two graph files say the same, and their zone files mean the same
pub record AreAlike (graph other : List ℕ) (zone other_zone : Option (List ℕ)) : Type 0 where
  pub says : graph_in graph ≡ graph_in other
  pub means : MeanAlike zone other_zone

-- the bytes are all that a file holds, where that says a graph
abbrev pub IsWholeGraph : List ℕ → List ℕ → Type 0
IsWholeGraph held bytes = (file : GraphFile) → graph_in held ≡ Ok file → bytes ≡ held

-- the bytes that are read of a graph file: all of it, or one more than it may have
abbrev pub IsReadGraph : List ℕ → List ℕ → Type 0
IsReadGraph held bytes = bytes ≡ take (most_bytes + 1) held

-- ---- why nothing is

-- the first file of these that can't be read, or memory is wanting
abbrev pub IsReadingFault : Files → List (List ℕ) → CommandFault → Type 0
IsReadingFault files paths (CannotRead path) = IsFirstUntold files paths path
IsReadingFault files paths OutOfMemory = Unit {0}
IsReadingFault files paths _ = ⊥

-- the file can't be read, or doesn't begin with these bytes, as a journal has to; or memory is wanting
abbrev pub IsFrontFault : Files → List ℕ → List ℕ → CommandFault → Type 0
IsFrontFault files path front (Journal JournalFault.Mismatch) = IsReadable (files path)
    × ((held : List ℕ) → IsHeld (files path) held → (rest : List ℕ) → held ≢ front ++ rest)
IsFrontFault files path front fault = IsReadingFault files (path ∷ []) fault

-- the report's file can't be read, or it holds no report; or memory is wanting
abbrev pub IsReportFault : List ℕ → Option (Option (List ℕ)) → CommandFault → Type 0
IsReportFault path file (CannotRead p) = (p ≡ path) × IsUntold file
IsReportFault path file (BadReport ReportFault.Io) = ⊥
IsReportFault path file (BadReport fault) =
    IsReadable file × ((held : List ℕ) → IsHeld file held → Tells held fault)
IsReportFault path file OutOfMemory = Unit {0}
IsReportFault path file _ = ⊥
