-- The plan of a line's graph file.
use Rattle.bf_read.specs.declared.draft.Draft.{Draft}
use Rattle.bf_command_line.specs.declared.forms.GraphAsked.{GraphAsked}
use Rattle.bf_command_fault.specs.declared.fault.CommandFault.{CommandFault}
use Rattle.bf_command_fault.specs.declared.fault.CommandFault.TheVariants.{CannotRead, Check, OutOfMemory, Read}
use Rattle.bf_disk.specs.Files.{AreReadable, Files, IsFirstUntold}
use Rattle.bf_input.specs.Inputs.{OfFiles, graph_paths}
use Rattle.bf_planning.specs.Graphs.{IsFaultIn, IsGraph}

-- the files can be read, and say a graph without a fault
abbrev pub HasGraph : Files → GraphAsked → Type 0
HasGraph files asked =
    AreReadable files (graph_paths asked)
    × OfFiles files asked (λ graph zone. (draft : Draft) × IsGraph graph zone draft)

-- the first fault of the files and of the graph; or memory is wanting
abbrev pub IsPlanningFault : Files → GraphAsked → CommandFault → Type 0
IsPlanningFault files asked OutOfMemory = Unit {0}
IsPlanningFault files asked (CannotRead path) = IsFirstUntold files (graph_paths asked) path
IsPlanningFault files asked (Read fault) =
    AreReadable files (graph_paths asked)
    × OfFiles files asked (λ graph zone. IsFaultIn graph zone (Read fault))
IsPlanningFault files asked (Check fault) =
    AreReadable files (graph_paths asked)
    × OfFiles files asked (λ graph zone. IsFaultIn graph zone (Check fault))
IsPlanningFault files asked _ = ⊥
