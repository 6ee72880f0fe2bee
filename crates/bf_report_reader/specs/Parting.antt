-- A run whose tasks are read, as it is kept: with all of them, of which the last may have more lines where it ran.
use Rattle.std.specs.Prelude.{List, [], ◌∷◌, ◌++◌, Option, Some, None}
use Rattle.bf_report.specs.declared.report.InstanceReport.{InstanceReport}
use Rattle.bf_report.specs.declared.report.TaskReport.{TaskReport}
use Rattle.bf_report.specs.declared.report.RunReport.{RunReport}
use Rattle.bf_report_reader.specs.Open.{OpenTask, RunSoFar}

-- all but the last, and the last
abbrev pub parted_with : {X : Type 0} → X → Option (List X × X) → Option (List X × X)
parted_with first None = Some ([], first)
parted_with first (Some (front, last)) = Some (first ∷ front, last)

abbrev pub parted : {X : Type 0} → List X → Option (List X × X)
parted [] = None
parted (first ∷ rest) = parted_with first (parted rest)

-- an expanded task by its instances before the last, and the last
abbrev pub expanded_by : Option (List InstanceReport × InstanceReport) → Option OpenTask
expanded_by None = None
expanded_by (Some (front, last)) = Some (record { before = Some front; instance = last })

-- a task that ran may have more lines
abbrev pub open_by : TaskReport → Option OpenTask
open_by TaskReport.NoStatus = None
open_by TaskReport.Skipped = None
open_by TaskReport.UpstreamFailed = None
open_by (TaskReport.Ran x) = Some (record { before = None; instance = x })
open_by (TaskReport.Mapped xs) = expanded_by (parted xs)

-- the task that stands last, where it may have more lines
abbrev pub last_open : Option (List TaskReport × TaskReport) → Option OpenTask
last_open None = None
last_open (Some (front, last)) = open_by last

abbrev pub open_in : List TaskReport → Option OpenTask
open_in tasks = last_open (parted tasks)

-- the tasks without it
abbrev pub shut_with : List TaskReport → TaskReport → Option OpenTask → List TaskReport
shut_with front last None = front ++ last ∷ []
shut_with front last (Some task) = front

abbrev pub shut_by : Option (List TaskReport × TaskReport) → List TaskReport
shut_by None = []
shut_by (Some (front, last)) = shut_with front last (open_by last)

abbrev pub shut_in : List TaskReport → List TaskReport
shut_in tasks = shut_by (parted tasks)

abbrev pub run_so_far : RunReport → RunSoFar
run_so_far run = record { run = record run { tasks = shut_in run.tasks }; task = open_in run.tasks }
