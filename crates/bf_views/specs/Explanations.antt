-- What the command `explain` comes to, by what the files hold that it names.
use Rattle.std.specs.Prelude.{◌≡◌, ℕ, ℤ, List, Option, None, Some, option_map, slice_get, string_bytes}
use Rattle.jiff.specs.declared.timestamp.Timestamp.{Timestamp}
use Rattle.bf_read.specs.declared.draft.Draft.{Draft}
use Rattle.bf_check.specs.Checking.{dag_of}
use Rattle.bf_plan.specs.declared.plan.Dag.{Dag}
use Rattle.bf_report.specs.declared.report.TaskReport.{TaskReport}
use Rattle.bf_report.specs.declared.report.RunReport.{RunReport}
use Rattle.bf_report.specs.declared.report.Report.{Report}
use Rattle.bf_report_reader.specs.Reading.{IsReadAs}
use Rattle.bf_command_line.specs.declared.forms.ExplainAsked.{ExplainAsked}
use Rattle.bf_command_line.specs.declared.forms.TaskAsked.{TaskAsked}
use Rattle.bf_command_fault.specs.declared.status.Status.{Status}
use Rattle.bf_disk.specs.Files.{Files}
use Rattle.bf_explain.specs.declared.paths.Paths.{Paths}
use Rattle.bf_explain.specs.Runs.{run_text}
use Rattle.bf_explain.specs.Tasks.{IsTaskText}
use Rattle.bf_input.specs.Moments.{Means}
use Rattle.bf_marks.specs.RowOrder.{order_of}
use Rattle.bf_planning.specs.Clocks.{AreClocksOf}
use Rattle.bf_planning.specs.Graphs.{IsGraph}
use Rattle.bf_views.specs.Asked.{run_number, task_number}
use Rattle.bf_views.specs.Matching.{intervals_in}
use Rattle.bf_views.specs.Reported.{AreReportedReadable, OfReported}

abbrev pub paths_asked : ExplainAsked → Paths
paths_asked asked = record {
  graph = string_bytes asked.graph.graph;
  report = string_bytes asked.report;
  zone_file = option_map string_bytes asked.graph.zone_file;
}

-- the text on a task in a run of the report
pub record IsTaskExplained (paths : Paths) (dag : Dag) (report : Report) (clocks : List ℤ) (run : ℕ)
    (told_run : RunReport) (asked : TaskAsked) (text : List ℕ) : Type 0 where
  pub task : ℕ
  pub task_is : task_number dag asked ≡ Some task
  pub told : TaskReport
  pub told_is : slice_get told_run.tasks task ≡ Some told
  pub text_is : IsTaskText paths dag report clocks run told_run task told asked.index text

-- of a run, whose tasks stand in the order of the grid, or of a task in it
abbrev pub IsTextOn : Paths → Dag → Report → List ℤ → ℕ → RunReport → Option TaskAsked → List ℕ
    → Type 0
IsTextOn paths dag report clocks run told_run None text =
    text ≡ run_text dag told_run (order_of dag)
IsTextOn paths dag report clocks run told_run (Some task) text =
    IsTaskExplained paths dag report clocks run told_run task text

-- the text on what is asked of a report of the graph, by what clocks show at the starts of its runs
pub record IsExplanation (paths : Paths) (dag : Dag) (report : Report) (clocks : List ℤ) (start : ℤ)
    (task : Option TaskAsked) (text : List ℕ) : Type 0 where
  pub run : ℕ
  pub run_is : run_number report start ≡ Some run
  pub told_run : RunReport
  pub told_run_is : slice_get report.runs run ≡ Some told_run
  pub text_is : IsTextOn paths dag report clocks run told_run task text

-- by a graph without a fault and a report of it, which these bytes say
pub record IsExplanationOf (paths : Paths) (start : ℤ) (task : Option TaskAsked) (graph : List ℕ)
    (zone : Option (List ℕ)) (held text : List ℕ) : Type 0 where
  pub draft : Draft
  pub graph_says : IsGraph graph zone draft
  pub report : Report
  pub report_says : IsReadAs held report
  pub clocks : List ℤ
  pub clocks_are : AreClocksOf graph zone (intervals_in report.runs) clocks
  pub explains : IsExplanation paths (dag_of draft) report clocks start task text

pub record IsExplainAnswer (files : Files) (asked : ExplainAsked) (text : List ℕ)
    (status : Status) : Type 0 where
  pub success : status ≡ Status.Success
  pub start : Timestamp
  pub means : Means (string_bytes asked.run) start
  pub readable : AreReportedReadable files asked.graph (string_bytes asked.report)
  pub text_is : OfReported files asked.graph (string_bytes asked.report) (λ graph zone held.
      IsExplanationOf (paths_asked asked) start.nanosecond asked.task graph zone held text)
