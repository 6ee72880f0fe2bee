-- What the command `show` comes to as a grid, by what the files hold that it names.
use Rattle.std.specs.Prelude.{◌≡◌, ℕ, Bool, true, false, List, Option, unwrap_or, string_bytes}
use Rattle.bf_read.specs.declared.draft.Draft.{Draft}
use Rattle.bf_check.specs.Checking.{dag_of}
use Rattle.bf_report.specs.declared.report.Report.{Report}
use Rattle.bf_report_reader.specs.Reading.{IsReadAs}
use Rattle.bf_marks.specs.declared.view.View.{View}
use Rattle.bf_grid.specs.Grid.{grid_text}
use Rattle.bf_command_line.specs.declared.forms.Color.{Color}
use Rattle.bf_command_line.specs.declared.forms.ShowAsked.{ShowAsked}
use Rattle.bf_command_fault.specs.declared.status.Status.{Status}
use Rattle.bf_disk.specs.Files.{Files}
use Rattle.bf_planning.specs.Graphs.{IsGraph}
use Rattle.bf_views.specs.declared.bounds.Bounds.{Bounds}
use Rattle.bf_views.specs.declared.canvas.Canvas.{Canvas}
use Rattle.bf_views.specs.Bounds.{MeansBounds, is_reversed_in}
use Rattle.bf_views.specs.Matching.{is_of_graph}
use Rattle.bf_views.specs.Reported.{AreReportedReadable, OfReported}

-- whether there are colours, where the canvas has some or has none
abbrev pub is_colored_in : Color → Bool → Bool
is_colored_in Color.Auto colored = colored
is_colored_in Color.Always colored = true
is_colored_in Color.Never colored = false

-- what a line asks for, and the canvas where it doesn't say
abbrev pub view_asked : ShowAsked → Bounds → Canvas → View
view_asked asked bounds canvas = record {
  from = bounds.from;
  to = bounds.to;
  failed = asked.failed;
  width = unwrap_or asked.width canvas.width;
  colored = is_colored_in asked.color canvas.colored;
}

-- the grid of a graph without a fault and of a report of it, which these bytes say
pub record IsGridOf (view : View) (graph : List ℕ) (zone : Option (List ℕ))
    (held text : List ℕ) : Type 0 where
  pub draft : Draft
  pub graph_says : IsGraph graph zone draft
  pub report : Report
  pub report_says : IsReadAs held report
  pub matches : is_of_graph (dag_of draft) report ≡ true
  pub text_is : text ≡ grid_text view (dag_of draft) report

pub record IsGridAnswer (canvas : Canvas) (files : Files) (asked : ShowAsked) (text : List ℕ)
    (status : Status) : Type 0 where
  pub success : status ≡ Status.Success
  pub bounds : Bounds
  pub means : MeansBounds asked bounds
  pub ordered : is_reversed_in bounds ≡ false
  pub readable : AreReportedReadable files asked.graph (string_bytes asked.report)
  pub text_is : OfReported files asked.graph (string_bytes asked.report)
      (λ graph zone held. IsGridOf (view_asked asked bounds canvas) graph zone held text)
