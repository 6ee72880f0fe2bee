-- What was read for a page and for a grid.
use Rattle.std.specs.Prelude.{◌≡◌, ℕ, List, Option, false, string_bytes}
use Rattle.bf_command_line.specs.declared.forms.PageAsked.{PageAsked}
use Rattle.bf_command_line.specs.declared.forms.ShowAsked.{ShowAsked}
use Rattle.bf_disk.specs.Files.{AreReadable, Files}
use Rattle.bf_input.specs.Inputs.{graph_paths}
use Rattle.bf_input.specs.inner.Inputs.{IsReadOf}
use Rattle.bf_marks.specs.declared.view.View.{View}
use Rattle.bf_report.specs.declared.report.Report.{Report}
use Rattle.bf_views.specs.declared.bounds.Bounds.{Bounds}
use Rattle.bf_views.specs.declared.canvas.Canvas.{Canvas}
use Rattle.bf_views.specs.declared.planned.Planned.{Planned}
use Rattle.bf_views.specs.Bounds.{MeansBounds, is_reversed_in}
use Rattle.bf_views.specs.Grids.{view_asked}
use Rattle.bf_views.specs.Pages.{PageWords, journal_path, words_asked}
use Rattle.bf_views.specs.inner.Planned.{IsPlanned}

-- the words of a line for a page, the path of its journal, and the plan and the report that its files say
pub record IsReadForPage (files : Files) (asked : PageAsked) (words : PageWords) (planned : Planned)
    (report : Report) (journal : Option (List ℕ)) : Type 0 where
  pub words_are : words ≡ words_asked asked
  pub plan : IsPlanned files asked.graph planned
  pub readable : AreReadable files (graph_paths asked.graph)
  pub read : IsReadOf (files (string_bytes asked.report)) report
  pub journal_is : journal ≡ journal_path asked

-- the view that a line asks for, within bounds in order, and the plan and the report that its files say
pub record IsReadForGrid (files : Files) (asked : ShowAsked) (canvas : Canvas) (view : View)
    (planned : Planned) (report : Report) : Type 0 where
  pub bounds : Bounds
  pub means : MeansBounds asked bounds
  pub ordered : is_reversed_in bounds ≡ false
  pub view_is : view ≡ view_asked asked bounds canvas
  pub plan : IsPlanned files asked.graph planned
  pub readable : AreReadable files (graph_paths asked.graph)
  pub read : IsReadOf (files (string_bytes asked.report)) report
