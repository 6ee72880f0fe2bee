-- The walk while it is gone.
use Rattle.std.specs.Prelude.{◌≡◌, ◌≤◌, ◌+◌, List, ◌++◌, length, reverse}
use Rattle.bf_core.specs.Terms.{Dag}
use Rattle.bf_report.specs.declared.report.TaskReport.{TaskReport}
use Rattle.bf_report.specs.declared.report.Report.{Report}
use Rattle.bf_reason.specs.Runs.{tasks_in, tasks_before}
use Rattle.bf_roots.specs.declared.step.WalkStep.{WalkStep}
use Rattle.bf_roots.specs.declared.walk.Trail.{Trail}
use Rattle.bf_roots.specs.declared.window.Window.{Window}
use Rattle.bf_roots.specs.Onward.{onward_among, roots_among}
use Rattle.bf_roots.specs.Walks.{with_seen}

-- it shows the tasks of the run, and of the run before
pub record IsShowing (report : Report) (window : Window) : Type 0 where
  pub tasks : window.settled.items ≡ tasks_in report window.run
  pub before : window.before.items ≡ tasks_before report window.run

-- a place where it hasn't been is looked at, by the tasks of its run and of the run before
pub record LooksAt (dag : Dag) (tasks before : List TaskReport) (step : WalkStep)
    (old new : Trail) : Type 0 where
  pub seen : new.seen.items ≡ with_seen old.seen.items step.run step.task
  pub left : reverse new.left.items ≡ onward_among dag tasks before step ++ reverse old.left.items
  pub few : length new.left.items ≤ length old.left.items + 20_000
  pub found : new.found.items ≡ old.found.items ++ roots_among tasks step
