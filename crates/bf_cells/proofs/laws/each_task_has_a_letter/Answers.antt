use Rattle.std.proofs.Common.{◌≡◌, ℕ, suc, List, [], ◌∷◌, length, refl, ap}
use Rattle.bf_core.specs.Terms.{Dag}
use Rattle.bf_report.specs.declared.report.TaskReport.{TaskReport}
use Rattle.bf_report.specs.declared.report.Report.{Report}
use Rattle.bf_cells.specs.Cells.{letters_from}
use Rattle.bf_cells.proofs.laws.each_task_has_a_letter.Goals as goal

a_letter_each : (dag : Dag) (report : Report) (run place : ℕ) (tasks : List TaskReport) → length (letters_from dag report run place tasks) ≡ length tasks
a_letter_each dag report run place [] = refl
a_letter_each dag report run place (task ∷ tasks) = ap suc (a_letter_each dag report run (suc place) tasks)

pub returns : goal.returns
returns c = a_letter_each
