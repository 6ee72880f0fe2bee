-- Which instances failed.
use Rattle.std.specs.Prelude.{ℕ, ℤ, pos, negsuc, min, if◌then◌else◌, List, [], ◌∷◌, ◌++◌, length, Option, Some, None}
use Rattle.bf_try.specs.Tries.{is_failed}
use Rattle.bf_report.specs.declared.report.InstanceReport.{InstanceReport}
use Rattle.bf_report.specs.declared.report.TaskReport.{TaskReport}
use Rattle.bf_report.specs.declared.report.Report.{Report}
use Rattle.bf_dependents.specs.declared.place.Place.{Place}
use Rattle.bf_dependents.specs.Listing.{up_to}
use Rattle.bf_clear.specs.Entries.{found_at, report_at}

-- ---- as they are listed

abbrev pub failed_place : Place → Option InstanceReport → List Place
failed_place p None = []
failed_place p (Some x) = if is_failed x.result.outcome then p ∷ [] else []

abbrev pub failed_at : Report → ℕ → ℕ → ℤ → List Place
failed_at report k t i =
    failed_place (record { run = k; task = t; index = Some i }) (found_at report k t i)

abbrev pub count_of : Option TaskReport → ℕ
count_of (Some (TaskReport.Mapped instances)) = min (length instances) 2_147_483_648
count_of _ = 0

-- how many instances an expanded task has that a map index can name
abbrev pub count_at : Report → ℕ → ℕ → ℕ
count_at report k t = count_of (report_at report k t)

abbrev pub failed_of_task_in : Report → ℕ → ℕ → List Place
failed_of_task_in report k t =
    failed_at report k t (negsuc 0)
    ++ up_to (λ i. failed_at report k t (pos i)) (count_at report k t)

abbrev pub failed_of_run : Report → ℕ → ℕ → List Place
failed_of_run report tasks k = up_to (failed_of_task_in report k) tasks
