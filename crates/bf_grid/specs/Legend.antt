-- What the marks of a grid mean.
use Rattle.std.specs.Prelude.{ℕ, ◌==◌, if◌then◌else◌, Bool, List, [], ◌∷◌, ◌++◌, length, filter, codes}
use Rattle.std.specs.List.{list_any}
use Rattle.bf_report.specs.declared.report.RunReport.{RunReport}
use Rattle.bf_marks.specs.declared.mark.Mark.{Mark}
use Rattle.bf_marks.specs.declared.mark.Mark.TheVariants.{Success, Retried, Failed, UpstreamFailed, Skipped, NoStatus}
use Rattle.bf_marks.specs.CellMarks.{color_code, mark_letter, mark_of, painted, severity}
use Rattle.bf_grid.specs.GridRows.{line}
use Rattle.bf_marks.specs.Tallies.{tally_in}

abbrev pub meaning : Mark → List ℕ
meaning Success = codes "success"
meaning Retried = codes "retried"
meaning Failed = codes "failed"
meaning UpstreamFailed = codes "upstream_failed"
meaning Skipped = codes "skipped"
meaning NoStatus = codes "no_status"

abbrev pub all_marks : List Mark
all_marks = Success ∷ Retried ∷ Failed ∷ UpstreamFailed ∷ Skipped ∷ NoStatus ∷ []

-- a task in a run has this mark
abbrev pub has_mark_in : List RunReport → Mark → ℕ → Bool
has_mark_in runs mark task =
    list_any (λ run. severity (mark_of (tally_in task run)) == severity mark) runs

abbrev pub is_seen_in : List RunReport → List ℕ → Mark → Bool
is_seen_in runs tasks mark = list_any (has_mark_in runs mark) tasks

abbrev pub explained : Bool → Mark → List ℕ
explained colored mark = painted colored (color_code mark) (mark_letter mark) ++ 32 ∷ meaning mark

-- with two spaces between
abbrev pub legend : Bool → List Mark → List ℕ
legend colored [] = []
legend colored (mark ∷ marks) =
    explained colored mark ++ ((if length marks == 0 then [] else codes "  ")
    ++ legend colored marks)

-- an empty line and the marks that are explained, where there are some
abbrev pub legend_lines : Bool → List Mark → List ℕ
legend_lines colored [] = []
legend_lines colored (mark ∷ marks) = 10 ∷ line (legend colored (mark ∷ marks))

-- those that one of these tasks has in one of these runs
abbrev pub legend_of : Bool → List RunReport → List ℕ → List ℕ
legend_of colored runs tasks = legend_lines colored (filter (is_seen_in runs tasks) all_marks)
