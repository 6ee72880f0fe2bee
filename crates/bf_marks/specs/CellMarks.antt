-- The marks of the grid.
use Rattle.std.specs.Prelude.{ℕ, Bool, nat_lt, if◌then◌else◌, List, [], ◌∷◌, ◌++◌, fold, map, codes, Option, Some, None, ◌==◌}
use Rattle.std.specs.List.{flat_map}
use Rattle.bf_report.specs.declared.report.RunReport.{RunReport}
use Rattle.bf_marks.specs.declared.tally.Tally.{Tally}
use Rattle.bf_marks.specs.declared.mark.Mark.{Mark}
use Rattle.bf_marks.specs.declared.mark.Mark.TheVariants.{Success, Retried, Failed, UpstreamFailed, Skipped, NoStatus}
use Rattle.bf_marks.specs.Tallies.{tally_in}

abbrev pub mark_letter : Mark → List ℕ
mark_letter Success = codes "."
mark_letter Retried = codes ":"
mark_letter Failed = codes "F"
mark_letter UpstreamFailed = codes "u"
mark_letter Skipped = codes "s"
mark_letter NoStatus = codes "n"

-- the mark of a task in a run: failed where an instance failed, a success where one is
abbrev pub mark_of : Tally → Mark
mark_of tally =
    if nat_lt 0 tally.failed then Failed
    else (if nat_lt 0 tally.upstream_failed then UpstreamFailed
    else (if nat_lt 0 tally.no_status then NoStatus
    else (if nat_lt 0 tally.success then (if tally.retried then Retried else Success)
    else Skipped)))

-- how bad it is
abbrev pub severity : Mark → ℕ
severity Skipped = 0
severity Success = 1
severity Retried = 2
severity NoStatus = 3
severity UpstreamFailed = 4
severity Failed = 5

abbrev pub worse : Mark → Mark → Mark
worse a b = if nat_lt (severity a) (severity b) then b else a

-- the worst of a task in the runs of a column
abbrev pub column_mark : ℕ → List RunReport → Mark
column_mark task runs = fold worse Skipped (map (λ run. mark_of (tally_in task run)) runs)

-- ---- colours

-- the colour, as a terminal is told it
abbrev pub color_code : Mark → List ℕ
color_code Success = codes "32"
color_code Retried = codes "32"
color_code Failed = codes "1;97;41"
color_code UpstreamFailed = codes "30;43"
color_code Skipped = codes "35"
color_code NoStatus = codes "36"

abbrev pub color_start : List ℕ → List ℕ
color_start code = 27 ∷ codes "[" ++ (code ++ codes "m")

abbrev pub color_end : List ℕ
color_end = 27 ∷ codes "[0m"

-- a text in a colour, where there are colours
abbrev pub painted : Bool → List ℕ → List ℕ → List ℕ
painted colored code text = if colored then color_start code ++ (text ++ color_end) else text

-- what stands before a mark behind another
abbrev pub between : Option Mark → Mark → List ℕ
between None mark = color_start (color_code mark)
between (Some before) mark =
    if severity before == severity mark then [] else color_end ++ color_start (color_code mark)

abbrev pub behind : Option Mark → List ℕ
behind None = []
behind (Some last) = color_end

-- marks, each longest piece of one mark in its colour
abbrev pub colored_marks : Option Mark → List Mark → List ℕ
colored_marks before [] = behind before
colored_marks before (mark ∷ marks) =
    between before mark ++ (mark_letter mark ++ colored_marks (Some mark) marks)

abbrev pub marks_text : Bool → List Mark → List ℕ
marks_text colored marks = if colored then colored_marks None marks else flat_map mark_letter marks
