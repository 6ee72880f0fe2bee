-- The cells of a page, as text.
use Rattle.std.specs.Prelude.{ℕ, suc, List, [], ◌∷◌, ◌++◌, Option, Some, None, codes, decimal, length, map}
use Rattle.std.specs.List.{enumerate_from, filter_map, flat_map}
use Rattle.bf_core.specs.Terms.{Dag}
use Rattle.bf_moment.specs.Moment.{moment_text}
use Rattle.bf_report.specs.declared.report.TaskReport.{TaskReport}
use Rattle.bf_report.specs.declared.report.RunReport.{RunReport}
use Rattle.bf_report.specs.declared.report.Report.{Report}
use Rattle.bf_report.specs.Report.{line, run_state_word_of}
use Rattle.bf_reason.specs.Letters.{instance_letter, letter_of}

-- a letter for each of these tasks of a run, of which the first stands in this place
abbrev pub letters_from : Dag → Report → ℕ → ℕ → List TaskReport → List ℕ
letters_from dag report run place [] = []
letters_from dag report run place (told ∷ rest) =
    letter_of dag report run place told ∷ letters_from dag report run (suc place) rest

-- a letter for each instance of an expanded task that ran
abbrev pub instances_word : TaskReport → Option (List ℕ)
instances_word (TaskReport.Mapped instances) = Some (map instance_letter instances)
instances_word task = None

abbrev pub row : Dag → Report → ℕ → RunReport → List ℕ
row dag report number run =
    line (moment_text run.interval.start.nanosecond ∷ moment_text run.interval.end.nanosecond
    ∷ run_state_word_of run.state
    ∷ letters_from dag report number 0 run.tasks ∷ filter_map instances_word run.tasks)

-- the first line has the numbers of tasks, of runs, and of the report's bytes
abbrev pub cells_text : Dag → Report → ℕ → List ℕ
cells_text dag report bytes =
    line (codes "@cells" ∷ codes "1" ∷ report.dag_id ∷ decimal (length dag.tasks)
    ∷ decimal (length report.runs) ∷ decimal bytes ∷ [])
    ++ flat_map (λ pair. row dag report pair.0 pair.1) (enumerate_from 0 report.runs)
