-- Lines of JSON, as they are put together.
use Rattle.std.specs.Prelude.{ℕ, List, [], ◌∷◌, ◌++◌, codes}
use Rattle.json.specs.Print.{quoted}
use Rattle.bf_moment.specs.Moment.{moment_text}
use Rattle.bf_report.specs.declared.report.RunReport.{RunReport}
use Rattle.bf_report.specs.Report.{run_state_word_of}
use Rattle.bf_show.specs.declared.key.Key.{Key}
use Rattle.bf_show.specs.declared.key.Key.TheVariants.{End, RunState, Task, Index, State, Tries, Value, Item, Pulls}

-- the name of a member
abbrev pub key_word : Key → List ℕ
key_word End = codes "end"
key_word RunState = codes "run_state"
key_word Task = codes "task"
key_word Index = codes "index"
key_word State = codes "state"
key_word Tries = codes "tries"
key_word Value = codes "value"
key_word Item = codes "item"
key_word Pulls = codes "pulls"

-- what stands before the value of a member that isn't the first
unfoldable pub key_text : Key → List ℕ
key_text key = 44 ∷ (quoted (key_word key) ++ 58 ∷ [])

-- the bracket and the members of a run
unfoldable pub run_start : RunReport → List ℕ
run_start run =
    123 ∷ (quoted (codes "run") ++ 58 ∷ (quoted (moment_text run.interval.start.nanosecond)
    ++ (key_text End ++ (quoted (moment_text run.interval.end.nanosecond)
    ++ (key_text RunState ++ quoted (run_state_word_of run.state))))))
