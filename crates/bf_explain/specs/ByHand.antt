-- The words of an instance's last try, as a line of a shell.
use Rattle.std.specs.Prelude.{◌≡◌, ℕ, zero, ℤ, negsuc, ◌==◌, ◌&&◌, not, Bool, true, false, List, [], ◌∷◌, Option, None, Some, is_some, length}
use Rattle.std.specs.List.{list_all}
use Rattle.bf_value.specs.declared.name.JobName.{JobName}
use Rattle.bf_core.specs.Terms.{Dag, task_of}
use Rattle.bf_plan.specs.declared.plan.Word.{Word}
use Rattle.bf_interval.specs.declared.interval.Interval.{Interval}
use Rattle.bf_report.specs.declared.report.Version.{Version}
use Rattle.bf_report.specs.declared.report.InstanceReport.{InstanceReport}
use Rattle.bf_report.specs.declared.report.TaskReport.{TaskReport}
use Rattle.bf_clear.specs.Entries.{given_in}
use Rattle.bf_failure.specs.Tried.{IsContext}
use Rattle.bf_words.specs.Words.{words_of}
use Rattle.bf_words.specs.declared.context.JobContext.{JobContext}
use Rattle.bf_process.specs.Clocks.{clock_of}
use Rattle.bf_explain.specs.Variables.{hand_line_of}

-- the report tells the word: version 1 doesn't tell what an instance was given
abbrev pub tells_word_in : Version → InstanceReport → Word → Bool
tells_word_in Version.One instance (Word.Pull place) = false
tells_word_in Version.One instance Word.Item = false
tells_word_in Version.Two instance Word.Item = is_some instance.item
tells_word_in version instance word = true

-- there is a command, and it tells each word
abbrev pub tells_words_in : Version → InstanceReport → List Word → Bool
tells_words_in version instance command =
    not (length command == 0) && list_all (tells_word_in version instance) command

-- the map index of the instance that is told of alone
abbrev pub index_in : TaskReport → Option ℤ → ℤ
index_in (TaskReport.Mapped instances) (Some index) = index
index_in told index = negsuc zero

abbrev pub last_try : ℕ → ℕ → ℤ → InstanceReport → JobName
last_try run task index instance =
    record { run = run; task = task; index = index; attempt = instance.result.tries }

-- the line has the words of the last try, with the variables that they name
abbrev pub IsHandLine : Dag → Interval → List ℤ → ℕ → ℕ → ℤ → InstanceReport → List ℕ → Type 0
IsHandLine dag interval clocks run task index instance line =
    (context : JobContext) × IsContext dag (task_of dag task) interval
    (last_try run task index instance) context
    × (line ≡ hand_line_of context (clock_of clocks run context)
    (words_of context (given_in instance) (task_of dag task).command))

abbrev pub IsLineIf : Bool → (List ℕ → Type 0) → List (List ℕ) → Type 0
IsLineIf true IsLine lines = (line : List ℕ) × IsLine line × (lines ≡ line ∷ [])
IsLineIf false IsLine lines = lines ≡ []

-- where the report tells them, and there is one instance
abbrev pub AreHandLines : Dag → Interval → Version → List ℤ → ℕ → ℕ → ℤ → Option InstanceReport
    → List (List ℕ) → Type 0
AreHandLines dag interval version clocks run task index None lines = lines ≡ []
AreHandLines dag interval version clocks run task index (Some instance) lines =
    IsLineIf (tells_words_in version instance (task_of dag task).command)
    (IsHandLine dag interval clocks run task index instance) lines
