-- What the lines of runs say.
use Rattle.std.specs.Prelude.{ℕ, List, ◌∷◌, ◌++◌}
use Rattle.jiff.specs.declared.timestamp.Timestamp.{Timestamp}
use Rattle.bf_interval.specs.declared.interval.Interval.{Interval}
use Rattle.bf_moment.specs.Moment.{moment_text}
use Rattle.bf_xcom.specs.declared.values.RunState.{RunState}
use Rattle.bf_report.specs.Report.{run_state_word_of}
use Rattle.bf_report_reader.specs.Runs.{IsRunInterval}

abbrev pub spelled_moment : Timestamp → List ℕ
spelled_moment moment = moment_text moment.nanosecond

-- start, end and state, separated by one space
abbrev pub run_words : Interval × RunState → List ℕ
run_words words =
    moment_text words.0.start.nanosecond ++ 32
    ∷ (moment_text words.0.end.nanosecond ++ 32 ∷ run_state_word_of words.1)

abbrev pub IsRunWords : Interval × RunState → Type 0
IsRunWords words = IsRunInterval words.0
