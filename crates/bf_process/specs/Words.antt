-- What is started for a try, and what may come of it.
use Rattle.std.specs.Prelude.{◌≡◌, ℕ, ℤ, pos, List, [], ◌∷◌, codes, map, Option, None, Some, option_map, slice_get, string_bytes}
use Rattle.bf_value.specs.declared.name.JobName.{JobName}
use Rattle.bf_plan.specs.declared.plan.Task.{Task}
use Rattle.bf_plan.specs.declared.plan.Dag.{Dag}
use Rattle.bf_interval.specs.declared.interval.Interval.{Interval}
use Rattle.bf_words.specs.declared.context.JobContext.{JobContext}
use Rattle.bf_xcom.specs.declared.values.Given.{Given}
use Rattle.bf_words.specs.Words.{words_of}
use Rattle.bf_try.specs.declared.answers.Exit.{Exit}
use Rattle.bf_try.specs.declared.answers.Line.{Line}
use Rattle.bf_try.specs.declared.answers.Raw.{Raw}
use Rattle.bf_failure.specs.Tried.{IsContext, log_of}
use Rattle.bf_process.specs.declared.launching.Launching.{Launching}
use Rattle.bf_process.specs.declared.setting.Setting.{Setting}
use Rattle.bf_process.specs.Clocks.{clock_of}
use Rattle.bf_process.specs.Environment.{Pair, environment_of}
use Rattle.bf_process.specs.Output.{not_started_raw_of}

-- ---- what is started

-- a program that is started: its words, of which the first names it, and the variables that are set and removed in the environment of this process
pub record Launched : Type 0 where
  pub words : List (List ℕ)
  pub variables : List Pair

-- the variables that are set and removed in a setting
abbrev pub variables_in : Setting → List Pair
variables_in setting =
    environment_of setting.context.now setting.clock.now.at.nanosecond
    (option_map (λ logs. string_bytes logs.now.given) setting.logs)

-- what is started by these words in a setting
abbrev pub launched_in : Setting → List (List ℕ) → Launched
launched_in setting words = record { words = words; variables = variables_in setting }

-- the words of a try, the try as they see it, and the number of its run
pub record Tried : Type 0 where
  pub words : List (List ℕ)
  pub context : JobContext
  pub run : ℕ

-- how tries are launched: the path of the launcher that words are handed to, where there is one; the folder of the logs, where they are
-- kept; and what the clocks of the graph's zone show at the moments of runs
pub record LaunchingOf : Type 0 where
  pub launcher : Option (List ℕ)
  pub logs : Option (List ℕ)
  pub clocks : List ℤ

-- how tries are launched, as contracts see it
abbrev pub launching_of : Launching → LaunchingOf
launching_of launching = record {
  launcher = option_map (λ path. path.now) launching.launcher;
  logs = option_map (λ folder. folder.now) launching.logs;
  clocks = map (λ clock. clock.at.nanosecond) launching.clocks.now;
}

-- the words behind the launcher's path, where there is one
abbrev pub behind : Option (List ℕ) → List (List ℕ) → List (List ℕ)
behind None words = words
behind (Some path) words = path ∷ words

-- the path of what the try was given, where that is written
abbrev pub given_path : Option (List ℕ) → JobContext → Option (List ℕ)
given_path logs try = option_map (λ folder. log_of folder try (codes ".given.json")) logs

-- what is started for a try
abbrev pub launched_for : LaunchingOf → Tried → Launched
launched_for launching try =
    record {
      words = behind launching.launcher try.words;
      variables =
          environment_of try.context (clock_of launching.clocks try.run try.context)
          (given_path launching.logs try.context);
    }

-- what may be heard of a try, by what may be heard of what is started for it
abbrev pub through : LaunchingOf → (Launched → Raw → Type 0) → Tried → Raw → Type 0
through launching may_hear try raw = may_hear (launched_for launching try) raw

-- whether the program of a try may be lost, by whether what is started for it may
abbrev pub lost_through : LaunchingOf → (Launched → Type 0) → Tried → Type 0
lost_through launching may_lose try = may_lose (launched_for launching try)

-- ---- what may come of it

-- what contracts see of a runner: what starts its programs, the tasks, the runs' data intervals, and how tries are launched
pub record Programs (S : Type 0) : Type 0 where
  pub starter : S
  pub dag : Dag
  pub intervals : List Interval
  pub launching : LaunchingOf

-- this holds of what the try's command comes to
pub record HoldsOfWords (P : Tried
    → Type 0) (dag : Dag) (task : Task) (interval : Interval) (name : JobName)
    (given : Given) : Type 0 where
  pub context : JobContext
  pub is_context : IsContext dag task interval name context
  pub holds : P (record {
    words = words_of context given task.command;
    context = context;
    run = name.run;
  })

-- this holds of what the try's command comes to, where its task and run are there; else the other does
abbrev pub HoldsOfTry : Type 0 → (Tried → Type 0) → Dag → JobName → Given → Option Task
    → Option Interval → Type 0
HoldsOfTry other P dag name given (Some task) (Some interval) =
    HoldsOfWords P dag task interval name given
HoldsOfTry other P dag name given (Some task) None = other
HoldsOfTry other P dag name given None run = other

-- one fact where there is no word, another where there is a program
abbrev pub IfProgram : List (List ℕ) → Type 0 → Type 0 → Type 0
IfProgram [] none some = none
IfProgram (program ∷ arguments) none some = some

-- code 0 and an empty line
abbrev pub nothing_done : Raw
nothing_done = record { exit = Exit.Code (pos 0); line = Line.Bytes [] }

-- without a word nothing is done, else what may be heard of the program
abbrev pub IsHeard : (Tried → Raw → Type 0) → Tried → Raw → Type 0
IsHeard may_hear try raw = IfProgram try.words (raw ≡ nothing_done) (may_hear try raw)

-- there is a program, and it may be lost
abbrev pub IsLost : (Tried → Type 0) → Tried → Type 0
IsLost may_lose try = IfProgram try.words ⊥ (may_lose try)

-- what the try of this name may answer, given this: what is heard of its words; a try of no task or of no run isn't started
abbrev pub MayAnswer : (Tried → Raw → Type 0) → Dag → List Interval → JobName → Given → Raw → Type 0
MayAnswer may_hear dag intervals name given raw =
    HoldsOfTry (raw ≡ not_started_raw_of) (λ try. IsHeard may_hear try raw) dag name given
    (slice_get dag.tasks name.task) (slice_get intervals name.run)

-- the try of this name, given this, is given up only where its program is lost
abbrev pub MayGiveUp : (Tried → Type 0) → Dag → List Interval → JobName → Given → Type 0
MayGiveUp may_lose dag intervals name given =
    HoldsOfTry ⊥ (IsLost may_lose) dag name given (slice_get dag.tasks name.task)
    (slice_get intervals name.run)
