-- What is reported of a backfill over a table: the recursion over dates, over what the table answers.
use Rattle.std.specs.Prelude.{◌≡◌, ℕ, Bool, not, List, map}
use Rattle.bf_value.specs.declared.name.JobName.{JobName}
use Rattle.bf_plan.specs.declared.plan.Dag.{Dag}
use Rattle.bf_interval.specs.declared.interval.Interval.{Interval}
use Rattle.bf_xcom.specs.declared.values.Given.{Given}
use Rattle.bf_try.specs.declared.answers.Raw.{Raw}
use Rattle.bf_table.specs.declared.table.TableEntry.{TableEntry}
use Rattle.bf_table.specs.Tables.{Answering, answer_of, dates_in}
use Rattle.bf_commands.specs.Reported.{IsReportBy}

-- a table's answers to runs over these data intervals
abbrev pub answering : Dag → List TableEntry → List Interval → Answering
answering dag table intervals =
    record { dag = dag; dates = dates_in (map (λ i. i.start) intervals); entries = table }

-- each try is answered as the table says
abbrev pub AnswersByTable : Dag → List TableEntry → List Interval → JobName → Given → Raw → Type 0
AnswersByTable dag table intervals name given raw =
    raw ≡ answer_of (answering dag table intervals) name

-- the text is that of the recursion's report over the ledger of a backfill over the table; and whether every run of it is a success
abbrev pub TableReport : Dag → List TableEntry → List Interval → List ℕ → Bool → Type 0
TableReport dag table intervals text success =
    IsReportBy (AnswersByTable dag table intervals) dag intervals text success

-- where a table answers and no progress is told, the calling thread makes all tries, however many workers may run
abbrev pub is_single_threaded_in : Bool → Bool
is_single_threaded_in progress = not progress
