-- What is set and removed in the environment of a try's program.
use Rattle.std.specs.Prelude.{ℕ, ℤ, List, [], ◌∷◌, ◌++◌, map, codes, decimal, Option, None, Some}
use Rattle.std.specs.Fmt.{signed_decimal}
use Rattle.bf_moment.specs.Moment.{date_text, moment_text, time_text}
use Rattle.bf_words.specs.declared.context.JobContext.{JobContext}
use Rattle.bf_process.specs.Clocks.{date_digits}
use Rattle.bf_process.specs.declared.variable.Variable.{Variable}
use Rattle.bf_process.specs.declared.variable.Variable.TheVariants.{DagId, TaskId, Run, Date, DateNodash, IntervalStart, IntervalEnd, MapIndex, TryNumber, AirflowDagId, AirflowTaskId, AirflowExecutionDate, AirflowTryNumber}

abbrev pub variable_name : Variable → List ℕ
variable_name DagId = codes "BACKFILL_DAG_ID"
variable_name TaskId = codes "BACKFILL_TASK_ID"
variable_name Run = codes "BACKFILL_RUN"
variable_name Date = codes "BACKFILL_DATE"
variable_name DateNodash = codes "BACKFILL_DATE_NODASH"
variable_name IntervalStart = codes "BACKFILL_INTERVAL_START"
variable_name IntervalEnd = codes "BACKFILL_INTERVAL_END"
variable_name MapIndex = codes "BACKFILL_MAP_INDEX"
variable_name TryNumber = codes "BACKFILL_TRY_NUMBER"
variable_name AirflowDagId = codes "AIRFLOW_CTX_DAG_ID"
variable_name AirflowTaskId = codes "AIRFLOW_CTX_TASK_ID"
variable_name AirflowExecutionDate = codes "AIRFLOW_CTX_EXECUTION_DATE"
variable_name AirflowTryNumber = codes "AIRFLOW_CTX_TRY_NUMBER"

-- a moment as Airflow spells it: 2024-01-31T06:05:09+00:00
abbrev pub airflow_text : ℤ → List ℕ
airflow_text n = date_text n ++ 84 ∷ time_text n ++ codes "+00:00"

-- the dates are those of the clock
abbrev pub variable_value : JobContext → ℤ → Variable → List ℕ
variable_value try clock DagId = try.dag_id.now
variable_value try clock TaskId = try.task_id.now
variable_value try clock Run = moment_text try.data_interval_start.at.nanosecond
variable_value try clock Date = date_text clock
variable_value try clock DateNodash = date_digits clock
variable_value try clock IntervalStart = moment_text try.data_interval_start.at.nanosecond
variable_value try clock IntervalEnd = moment_text try.data_interval_end.at.nanosecond
variable_value try clock MapIndex = signed_decimal try.map_index
variable_value try clock TryNumber = decimal try.try_number
variable_value try clock AirflowDagId = try.dag_id.now
variable_value try clock AirflowTaskId = try.task_id.now
variable_value try clock AirflowExecutionDate = airflow_text try.data_interval_start.at.nanosecond
variable_value try clock AirflowTryNumber = decimal try.try_number

abbrev pub variables_of : List Variable
variables_of =
    DagId ∷ TaskId ∷ Run ∷ Date ∷ DateNodash ∷ IntervalStart ∷ IntervalEnd ∷ MapIndex ∷ TryNumber
    ∷ AirflowDagId ∷ AirflowTaskId ∷ AirflowExecutionDate ∷ AirflowTryNumber ∷ []

-- a name that is set to a value, or removed
abbrev pub Pair : Type 0
Pair = List ℕ × Option (List ℕ)

-- a name and its value, of each of these
abbrev pub pairs_of : JobContext → ℤ → List Variable → List Pair
pairs_of try clock some = map (λ v. (variable_name v, Some (variable_value try clock v))) some

-- the path of what the try was given; where that isn't written, no other try's path is handed on
abbrev pub given_pair : Option (List ℕ) → Pair
given_pair path = (codes "BACKFILL_GIVEN", path)

-- what is set and removed for a try, by what the clocks of the graph's zone show at its run's moment
unfoldable pub environment_of : JobContext → ℤ → Option (List ℕ) → List Pair
environment_of try clock given = pairs_of try clock variables_of ++ given_pair given ∷ []
