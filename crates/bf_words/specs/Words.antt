-- What the words of a command are for one try.
use Rattle.std.specs.Prelude.{ℕ, List, [], map, Option, None, Some, decimal, slice_index_or}
use Rattle.std.specs.Fmt.{signed_decimal}
use Rattle.bf_value.specs.Json.{json_of}
use Rattle.bf_value.specs.declared.xval.Xval.{Xval}
use Rattle.bf_value.specs.declared.xval.Xval.TheVariants.{Text}
use Rattle.bf_plan.specs.declared.kinds.ContextVariable.{ContextVariable}
use Rattle.bf_plan.specs.declared.kinds.ContextVariable.TheVariants.{LogicalDate, DataIntervalStart, DataIntervalEnd, DagId, TaskId, MapIndex, TryNumber}
use Rattle.bf_moment.specs.Moment.{moment_text}
use Rattle.bf_plan.specs.declared.plan.Word.{Word}
use Rattle.bf_words.specs.declared.context.JobContext.{JobContext}
use Rattle.bf_xcom.specs.declared.values.Given.{Given}

-- a text goes in as it is, any other value as compact JSON
abbrev pub value_word_of : Xval → List ℕ
value_word_of (Text text) = text
value_word_of value = json_of value

-- nothing is an empty word
abbrev pub pushed_word_of : Option Xval → List ℕ
pushed_word_of None = []
pushed_word_of (Some value) = value_word_of value

-- a run's logical date is the start of its data interval
abbrev pub context_word_of : ContextVariable → JobContext → List ℕ
context_word_of LogicalDate try = moment_text try.data_interval_start.at.nanosecond
context_word_of DataIntervalStart try = moment_text try.data_interval_start.at.nanosecond
context_word_of DataIntervalEnd try = moment_text try.data_interval_end.at.nanosecond
context_word_of DagId try = try.dag_id.now
context_word_of TaskId try = try.task_id.now
context_word_of MapIndex try = signed_decimal try.map_index
context_word_of TryNumber try = decimal try.try_number

-- the word of a try for a word of the command
abbrev pub word_of : JobContext → Given → Word → List ℕ
word_of try given (Word.Text text) = text
word_of try given (Word.Context variable) = context_word_of variable try
word_of try given (Word.Pull place) = pushed_word_of (slice_index_or given.pulled place None)
word_of try given Word.Item = pushed_word_of given.item

abbrev pub words_of : JobContext → Given → List Word → List (List ℕ)
words_of try given command = map (word_of try given) command
