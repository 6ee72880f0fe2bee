-- What a task pushed, what a pull from it gives, and the items that it gives an expansion.
use Rattle.std.specs.Prelude.{if◌then◌else◌, List, [], ◌∷◌, Option, None, Some, is_some, map}
use Rattle.std.specs.List.{filter_map}
use Rattle.bf_value.specs.Views.{list_of}
use Rattle.bf_value.specs.declared.xval.Xval.{Xval}
use Rattle.bf_plan.specs.declared.plan.Task.{Task}
use Rattle.bf_mapped.specs.Items.{items_of}
use Rattle.bf_mapped.specs.declared.source.Items.{Items}
use Rattle.bf_mapped.specs.declared.source.SourceValues.{SourceValues}
use Rattle.bf_xcom.specs.declared.values.Outcome.{Outcome}
use Rattle.bf_xcom.specs.declared.values.Outcome.TheVariants.{Success, Failed, Skipped}
use Rattle.bf_xcom.specs.declared.values.TaskResult.{TaskResult}
use Rattle.bf_xcom.specs.declared.values.TaskValue.{TaskValue}
use Rattle.bf_xcom.specs.declared.values.TaskValue.TheVariants.{Ran}

abbrev pub pushed_by : Outcome → Option Xval
pushed_by (Success value) = value
pushed_by Failed = None
pushed_by Skipped = None

abbrev pub pushed_value_of : TaskResult → Option Xval
pushed_value_of result = pushed_by result.outcome

-- the value that an unmapped task pushed
abbrev pub only_pushed_value_in : List TaskResult → Option Xval
only_pushed_value_in [] = None
only_pushed_value_in (result ∷ rest) = pushed_value_of result

-- the values that the instances of a task pushed, in index order
abbrev pub pushed_values_in : List TaskResult → List Xval
pushed_values_in results = filter_map pushed_value_of results

-- what a pull from a task gives
abbrev pub pull_of : Task → TaskValue → Option Xval
pull_of source (Ran results) =
    if is_some source.expand then Some (list_of (pushed_values_in results))
    else only_pushed_value_in results
pull_of source _ = None

-- what a source has for the task that is expanded over it
abbrev pub source_values : Task → TaskValue → SourceValues
source_values source (Ran results) =
    if is_some source.expand then SourceValues.Each (map pushed_value_of results)
    else SourceValues.Pushed (only_pushed_value_in results)
source_values source _ = SourceValues.Absent

-- the items of an expansion, which may be missing
abbrev pub items : Task → TaskValue → Items
items source value = items_of (source_values source value)
