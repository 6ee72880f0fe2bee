-- What came of the tasks of a run, and what is seen of it by those that look at them.
use Rattle.std.specs.Prelude.{◌≤◌, length}
use Rattle.bf_try.specs.Grades.{most_items}
use Rattle.bf_core.specs.Terms.{TaskValue}

abbrev pub IsFewValue : TaskValue → Type 0
IsFewValue (TaskValue.Ran results) = length results ≤ most_items
IsFewValue _ = Unit {0}
