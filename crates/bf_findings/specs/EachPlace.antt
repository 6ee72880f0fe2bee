-- Where something stands in a document.
use Rattle.std.specs.Prelude.{◌≡◌, false, IsSome, option_and_then}
use Rattle.serde_json.specs.Data.{Data}
use Rattle.serde_json.specs.Find.{get, as_object}
use Rattle.bf_read.specs.Keys.{is_graph_key_in, is_task_key_in}
use Rattle.bf_findings.specs.declared.place.DocumentPlace.{DocumentPlace}
use Rattle.bf_findings.specs.declared.place.DocumentPlace.TheVariants as place
use Rattle.bf_findings.specs.Places.{value_in, task_value}

-- something stands at the place, or at the object that has its key
abbrev pub IsPlace : Data → DocumentPlace → Type 0
IsPlace d place.Top = Unit {0}
IsPlace d (place.Key key) = IsSome (as_object d)
IsPlace d (place.OtherKey key) = (is_graph_key_in key ≡ false) × IsSome (get key d)
IsPlace d (place.TaskKey n key) = IsSome (option_and_then as_object (task_value d n))
IsPlace d (place.OtherTaskKey n key) =
    (is_task_key_in key ≡ false) × IsSome (option_and_then (get key) (task_value d n))
IsPlace d other = IsSome (value_in d other)
