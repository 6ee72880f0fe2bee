-- What stands at a place, as it is told.
use Rattle.std.specs.Prelude.{ℕ, List, ◌++◌, ◌&&◌, codes, Bool, not, if◌then◌else◌, is_some, option_and_then}
use Rattle.serde_json.specs.Data.{Data, string}
use Rattle.serde_json.specs.Find.{as_number, as_i64, as_array, as_object}
use Rattle.serde_json.specs.Written.{compact_text}
use Rattle.bf_wording.specs.Values.{cut}
use Rattle.bf_findings.specs.declared.place.DocumentPlace.{DocumentPlace}
use Rattle.bf_findings.specs.declared.place.DocumentPlace.TheVariants as place

-- a number, but no whole one of 64 bits with their sign
abbrev pub is_no_whole_number_in : Data → Bool
is_no_whole_number_in d =
    is_some (as_number d) && not (is_some (option_and_then as_i64 (as_number d)))

-- a value as JSON, cut where it is long, or what it is
abbrev pub shown_value_of : Data → List ℕ
shown_value_of d =
    if is_some (as_array d) then codes "a list"
    else (if is_some (as_object d) then codes "an object"
    else (if is_no_whole_number_in d then codes "a number that isn't whole"
    else cut 200 (compact_text d)))

-- what stands at a place: of what has no meaning the key, of a pool its name and its slots
abbrev pub shown_in : DocumentPlace → Data → List ℕ
shown_in (place.OtherKey key) d = codes "unknown key " ++ cut 200 (compact_text (string key))
shown_in (place.OtherTaskKey n key) d = codes "unknown key " ++ cut 200 (compact_text (string key))
shown_in (place.Pool name) d =
    cut 200 (compact_text (string name)) ++ codes ": " ++ shown_value_of d
shown_in _ d = shown_value_of d
