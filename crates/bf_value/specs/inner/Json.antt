-- Values as JSON, by serde_json's data.
use Rattle.std.specs.Prelude.{ℕ, List}
use Rattle.serde_json.specs.Written.{compact_text}
use Rattle.bf_value.specs.Plain.{list, Plains}
use Rattle.bf_value.specs.Json.{data_of}

-- the same of a list
abbrev pub list_text : Plains → List ℕ
list_text ps = compact_text (data_of (list ps))
