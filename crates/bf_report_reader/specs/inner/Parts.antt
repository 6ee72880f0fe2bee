-- What the lines behind that of an instance tell of what its tries were given.
use Rattle.std.specs.Prelude.{ℕ, List, ◌∷◌, ◌++◌, codes}
use Rattle.bf_value.specs.Json.{json_of}
use Rattle.bf_report.specs.declared.report.Pull.{Pull}
use Rattle.bf_report.specs.Report.{pulled_word}
use Rattle.bf_report_reader.specs.declared.part.GivenPart.{GivenPart}
use Rattle.bf_report_reader.specs.Parts.{IsToldItem, IsToldPull}

abbrev pub IsPart : GivenPart → Type 0
IsPart (GivenPart.Item item) = IsToldItem item
IsPart (GivenPart.Pull pull) = IsToldPull pull

-- the task's id and what was pulled from it, separated by one space
abbrev pub pull_words : Pull → List ℕ
pull_words pull = pull.task ++ 32 ∷ pulled_word pull.value

abbrev pub part_text : GivenPart → List ℕ
part_text (GivenPart.Item item) = codes "@item" ++ 32 ∷ json_of item
part_text (GivenPart.Pull pull) = codes "@pull" ++ 32 ∷ pull_words pull
