use Rattle.std.proofs.Common.{◌≡◌, string_bytes, take}
use Rattle.bf_program.specs.Explained.{findings_text}
use Rattle.bf_program.proofs.explaining.text_of_findings.Given as goal

abbrev pub invariant-loop-finding : goal.invariant-loop-finding
invariant-loop-finding l = string_bytes l.text ≡ findings_text (take l.finding-index l.found)
