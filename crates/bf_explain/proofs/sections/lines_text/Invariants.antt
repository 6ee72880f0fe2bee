use Rattle.std.proofs.Common.{◌≡◌, string_bytes, take}
use Rattle.bf_explain.specs.Sections.{lines_text_of}
use Rattle.bf_explain.proofs.sections.lines_text.Given as goal

abbrev pub invariant-loop-line : goal.invariant-loop-line
invariant-loop-line l = string_bytes l.text ≡ lines_text_of (take l.line-index l.lines)
