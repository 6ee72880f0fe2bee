use Rattle.std.proofs.Common.{◌≡◌, string_bytes, take}
use Rattle.std.specs.List.{flat_map}
use Rattle.bf_commands.specs.Planned.{cleared_line}
use Rattle.bf_commands.proofs.clear_plan.lines_of.Given as goal

abbrev pub invariant-loop-one : goal.invariant-loop-one
invariant-loop-one l = string_bytes l.text ≡ flat_map cleared_line (take l.one-index l.cleared)
