use Rattle.std.proofs.Common.{◌≡◌, ◌++◌, codes, string_bytes, take}
use Rattle.std.specs.List.{flat_map}
use Rattle.bf_explain.specs.Variables.{setting_of}
use Rattle.bf_explain.proofs.variables.push_settings.Given as goal

abbrev pub invariant-loop-variable : goal.invariant-loop-variable
invariant-loop-variable l = string_bytes l.line ≡ (string_bytes l.fn.line ++ codes "env ") ++ flat_map (setting_of l.context l.clock.at.nanosecond) (take l.variable-index l.named)
