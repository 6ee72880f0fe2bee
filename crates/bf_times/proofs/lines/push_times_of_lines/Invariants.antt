use Rattle.std.proofs.Common.{◌≡◌, ◌++◌, map, string_bytes, take}
use Rattle.std.specs.List.{flat_map}
use Rattle.bf_times.specs.Times.{line_times}
use Rattle.bf_times.proofs.lines.push_times_of_lines.Given as goal

abbrev pub invariant-loop-line : goal.invariant-loop-line
invariant-loop-line l = string_bytes l.text ≡ string_bytes l.fn.text ++ flat_map line_times (map (λ line. line.now) (take l.line-index l.lines))
