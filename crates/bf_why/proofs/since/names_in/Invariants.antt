use Rattle.std.proofs.Common.{◌≡◌, take}
use Rattle.std.specs.List.{flat_map}
use Rattle.bf_why.specs.Since.{name_where}
use Rattle.bf_why.proofs.since.names_in.Given as goal

abbrev pub invariant-loop-upstream : goal.invariant-loop-upstream
invariant-loop-upstream l = l.names.items ≡ flat_map (name_where l.dag l.settled l.states) (take l.upstream-index l.upstreams)
