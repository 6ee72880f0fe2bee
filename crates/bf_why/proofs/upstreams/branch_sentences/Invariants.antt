use Rattle.std.proofs.Common.{◌≡◌, take}
use Rattle.std.specs.List.{flat_map}
use Rattle.bf_why.specs.Decided.{branch_where}
use Rattle.bf_why.proofs.upstreams.branch_sentences.Given as goal

abbrev pub invariant-loop-upstream : goal.invariant-loop-upstream
invariant-loop-upstream l = l.lines.items ≡ flat_map (branch_where l.plan.dag l.settled l.task) (take l.upstream-index l.upstreams)
