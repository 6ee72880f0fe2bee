use Rattle.std.proofs.Common.{◌≡◌, ◌+◌, drop, reverse}
use Rattle.bf_findings.specs.Nearest.{shared}
use Rattle.bf_findings.proofs.common.shared_end.Given as goal

abbrev pub invariant-loop-count : goal.invariant-loop-count
invariant-loop-count l = shared (reverse l.text) (reverse l.name) ≡ l.count + shared (drop l.count (reverse l.text)) (drop l.count (reverse l.name))
