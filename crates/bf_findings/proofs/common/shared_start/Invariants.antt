use Rattle.std.proofs.Common.{◌≡◌, ◌+◌, drop}
use Rattle.bf_findings.specs.Nearest.{shared}
use Rattle.bf_findings.proofs.common.shared_start.Given as goal

abbrev pub invariant-loop-count : goal.invariant-loop-count
invariant-loop-count l = shared l.text l.name ≡ l.count + shared (drop l.count l.text) (drop l.count l.name)
