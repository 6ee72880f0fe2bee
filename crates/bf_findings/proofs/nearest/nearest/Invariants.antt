use Rattle.std.proofs.Common.{◌≡◌, ℕ, List, map, take}
use Rattle.std.specs.Str.{chars}
use Rattle.bf_findings.specs.Nearest.{lowered}
use Rattle.bf_findings.specs.inner.Nearest.{IsBest}
use Rattle.bf_findings.proofs.nearest.nearest.Given as goal

abbrev pub invariant-loop-name : goal.invariant-loop-name
invariant-loop-name l = (text : List ℕ) → l.characters ≡ chars (lowered text) → IsBest text (map (λ s. s.now) (take l.name-index l.names)) l.best
