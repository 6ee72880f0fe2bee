use Rattle.std.proofs.Common.{◌≡◌, map, take}
use Rattle.bf_core.specs.Deciding.{pull_seen}
use Rattle.bf_core.specs.Events.{cell_at, seen_in}
use Rattle.bf_core.proofs.pulls.pull_all.Given as goal

-- what was pulled so far
abbrev pub invariant-loop-source : goal.invariant-loop-source
invariant-loop-source l = l.values.items ≡ map (pull_seen l.dag (λ u. seen_in (cell_at l.state l.run u))) (take l.source-index l.sources)
