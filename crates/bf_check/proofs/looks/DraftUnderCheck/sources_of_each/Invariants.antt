use Rattle.std.proofs.Common.{◌≡◌, map, take}
use Rattle.bf_check.specs.inner.Looks.{source_found}
use Rattle.bf_check.proofs.looks.DraftUnderCheck.sources_of_each.Given as goal

abbrev pub invariant-loop-t : goal.invariant-loop-t
invariant-loop-t l = l.found.items ≡ map (source_found l.self.ids.now) (take l.t l.self.draft.now.tasks)
