use Rattle.std.proofs.Common.{◌≡◌, map, take}
use Rattle.bf_explain.specs.Clearing.{root_place_of}
use Rattle.bf_explain.proofs.clearing.root_places.Given as goal

abbrev pub invariant-loop-root : goal.invariant-loop-root
invariant-loop-root l = l.places.items ≡ map root_place_of (take l.root-index (take 3 l.roots))
