use Rattle.std.proofs.Common.{map, take}
use Rattle.bf_seeds.specs.Seeds.{ArePlaces}
use Rattle.bf_seeds.proofs.reading.places_of_lines.Given as goal

abbrev pub invariant-loop-line : goal.invariant-loop-line
invariant-loop-line l = ArePlaces l.plan.dag l.intervals (take l.line-index (map (λ s. s.now) l.lines)) l.places.items
