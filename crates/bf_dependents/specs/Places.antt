-- The order of places: by run, task and map index.
use Rattle.std.proofs.Common.{Ordering}
use Rattle.std.specs.Option.{option_cmp}
use Rattle.std.specs.Ordering.{nat_cmp, int_cmp, then_cmp, on}
use Rattle.bf_dependents.specs.declared.place.Place.{Place}

abbrev pub place_cmp : Place → Place → Ordering
place_cmp =
    then_cmp (on (λ p. p.run) nat_cmp)
    (then_cmp (on (λ p. p.task) nat_cmp) (on (λ p. p.index) (option_cmp int_cmp)))
