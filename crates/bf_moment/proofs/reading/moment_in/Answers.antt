use Rattle.jiff_core.specs.DateTime.{civil_nanos}
use Rattle.bf_moment.proofs.ClockFacts.{clock_of, spells_clock, spells_moment}
use Rattle.bf_moment.proofs.reading.moment_in.Goals as goal

pub returns-in_err-at-clause-none : goal.returns-in_err-at-clause-none
returns-in_err-at-clause-none c =
    rw c.from_residual.ensures (λ n spells. let clock = clock_of n spells.shown in c.in_err-at.ensures.none clock.0 (spells_clock _ _ clock.0 n c.as_bytes.ensures.value clock.1 spells))

pub returns-clause-found : goal.returns-clause-found
returns-clause-found c = (civil_nanos c.in_ok-at.at, (spells_moment _ _ c.in_ok-at.at c.as_bytes.ensures.value c.in_ok-at.ensures.found, c.moment_of.ensures))
