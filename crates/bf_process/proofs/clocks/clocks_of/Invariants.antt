use Rattle.std.proofs.Common.{◌≡◌, map, take}
use Rattle.jiff.specs.Words.{plain_zone}
use Rattle.bf_process.specs.Clocks.{clock_in}
use Rattle.bf_process.proofs.clocks.clocks_of.Given as goal

abbrev pub invariant-loop-run : goal.invariant-loop-run
invariant-loop-run l = map (λ clock. clock.at.nanosecond) l.clocks.items ≡ map (λ run. clock_in (plain_zone l.zone) run.start.nanosecond) (take l.run-index l.intervals)
