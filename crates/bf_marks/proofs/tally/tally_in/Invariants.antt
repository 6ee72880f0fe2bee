use Rattle.std.proofs.Common.{◌≡◌, map, take}
use Rattle.bf_marks.specs.Tallies.{runs_tally}
use Rattle.bf_marks.proofs.tally.tally_in.Given as goal

abbrev pub invariant-loop-run : goal.invariant-loop-run
invariant-loop-run l = l.tally ≡ runs_tally l.task (map (λ run. run.now) (take l.run-index l.runs))
