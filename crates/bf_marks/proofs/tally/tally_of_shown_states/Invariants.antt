use Rattle.std.proofs.Common.{◌≡◌, map, take}
use Rattle.bf_marks.specs.Tallies.{states_tally}
use Rattle.bf_marks.proofs.tally.tally_of_shown_states.Given as goal

abbrev pub invariant-loop-run : goal.invariant-loop-run
invariant-loop-run l = l.tally ≡ states_tally (map (λ run. run.now) (take l.run-index l.runs))
