use Rattle.std.proofs.Common.{arith}
use Rattle.bf_waiting.proofs.FillFacts.{filled_all}
use Rattle.bf_waiting.proofs.waiting.Waiting.fill.Goals as goal

pub returns : goal.returns
returns c = filled_all c.args.core.now c.loop-run.self c.loop-run.run c.journal-replayed.ensures.replayed (omega (arith, c.loop-run-test.false, c.run_count-run-end.ensures.runs)) c.loop-run.invariant
