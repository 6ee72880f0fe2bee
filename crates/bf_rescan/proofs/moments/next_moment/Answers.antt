use Rattle.std.proofs.Common.{arith}
use Rattle.bf_core.proofs.Kept.{replay_rows}
use Rattle.bf_rescan.proofs.Soonest.{all_passed}
use Rattle.bf_rescan.proofs.moments.next_moment.Goals as goal

pub returns : goal.returns
returns c = all_passed c.args.core.now (replay_rows _ c.journal-replayed.ensures.replayed) c.loop-run.run (omega (arith, c.loop-run-test.false, c.run_count-run-end.ensures.runs)) c.loop-run.soonest c.loop-run.invariant
