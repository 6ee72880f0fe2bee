use Rattle.std.proofs.Common.{arith}
use Rattle.bf_rescan.proofs.Firsts.{closed_there}
use Rattle.bf_rescan.proofs.steps.first_closable_run.Goals as goal

pub returns-clause-none : goal.returns-clause-none
returns-clause-none c = λ j able.
    let there : _ = closed_there c.args.core.now j able in
    c.loop-run.invariant j (omega (arith, there, c.loop-run-test.false, c.run_count-run-end.ensures.runs)) able
