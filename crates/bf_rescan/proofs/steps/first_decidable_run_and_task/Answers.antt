use Rattle.std.proofs.Common.{arith}
use Rattle.bf_rescan.proofs.Firsts.{decided_there}
use Rattle.bf_rescan.proofs.steps.first_decidable_run_and_task.Goals as goal

pub returns-clause-none : goal.returns-clause-none
returns-clause-none c = λ k u able.
    let at : _ = decided_there c.args.core.now c.args.expands k u able in
    c.loop-run.invariant k u (omega (arith, at.0, c.loop-run-test.false, c.run_count-run-end.ensures.runs)) able
