use Rattle.std.proofs.Common.{arith, inr, rules}
use Rattle.bf_report_reader.proofs.HeldFacts.{keeps_consumes}
use Rattle.bf_report_reader.proofs.held.ReadBuffer.fill.Goals as goal

pub returns-then-self-eq-MOST_INTERRUPTIONS-clause-halted : goal.returns-then-self-eq-MOST_INTERRUPTIONS-clause-halted
returns-then-self-eq-MOST_INTERRUPTIONS-clause-halted g c = λ base failed t.
    let before = c.loop-count.invariant.2 base failed t in
    let again = rw c.in-Err-Again.field-0-is at c.in-Err-Again.ensures.interruptions in
    inr (omega (arith, before.0, again, c.if-self-eq-MOST_INTERRUPTIONS.true))

pub loop-count-preserved : goal.loop-count-preserved
loop-count-preserved g c =
    let again = rw c.in-Err-Again.field-0-is at c.in-Err-Again.ensures.interruptions in
    let failed_not = rw c.in-Err-Again.field-0-is at c.in-Err-Again.ensures.failures in (
      c.loop-count.invariant.0,
      keeps_consumes _ _ _ c.loop-count.invariant.1 c.in-Err-Again.ensures.bytes,
      λ base failed t. let before = c.loop-count.invariant.2 base failed t in (omega (arith, before.0, again), omega (arith, before.1, failed_not)),
    )

pub returns-in-Ok-clause-more : goal.returns-in-Ok-clause-more
returns-in-Ok-clause-more g c = (λ _. omega (arith, c.in-Ok.count-test.1), λ _. search rules)

pub returns-in-Ok-clause-tallied : goal.returns-in-Ok-clause-tallied
returns-in-Ok-clause-tallied g c = λ base failed t.
    let before = c.loop-count.invariant.2 base failed t in
    let interruptions = c.in-Ok.ensures.interruptions in
    let failures = c.in-Ok.ensures.failures in
    (omega (arith, before.0, interruptions), omega (arith, before.1, failures))
