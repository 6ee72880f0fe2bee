use Rattle.std.proofs.Common.{arith}
use Rattle.bf_cron.proofs.Words.{bit_taken, bit_skipped, bit_all}
use Rattle.bf_cron.proofs.reading.with_numbers.Goals as goal
use Rattle.bf_cron.proofs.reading.with_numbers.Goals.{then-number-item-eq0, else-number-item-eq0}

pub loop-number-preserved : goal.loop-number-preserved
loop-number-preserved c = λ k h.
    elim c.if-number-item-eq0.branch [
      | then-number-item-eq0 w ↦ rw w.all-is (bit_taken c.args.item.low c.args.item.step c.loop-number.number c.loop-number.all c.args.word k (omega arith) (omega arith) w.if-number-item-eq0.true h (c.loop-number.invariant k h))
      | else-number-item-eq0 w ↦ rw w.all-is (bit_skipped c.args.item.low c.args.item.step c.loop-number.number c.loop-number.all c.args.word k w.if-number-item-eq0.false (c.loop-number.invariant k h))
    ]

pub returns : goal.returns
returns c = λ k h. bit_all c.args.item.low c.args.item.high c.args.item.step c.loop-number.number c.loop-number.all c.args.word k (omega arith) (c.loop-number.invariant k h)
