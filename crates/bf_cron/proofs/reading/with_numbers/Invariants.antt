use Rattle.std.proofs.Common.{◌≡◌, ◌==◌, ℕ, ◌<◌, ◌-◌, ◌%◌, ◌&&◌, nat_le, nat_lt, if◌then◌else◌}
use Rattle.std.specs.Int.{bit_at}
use Rattle.bf_cron.proofs.reading.with_numbers.Given as goal

abbrev pub invariant-loop-number : goal.invariant-loop-number
invariant-loop-number l = (k : ℕ) → k < 64 →
    bit_at l.all k ≡ (if nat_le l.item.low k && nat_lt k l.number && ((k - l.item.low) % l.item.step == 0) then 1 else bit_at l.word k)
