-- Heaps of what waits, and their orders.
use Rattle.std.specs.Prelude.{ℕ, List}
use Rattle.std.specs.Ordering.{nat_cmp, int_cmp, then_cmp, on}
use Rattle.std.specs.declared.cmp.Ordering.{Ordering}
use Rattle.std.specs.declared.cmp.Reverse.{Reverse}
use Rattle.bf_waiting.specs.declared.batches.Batch.{Batch}
use Rattle.bf_waiting.specs.declared.delays.Delay.{Delay}

-- what a heap holds, and how many there is room for
pub record Heap (X : Type 0) : Type 0 where
  pub items : List X
  pub room : ℕ

abbrev pub later_cmp : Reverse ℕ → Reverse ℕ → Ordering
later_cmp one other = nat_cmp other.0 one.0

abbrev pub batch_cmp : Batch → Batch → Ordering
batch_cmp =
    then_cmp (on (λ batch. batch.weight) nat_cmp)
    (then_cmp (on (λ batch. batch.run) later_cmp)
    (then_cmp (on (λ batch. batch.task) later_cmp)
    (then_cmp (on (λ batch. batch.first) later_cmp) (on (λ batch. batch.last) nat_cmp))))

abbrev pub delay_cmp : Delay → Delay → Ordering
delay_cmp =
    then_cmp (on (λ delay. delay.moment) (λ one other. int_cmp other.0 one.0))
    (then_cmp (on (λ delay. delay.run) nat_cmp)
    (then_cmp (on (λ delay. delay.task) nat_cmp) (on (λ delay. delay.place) nat_cmp)))
