use Rattle.std.proofs.Common.{rules, ℕ, ◌∷◌, ◌<◌, ◌≤◌, refl}
use Rattle.std.specs.List.Sorted.{IsPermutation}
use Rattle.bf_waiting.specs.Standings.{IsReadyAt}
use Rattle.bf_waiting.proofs.HeapFacts.{that_one}
use Rattle.bf_waiting.proofs.Passing.{advanced, dropped, fewer_advanced, fewer_dropped, found_none, not_first}
use Rattle.bf_waiting.proofs.class.pass_over_unready.Goals as goal

pub loop-batch-smaller-in-Some-ready : goal.loop-batch-smaller-in-Some-ready
loop-batch-smaller-in-Some-ready c =
    let lost : IsPermutation c.loop-batch.batches.items (c.in-Some.batch ∷ c.take_first.new.self.items) =
    that_one (λ x. IsPermutation c.loop-batch.batches.items (x ∷ c.take_first.new.self.items)) c.take_first.result _ c.in-Some.batch c.take_first.ensures.top (c.in-Some.ensures {u = tt}).top c.take_first.ensures.lost in
    let within : (c.in-Some.batch.first.0 ≤ c.in-Some-ready.place) × (c.in-Some-ready.place ≤ c.in-Some.batch.last) =
    that_one (λ i. (c.in-Some.batch.first.0 ≤ i) × (i ≤ c.in-Some.batch.last)) c.first_ready-ready.result _ c.in-Some-ready.place c.in-Some-ready.is refl c.first_ready-ready.ensures.within in
    let later : c.in-Some.batch.first.0 < c.in-Some-ready.place = not_first c.first_ready-ready.result _ _ (c.if-eq.ensures {u = tt}) c.in-Some-ready.is within.0 in
    fewer_advanced c.in-Some.batch c.in-Some-ready.place c.loop-batch.batches.items c.take_first.new.self.items c.add.new.self.items lost c.add.ensures.gained later within.1

pub loop-batch-preserved-in-Some-ready : goal.loop-batch-preserved-in-Some-ready
loop-batch-preserved-in-Some-ready c =
    let lost : IsPermutation c.loop-batch.batches.items (c.in-Some.batch ∷ c.take_first.new.self.items) =
    that_one (λ x. IsPermutation c.loop-batch.batches.items (x ∷ c.take_first.new.self.items)) c.take_first.result _ c.in-Some.batch c.take_first.ensures.top (c.in-Some.ensures {u = tt}).top c.take_first.ensures.lost in
    let within : (c.in-Some.batch.first.0 ≤ c.in-Some-ready.place) × (c.in-Some-ready.place ≤ c.in-Some.batch.last) =
    that_one (λ i. (c.in-Some.batch.first.0 ≤ i) × (i ≤ c.in-Some.batch.last)) c.first_ready-ready.result _ c.in-Some-ready.place c.in-Some-ready.is refl c.first_ready-ready.ensures.within in
    let first : (j : ℕ) → c.in-Some.batch.first.0 ≤ j → IsReadyAt c.args.core.now c.in-Some.batch.run.0 c.in-Some.batch.task.0 j → c.in-Some-ready.place ≤ j =
    that_one (λ i. (j : ℕ) → c.in-Some.batch.first.0 ≤ j → IsReadyAt c.args.core.now c.in-Some.batch.run.0 c.in-Some.batch.task.0 j → i ≤ j) c.first_ready-ready.result _ c.in-Some-ready.place c.in-Some-ready.is refl c.first_ready-ready.ensures.first in
    record {
      passed = advanced c.args.core.now c.args.batches.now.items c.loop-batch.batches.items c.loop-batch.invariant.passed c.in-Some.batch c.take_first.new.self.items c.add.new.self.items c.in-Some-ready.place lost c.add.ensures.gained within.0 first;
      fewer = search rules;
      room = search rules;
    }

pub loop-batch-smaller : goal.loop-batch-smaller
loop-batch-smaller c =
    let lost : IsPermutation c.loop-batch.batches.items (c.in-Some.batch ∷ c.take_first.new.self.items) =
    that_one (λ x. IsPermutation c.loop-batch.batches.items (x ∷ c.take_first.new.self.items)) c.take_first.result _ c.in-Some.batch c.take_first.ensures.top (c.in-Some.ensures {u = tt}).top c.take_first.ensures.lost in
    fewer_dropped c.in-Some.batch c.loop-batch.batches.items c.take_first.new.self.items lost

pub loop-batch-preserved : goal.loop-batch-preserved
loop-batch-preserved c =
    let lost : IsPermutation c.loop-batch.batches.items (c.in-Some.batch ∷ c.take_first.new.self.items) =
    that_one (λ x. IsPermutation c.loop-batch.batches.items (x ∷ c.take_first.new.self.items)) c.take_first.result _ c.in-Some.batch c.take_first.ensures.top (c.in-Some.ensures {u = tt}).top c.take_first.ensures.lost in
    record {
      passed = dropped c.args.core.now c.args.batches.now.items c.loop-batch.batches.items c.loop-batch.invariant.passed c.in-Some.batch c.take_first.new.self.items lost (found_none c.first_ready-ready.result _ c.in_default-ready.not-Some c.first_ready-ready.ensures.none);
      fewer = search rules;
      room = search rules;
    }
