use Rattle.std.proofs.Common.{rules, ◌∷◌, ◌≤ℤ◌, arith, to_z, of_z, w64}
use Rattle.std.specs.List.Sorted.{IsPermutation}
use Rattle.std.proofs.lemmas.Int.{ints, to_z-of_z}
use Rattle.bf_waiting.proofs.HeapFacts.{released_more, that_one}
use Rattle.bf_waiting.proofs.class.batch_due_delays.Goals as goal

pub returns-then-now-delay-clause-later : goal.returns-then-now-delay-clause-later
returns-then-now-delay-clause-later c = λ d h. omega (arith, ints, c.if-now-delay.true, (c.in-Some.ensures {u = tt}).first d h)

pub loop-delay-preserved : goal.loop-delay-preserved
loop-delay-preserved c =
    let come : c.in-Some.delay.moment.0 ≤ℤ to_z w64 (of_z w64 c.args.now) = rw (to_z-of_z w64 c.args.now c.ranges.now) (omega (arith, ints, c.if-now-delay.false)) in
    let lost : IsPermutation c.loop-delay.delays.items (c.in-Some.delay ∷ c.take_first.new.self.items) =
    that_one (λ x. IsPermutation c.loop-delay.delays.items (x ∷ c.take_first.new.self.items)) c.take_first.result _ c.in-Some.delay c.take_first.ensures.top (c.in-Some.ensures {u = tt}).top c.take_first.ensures.lost in
    record {
      roomy = search rules;
      released = released_more _ _ _ _ _ _ _ _ c.in-Some.delay c.loop-delay.invariant.released come lost (rw (← c.batch_of_one.ensures) c.add.ensures.gained);
    }
