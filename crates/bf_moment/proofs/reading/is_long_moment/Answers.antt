use Rattle.std.proofs.Common.{◌≡◌, ◌==◌, ◌∙◌, length, inl, inr}
use Rattle.std.proofs.lemmas.Bool.Decides.{eqb_tells}
use Rattle.bf_moment.specs.Long.{is_long}
use Rattle.bf_moment.proofs.LongFacts.{long_is_clock, not_long}
use Rattle.bf_moment.proofs.reading.is_long_moment.Goals as goal

pub returns-else-text-eq20 : goal.returns-else-text-eq20
returns-else-text-eq20 c = elim (eqb_tells (length c.args.text.now) 20) as (λ _. (length c.args.text.now == 20) ≡ is_long c.args.text.now) [
  | inl e ↦ absurd (c.if-text-eq20.false e.1)
  | inr n ↦ n.0 ∙ not_long c.args.text.now n.1
]

pub returns-then-text-eq20 : goal.returns-then-text-eq20
returns-then-text-eq20 c = c.is_some.ensures ∙ long_is_clock c.clock_in.result _ c.args.text.now c.as_bytes.ensures.value c.if-text-eq20.true c.clock_in.ensures.found c.clock_in.ensures.none
