use Rattle.std.proofs.Common.{arith, rules}
use Rattle.std.proofs.lemmas.Int.{ints}
use Rattle.std.proofs.lemmas.Result.{IfOk-weaker}
use Rattle.bf_interval.proofs.Collecting.{collects_none, collects_one, collects_skip}
use Rattle.bf_interval.proofs.Skipping.{minute_skipped}
use Rattle.bf_interval.proofs.fires.push_fire_of_minute.Goals as goal

pub returns-then-not-has_minute-clause-ok : goal.returns-then-not-has_minute-clause-ok
returns-then-not-has_minute-clause-ok c = λ low above before.
    collects_skip c.args.spec.now _ low c.args.minute _ _ _ (omega arith)
    (λ m at after until. minute_skipped c.args.spec.now c.args.minute m at (search rules) after until) before

pub returns-then-not-matches-clause-ok : goal.returns-then-not-matches-clause-ok
returns-then-not-matches-clause-ok c = λ low above before.
    collects_none c.args.spec.now _ low c.args.minute _ _ c.civil_minute-at.result c.civil_minute-at.ensures (λ fits k after e. let same = c.matches.ensures.value in cc) before

pub returns-in-Some-clause-ok : goal.returns-in-Some-clause-ok
returns-in-Some-clause-ok c =
    IfOk-weaker c.insert_in_order.result _ _ (λ _ adds. λ low above before.
    collects_one c.args.spec.now _ low c.args.minute _ _ _ c.civil_minute-at.result c.in-Some.second c.requires.minute above c.civil_minute-at.ensures (let same = c.matches.ensures.value in cc) (omega arith) c.in-Some.ensures adds before)
    c.insert_in_order.ensures.ok

pub returns-in_default-clause-ok : goal.returns-in_default-clause-ok
returns-in_default-clause-ok c = λ low above before.
    collects_none c.args.spec.now _ low c.args.minute _ _ c.civil_minute-at.result c.civil_minute-at.ensures (λ fits k after e. omega (arith, ints, c.in-Some.ensures)) before

pub returns-in_default-2-clause-ok : goal.returns-in_default-2-clause-ok
returns-in_default-2-clause-ok c = λ low above before.
    collects_none c.args.spec.now _ low c.args.minute _ _ c.civil_minute-at.result c.civil_minute-at.ensures (λ fits k after e. omega (arith, ints, c.in_default.ensures)) before
