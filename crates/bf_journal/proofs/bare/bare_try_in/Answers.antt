use Rattle.std.proofs.Common.{sym, subst}
use Rattle.bf_xcom.specs.declared.values.Given.{Given}
use Rattle.bf_journal.specs.Tells.{TellsLine}
use Rattle.bf_journal.proofs.Pieces.{bare_tells}
use Rattle.bf_journal.proofs.bare.bare_try_in.Goals as goal

pub returns : goal.returns
returns c =
    let name = c.in_ok-name.name in
    let outcome = c.in_ok-outcome.outcome in
    subst (λ (given : Given). TellsLine c.args.plan.now.dag c.args.runs.now c.args.line.now name (record { given = given; outcome = outcome }))
    (sym c.nothing-given.ensures)
    (bare_tells c.args.plan.now.dag c.args.runs.now c.args.line.now c.in_ok-name.fields.now c.in_ok-outcome.stamp.now name outcome
    c.in_ok-_numbers._numbers.0 c.in_ok-_numbers._numbers.1 c.in_ok-_numbers._numbers.2
    c.in_ok-name.ensures c.in_ok-outcome.ensures.pushed c.in_ok-outcome.ensures.fields c.in_ok-_numbers.ensures)
