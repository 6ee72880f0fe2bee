use Rattle.std.proofs.Common.{◌+◌, List, take, sym, subst}
use Rattle.bf_dependents.specs.declared.seeds.Seed.{Seed}
use Rattle.bf_planning.proofs.Results.{handed_on}
use Rattle.bf_backfills.specs.Commands.{MeanSeeds}
use Rattle.bf_backfills.proofs.MeantSeeds.{one_more, unmeant_at}
use Rattle.bf_backfills.proofs.named.read_seeds.Goals as goal

pub returns-in_err-seed-clause-bad : goal.returns-in_err-seed-clause-bad
returns-in_err-seed-clause-bad c =
    handed_on _ _ c.from_residual.ensures.1 (unmeant_at c.args.asked.now c.loop-one.one-index c.one-item.result c.loop-one-test.true c.one-item.is _ c.in_err-seed.ensures.bad)

pub loop-one-preserved : goal.loop-one-preserved
loop-one-preserved c =
    let asked = c.args.asked.now in
    let i = c.loop-one.one-index in
    subst (λ (ss : List Seed). MeanSeeds (take (i + 1) asked) ss) (sym c.in_ok-add_seed.ensures)
    (one_more asked i c.one-item.result c.loop-one.seeds.items c.in_ok-seed.seed c.loop-one-test.true c.one-item.is c.loop-one.invariant c.in_ok-seed.ensures.means)
