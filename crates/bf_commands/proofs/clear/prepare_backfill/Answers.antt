use Rattle.std.proofs.Common.{sym, subst}
use Rattle.bf_planning.specs.Graphs.{IsPlanOf}
use Rattle.bf_planning.specs.Clocks.{clocks_in}
use Rattle.bf_commands.proofs.ClearFaults.{prepared, range_before, table_before}
use Rattle.bf_planning.proofs.Results.{handed_on}
use Rattle.bf_commands.proofs.clear.prepare_backfill.Goals as goal

pub returns-in_err-answers-clause-fault : goal.returns-in_err-answers-clause-fault
returns-in_err-answers-clause-fault c =
    handed_on _ _ c.from_residual-in_err-answers.ensures.1 (table_before _ _ _ _ c.in_ok-timed.timed.plan c.in_ok-timed.ensures.plan _ c.in_err-answers.ensures.fault)

pub into_dated-requires : goal.into_dated-requires
into_dated-requires c = (c.in_ok-timed.ensures.zone.draft.schedule, c.in_ok-timed.ensures.zone.fires.says)

pub returns-in_err-dated-clause-fault : goal.returns-in_err-dated-clause-fault
returns-in_err-dated-clause-fault c =
    handed_on _ _ c.from_residual-in_err-dated.ensures.1 (range_before _ _ _ _ c.in_ok-answers.answers c.in_ok-answers.ensures.ok _ (c.in_err-dated.ensures.fault _ _ c.in_ok-timed.ensures.zone))

pub returns-clause-ok : goal.returns-clause-ok
returns-clause-ok c =
    let dated = c.in_ok-dated.ensures in
    prepared _ _ _ _ c.in_ok-dated.dated.plan (subst (IsPlanOf c.args.graph.now _) (sym dated.plan) c.in_ok-timed.ensures.plan) c.in_ok-answers.answers c.in_ok-answers.ensures.ok
    c.in_ok-dated.dated.runs (dated.listing _ _ c.in_ok-timed.ensures.zone) (clocks_in c.in_ok-dated.dated) (dated.clocks _ _ c.in_ok-timed.ensures.zone)
