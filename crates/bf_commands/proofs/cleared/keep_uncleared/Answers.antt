use Rattle.std.proofs.Common.{List, subst}
use Rattle.bf_dependents.specs.declared.place.Place.{Place}
use Rattle.bf_clear.specs.Keeping.{kept_in}
use Rattle.bf_commands.specs.Cleared.{AreKeptFor}
use Rattle.bf_commands.proofs.ClearFaults.{mismatch_uncleared, unknown_uncleared}
use Rattle.bf_planning.proofs.Results.{handed_on}
use Rattle.bf_commands.proofs.cleared.keep_uncleared.Goals as goal

pub returns-in_err-places-clause-fault : goal.returns-in_err-places-clause-fault
returns-in_err-places-clause-fault c =
    handed_on _ _ c.from_residual.ensures.1 (unknown_uncleared c.args.dated.now.plan.dag c.args.dated.now.runs c.args.report c.args.what.now _ c.in_err-places.ensures.fault)

pub returns-in_err-keep_outside-clause-fault : goal.returns-in_err-keep_outside-clause-fault
returns-in_err-keep_outside-clause-fault c =
    handed_on _ _ c.from_residual-in_err-keep_outside.ensures.1 (mismatch_uncleared c.args.dated.now.plan.dag c.args.dated.now.runs c.args.report c.args.what.now c.in_ok-places.places.items c.in_ok-places.ensures.ok _ c.in_err-keep_outside.ensures.err)

pub returns-clause-kept : goal.returns-clause-kept
returns-clause-kept c =
    let dag = c.args.dated.now.plan.dag in
    let runs = c.args.dated.now.runs in
    record {
      places = c.in_ok-places.places.items;
      are_cleared = c.in_ok-places.ensures.ok;
      matches = c.in_ok-keep_outside.ensures.ok;
      are_kept = subst (λ (places : List Place). AreKeptFor c.args.what.now dag runs places c.args.report (kept_in c.in_ok-keep_outside.field-0)) c.as_slice.ensures.value c.in_ok-keep_outside.ensures.kept;
    }
