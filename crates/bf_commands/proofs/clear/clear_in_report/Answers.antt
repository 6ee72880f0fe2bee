use Rattle.std.proofs.Common.{List, subst}
use Rattle.bf_dependents.specs.declared.place.Place.{Place}
use Rattle.bf_clear.specs.Keeping.{kept_in}
use Rattle.bf_commands.specs.Cleared.{AreKeptFor}
use Rattle.bf_commands.specs.Journaled.{TellsOf}
use Rattle.bf_commands.proofs.ClearFaults.{mismatch_uncleared, unknown_uncleared}
use Rattle.bf_planning.proofs.Results.{handed_on}
use Rattle.bf_commands.proofs.clear.clear_in_report.Goals as goal

pub returns-in_err-places-clause-fault : goal.returns-in_err-places-clause-fault
returns-in_err-places-clause-fault c =
    handed_on _ _ c.from_residual.ensures.1 (unknown_uncleared c.args.dated.now.plan.dag c.args.dated.now.runs c.args.report c.args.what _ c.in_err-places.ensures.fault)

pub returns-in_err-kept-clause-fault : goal.returns-in_err-kept-clause-fault
returns-in_err-kept-clause-fault c =
    handed_on _ _ c.from_residual-in_err-kept.ensures.1 (mismatch_uncleared c.args.dated.now.plan.dag c.args.dated.now.runs c.args.report c.args.what c.in_ok-places.places.items c.in_ok-places.ensures.ok _ c.in_err-kept.ensures.err)

pub returns-clause-cleared : goal.returns-clause-cleared
returns-clause-cleared c =
    let dag = c.args.dated.now.plan.dag in
    let runs = c.args.dated.now.runs in
    record {
      kept_is = record {
        places = c.in_ok-places.places.items;
        are_cleared = c.in_ok-places.ensures.ok;
        matches = c.in_ok-kept.ensures.ok;
        are_kept = subst (λ (places : List Place). AreKeptFor c.args.what dag runs places c.args.report (kept_in c.in_ok-kept.kept)) c.as_slice.ensures.value c.in_ok-kept.ensures.kept;
      };
      tells = subst (λ (places : List Place). TellsOf dag runs places c.in_ok-cleared.cleared.items) c.as_slice-2.ensures.value c.in_ok-cleared.ensures;
    }
