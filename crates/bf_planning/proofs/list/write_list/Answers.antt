use Rattle.std.proofs.Common.{All, sym, subst}
use Rattle.bf_command_fault.proofs.Leaving.{send_leaves}
use Rattle.bf_planning.specs.inner.Lists.{IsSince1970}
use Rattle.bf_planning.proofs.Faults.{list_wanting, write_wanting}
use Rattle.bf_planning.proofs.ListedIntervals.{listed_text, since_1970}
use Rattle.bf_planning.proofs.Results.{handed_on}
use Rattle.bf_planning.proofs.list.write_list.Goals as goal

pub text_of_intervals-requires : goal.text_of_intervals-requires
text_of_intervals-requires g c = subst (All IsSince1970) (sym c.intervals.ensures.intervals) (since_1970 c.args.graph.now _ _ _ c.in_ok-runs.ensures.listing)

pub returns-in_err-send-clause-fault : goal.returns-in_err-send-clause-fault
returns-in_err-send-clause-fault g c = handed_on _ _ c.from_residual-in_err-send.ensures.1 (list_wanting c.args.graph.now _ _ _ (write_wanting _))

pub returns-in_err-send-clause-left : goal.returns-in_err-send-clause-left
returns-in_err-send-clause-left g c =
    handed_on _ _ c.from_residual-in_err-send.ensures.1
    (send_leaves _ _ _ _ c.as_bytes.result.now (listed_text c.in_ok-runs.ensures.listing c.intervals.ensures.intervals c.in_ok-text.ensures c.as_bytes.ensures.value)
    _ c.in_err-send.ensures.part c.in_err-send.ensures.only_io c.in_err-send.ensures.halted)

pub returns-clause-ok : goal.returns-clause-ok
returns-clause-ok g c = (c.as_bytes.result.now, listed_text c.in_ok-runs.ensures.listing c.intervals.ensures.intervals c.in_ok-text.ensures c.as_bytes.ensures.value, c.in_ok-send.ensures.ok)
