use Rattle.bf_commands.proofs.Results.{leaves_as, sends_as}
use Rattle.bf_backfills.proofs.Recorded.{after_journal}
use Rattle.bf_backfills.proofs.clear.clear_and_record.Goals as goal

pub returns-clause-ok : goal.returns-clause-ok
returns-clause-ok g c =
    let clearing = c.in_ok-clearing.ensures in
    let ends = after_journal (g.J.Journals.journal c.args.journals.now) c.args.journal _ _ _ _ _ _ _ _ clearing.cleared in
    sends_as ends _ _ _ (rw (clearing.dated) at c.record_clearing.ensures.ok)

pub returns-clause-left : goal.returns-clause-left
returns-clause-left g c =
    let clearing = c.in_ok-clearing.ensures in
    let ends = after_journal (g.J.Journals.journal c.args.journals.now) c.args.journal _ _ _ _ _ _ _ _ clearing.cleared in
    leaves_as ends _ _ _ _ (rw (clearing.dated) at c.record_clearing.ensures.left)
