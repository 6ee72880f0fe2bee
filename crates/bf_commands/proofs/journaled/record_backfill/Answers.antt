use mir.Syntax.{static}
use Rattle.std.proofs.lemmas.Result.{IfErr-weaker}
use Rattle.std.specs.FinMap as map
use Rattle.bf_process.specs.Words.{launching_of}
use Rattle.bf_journal.proofs.Answering.{since_fits}
use Rattle.bf_journal.proofs.Sharing.{since}
use Rattle.bf_commands.proofs.Kept.{kept_in_part, kept_over}
use Rattle.bf_commands.proofs.Recording.{stop_since}
use Rattle.bf_commands.proofs.Results.{leaves_as, sends_as}
use Rattle.bf_commands.proofs.journaled.record_backfill.Goals as goal

pub record_and_write_report-requires-sync-K : goal.record_and_write_report-requires-sync-K
record_and_write_report-requires-sync-K g c κs held = record { shared = (since (record { mir = static; lft = _ }) _ c.type_bounds.sync-K).shared }

pub record_and_write_report-requires-after_bounds : goal.record_and_write_report-requires-after_bounds
record_and_write_report-requires-after_bounds g c κs held =
    since_fits c.read_and_mend_journal.new.journal.retry_failed c.args.backfill.now.plan.now.dag (map.get c.in-Ok.tries) (g.K.KeptTries.kept c.args.backfill.now.before.now) (c.in-Ok.ensures {u = tt}).fit c.requires

pub returns-clause-ok : goal.returns-clause-ok
returns-clause-ok g c =
    let ok : _ = rw c.read_and_mend_journal.ensures.retry_failed at c.record_and_write_report.ensures.ok in
    sends_as (λ text success is. record { tries = map.get c.in-Ok.tries; has_tries = (c.in-Ok.ensures {u = tt}).tries; reported = is }) _ _ _ ok

pub returns-clause-fault : goal.returns-clause-fault
returns-clause-fault g c =
    let stop : _ = rw (c.read_and_mend_journal.ensures.retry_failed, c.read_and_mend_journal.ensures.stop_after) at c.record_and_write_report.ensures.stop in
    IfErr-weaker c.record_and_write_report.result.report _ _
    (stop_since c.args.journal.stop_after (g.K.KeptTries.kept c.args.backfill.now.before.now) c.args.journal.retry_failed c.args.journal.held.items c.args.backfill.now.cleared.now (launching_of c.args.crew.now.launching).logs c.args.backfill.now.plan.now.dag c.args.backfill.now.runs.now
    (map.get c.in-Ok.tries) (c.in-Ok.ensures {u = tt}).tries)
    stop

pub returns-clause-left : goal.returns-clause-left
returns-clause-left g c =
    let left : _ = rw c.read_and_mend_journal.ensures.retry_failed at c.record_and_write_report.ensures.left in
    leaves_as (λ text success is. record { tries = map.get c.in-Ok.tries; has_tries = (c.in-Ok.ensures {u = tt}).tries; reported = is }) _ _ _ _ left

pub returns-in-Err-clause-journal : goal.returns-in-Err-clause-journal
returns-in-Err-clause-journal g c = kept_in_part _ _ _ _ _ _ _ (c.in-Err.ensures {u = tt}).part

pub returns-clause-journal : goal.returns-clause-journal
returns-clause-journal g c =
    kept_over _ _ _ c.args.backfill.now.cleared.now _ _ _ _ _ c.record_and_write_report.ensures.written.0 (c.in-Ok.ensures {u = tt}).made_whole c.record_and_write_report.ensures.written.1
