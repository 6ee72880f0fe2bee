use Rattle.std.proofs.Common.{string_bytes}
use Rattle.bf_input.specs.Inputs.{table_paths}
use Rattle.bf_backfills.specs.Commands.{IsDryAnswer}
use Rattle.bf_backfills.proofs.CommandEnds.{dry_answer, dry_files, lent_with_table}
use Rattle.bf_backfills.proofs.Exits.{ends_badly, reading_fails, runs_leave, runs_send}
use Rattle.bf_backfills.proofs.dry.answer_dry.Goals as goal

pub returns-in_err-files : goal.returns-in_err-files
returns-in_err-files g c =
    reading_fails _ _ _ _ _ _ _ c.from_residual-in_err-files.ensures.1 (g.S.Source.file c.args.files.now) (table_paths c.args.asked.graph (string_bytes c.args.asked.table)) c.in_err-files.ensures.fault
    (c.in_ok-range.range, c.in_ok-range.ensures.means, tt) (λ path is. (c.in_ok-range.range, c.in_ok-range.ensures.means, is))

pub returns-clause-answer : goal.returns-clause-answer
returns-clause-answer g c =
    let bytes = lent_with_table c.deref.ensures.value c.deref-2.ensures.value c.zone_file.ensures c.in_ok-files.ensures.readable c.in_ok-files.ensures.alike in
    runs_send _ (IsDryAnswer (g.S.Source.file c.args.files.now) c.args.asked) (dry_answer c.args.asked c.in_ok-range.range c.in_ok-range.ensures.means bytes) _ _ _ _ c.map.ensures.cases c.run_dry.ensures.ok

pub returns-clause-fault : goal.returns-clause-fault
returns-clause-fault g c =
    let bytes = lent_with_table c.deref.ensures.value c.deref-2.ensures.value c.zone_file.ensures c.in_ok-files.ensures.readable c.in_ok-files.ensures.alike in
    ends_badly _ _ c.map.ensures.cases _ _ (dry_files c.args.asked c.in_ok-range.range c.in_ok-range.ensures.means bytes) (rw (c.new-crew.ensures.progress) at c.run_dry.ensures.fault)

pub returns-clause-left : goal.returns-clause-left
returns-clause-left g c =
    let bytes = lent_with_table c.deref.ensures.value c.deref-2.ensures.value c.zone_file.ensures c.in_ok-files.ensures.readable c.in_ok-files.ensures.alike in
    runs_leave _ (IsDryAnswer (g.S.Source.file c.args.files.now) c.args.asked) (dry_answer c.args.asked c.in_ok-range.range c.in_ok-range.ensures.means bytes) _ _ _ _ c.map.ensures.cases _ c.run_dry.ensures.left
