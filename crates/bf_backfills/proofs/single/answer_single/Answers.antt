use Rattle.std.proofs.Common.{string_bytes}
use Rattle.bf_input.specs.Inputs.{table_paths}
use Rattle.bf_backfills.specs.Commands.{IsSingleAnswer}
use Rattle.bf_backfills.proofs.CommandEnds.{lent_with_table, single_answer, single_files}
use Rattle.bf_backfills.proofs.CommandFacts.{means_lent}
use Rattle.bf_backfills.proofs.Exits.{ends_badly, reading_fails, runs_leave, runs_send}
use Rattle.bf_backfills.proofs.single.answer_single.Goals as goal

pub returns-in_err-files : goal.returns-in_err-files
returns-in_err-files g c =
    let means = means_lent c.as_str.result.now _ c.in_ok-at.at c.as_str.ensures.value c.in_ok-at.ensures.means in
    reading_fails _ _ _ _ _ _ _ c.from_residual-in_err-files.ensures.1 (g.S.Source.file c.args.files.now) (table_paths c.args.asked.graph (string_bytes c.args.asked.table)) c.in_err-files.ensures.fault
    (c.in_ok-at.at, means, tt) (λ path is. (c.in_ok-at.at, means, is))

pub returns-clause-answer : goal.returns-clause-answer
returns-clause-answer g c =
    let means = means_lent c.as_str.result.now _ c.in_ok-at.at c.as_str.ensures.value c.in_ok-at.ensures.means in
    let bytes = lent_with_table c.deref.ensures.value c.deref-2.ensures.value c.zone_file.ensures c.in_ok-files.ensures.readable c.in_ok-files.ensures.alike in
    runs_send _ (IsSingleAnswer (g.S.Source.file c.args.files.now) c.args.asked) (single_answer c.args.asked c.in_ok-at.at means bytes) _ _ _ _ c.map.ensures.cases c.run_single.ensures.ok

pub returns-clause-fault : goal.returns-clause-fault
returns-clause-fault g c =
    let means = means_lent c.as_str.result.now _ c.in_ok-at.at c.as_str.ensures.value c.in_ok-at.ensures.means in
    let bytes = lent_with_table c.deref.ensures.value c.deref-2.ensures.value c.zone_file.ensures c.in_ok-files.ensures.readable c.in_ok-files.ensures.alike in
    ends_badly _ _ c.map.ensures.cases _ _ (single_files c.args.asked c.in_ok-at.at means bytes) c.run_single.ensures.fault

pub returns-clause-left : goal.returns-clause-left
returns-clause-left g c =
    let means = means_lent c.as_str.result.now _ c.in_ok-at.at c.as_str.ensures.value c.in_ok-at.ensures.means in
    let bytes = lent_with_table c.deref.ensures.value c.deref-2.ensures.value c.zone_file.ensures c.in_ok-files.ensures.readable c.in_ok-files.ensures.alike in
    runs_leave _ (IsSingleAnswer (g.S.Source.file c.args.files.now) c.args.asked) (single_answer c.args.asked c.in_ok-at.at means bytes) _ _ _ _ c.map.ensures.cases _ c.run_single.ensures.left
