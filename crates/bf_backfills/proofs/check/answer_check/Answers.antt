use Rattle.std.proofs.Common.{◌∙◌}
use Rattle.bf_command_fault.specs.declared.status.Status.{Status}
use Rattle.bf_command_fault.proofs.Leaving.{send_leaves}
use Rattle.bf_commands.proofs.Faults.{graph_leaves}
use Rattle.bf_input.specs.Inputs.{graph_paths}
use Rattle.bf_backfills.proofs.CommandEnds.{check_answer, check_files, check_write, lent_graph}
use Rattle.bf_backfills.proofs.Exits.{fails, reading_fails}
use Rattle.bf_backfills.proofs.check.answer_check.Goals as goal

pub returns-in_err-files : goal.returns-in_err-files
returns-in_err-files g c =
    reading_fails _ _ _ _ _ _ _ c.from_residual.ensures.1 (g.S.Source.file c.args.files.now) (graph_paths c.args.asked) c.in_err-files.ensures.fault tt (λ path is. is)

pub returns-in_err-size : goal.returns-in_err-size
returns-in_err-size g c =
    let bytes = lent_graph c.deref.ensures.value c.zone_file.ensures c.in_ok-files.ensures.readable c.in_ok-files.ensures.alike in
    fails _ _ _ _ _ c.from_residual-in_err-size.ensures.1 (check_files bytes _ c.in_err-size.ensures.fault) (graph_leaves _ _ _ c.deref.result.now _ _ c.in_err-size.ensures.fault)

pub returns-in_err-send : goal.returns-in_err-send
returns-in_err-send g c =
    let bytes = lent_graph c.deref.ensures.value c.zone_file.ensures c.in_ok-files.ensures.readable c.in_ok-files.ensures.alike in
    let answer = check_answer bytes c.in_ok-size.size c.as_bytes.result.now c.in_ok-size.ensures.size (c.as_bytes.ensures.value ∙ c.in_ok-line.ensures) in
    fails _ _ _ _ _ c.from_residual-in_err-send.ensures.1 (check_write bytes _)
    (send_leaves _ _ _ _ c.as_bytes.result.now (Status.Success, answer) _ c.in_err-send.ensures.part c.in_err-send.ensures.only_io c.in_err-send.ensures.halted)

pub returns-clause-answer : goal.returns-clause-answer
returns-clause-answer g c =
    let bytes = lent_graph c.deref.ensures.value c.zone_file.ensures c.in_ok-files.ensures.readable c.in_ok-files.ensures.alike in
    let answer = check_answer bytes c.in_ok-size.size c.as_bytes.result.now c.in_ok-size.ensures.size (c.as_bytes.ensures.value ∙ c.in_ok-line.ensures) in
    (c.as_bytes.result.now, answer, c.in_ok-send.ensures.ok)
