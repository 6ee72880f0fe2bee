use Rattle.bf_command_fault.specs.declared.status.Status.{Status}
use Rattle.bf_command_fault.proofs.Leaving.{leaves_due}
use Rattle.bf_input.specs.Inputs.{graph_paths}
use Rattle.bf_backfills.proofs.CommandEnds.{lent_graph, list_answer, list_files}
use Rattle.bf_backfills.proofs.Exits.{fails, reading_fails}
use Rattle.bf_backfills.proofs.list.answer_list.Goals as goal

pub returns-in_err-files : goal.returns-in_err-files
returns-in_err-files g c =
    reading_fails _ _ _ _ _ _ _ c.from_residual-in_err-files.ensures.1 (g.S.Source.file c.args.files.now) (graph_paths c.args.asked.graph) c.in_err-files.ensures.fault
    (c.in_ok-range.range, c.in_ok-range.ensures.means, tt) (λ path is. (c.in_ok-range.range, c.in_ok-range.ensures.means, is))

pub returns-in_err-write_list : goal.returns-in_err-write_list
returns-in_err-write_list g c =
    let bytes = lent_graph c.deref.ensures.value c.zone_file.ensures c.in_ok-files.ensures.readable c.in_ok-files.ensures.alike in
    fails _ _ _ _ _ c.from_residual-in_err-write_list.ensures.1 (list_files c.args.asked c.in_ok-range.range c.in_ok-range.ensures.means bytes _ c.in_err-write_list.ensures.fault)
    (leaves_due _ _ _ (λ text is. (Status.Success, list_answer c.args.asked c.in_ok-range.range c.in_ok-range.ensures.means bytes text is)) _ _ _ c.in_err-write_list.ensures.left)

pub returns-clause-answer : goal.returns-clause-answer
returns-clause-answer g c =
    let bytes = lent_graph c.deref.ensures.value c.zone_file.ensures c.in_ok-files.ensures.readable c.in_ok-files.ensures.alike in
    let sends = c.in_ok-write_list.ensures.ok in
    (sends.0, list_answer c.args.asked c.in_ok-range.range c.in_ok-range.ensures.means bytes sends.0 sends.1, sends.2)
