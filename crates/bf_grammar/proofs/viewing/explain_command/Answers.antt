use Rattle.std.proofs.Common.{refl}
use Rattle.bf_grammar.proofs.viewing.explain_command.Goals as goal

pub returns : goal.returns
returns c =
    let dated = c.arg-2.ensures _ _ (c.arg.ensures _ _ c.new_report_command.ensures c.explained_run_option.ensures refl) c.explained_task_option.ensures refl in
    c.arg-3.ensures _ _ dated c.explained_index_option.ensures refl
