use Rattle.std.proofs.Common.{refl}
use Rattle.bf_grammar.proofs.command.single_command.Goals as goal

pub returns : goal.returns
returns c =
    let timed = c.arg-2.ensures _ _ (c.arg.ensures _ _ c.new_graph_command.ensures c.table_argument.ensures refl) c.required_option.ensures refl in
    c.arg-3.ensures _ _ timed c.out_option.ensures refl
