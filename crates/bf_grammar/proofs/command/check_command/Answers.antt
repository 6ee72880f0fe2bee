use Rattle.std.proofs.Common.{refl}
use Rattle.bf_grammar.proofs.command.check_command.Goals as goal

pub returns : goal.returns
returns c = c.arg.ensures _ _ c.new_graph_command.ensures c.explain_flag.ensures refl
