use Rattle.std.proofs.Common.{refl}
use Rattle.bf_grammar.proofs.command.new_graph_command.Goals as goal

pub returns : goal.returns
returns c = c.arg-2.ensures _ _ (c.arg.ensures _ _ c.new.ensures c.graph_argument.ensures refl) c.zone_file_option.ensures refl
