use Rattle.bf_grammar.proofs.command.list_command.Goals as goal

pub returns : goal.returns
returns c = c.with_range_options.ensures _ c.new_graph_command-command.ensures
