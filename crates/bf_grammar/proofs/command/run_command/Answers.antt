use Rattle.std.proofs.Common.{refl}
use Rattle.bf_grammar.proofs.command.run_command.Goals as goal

pub returns : goal.returns
returns c = c.with_program_options.ensures _ (c.arg.ensures _ _ (c.with_backfill_options.ensures _ c.new_graph_command-command.ensures) c.keep_option.ensures refl)
