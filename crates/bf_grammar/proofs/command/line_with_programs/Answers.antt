use Rattle.std.proofs.Common.{refl}
use Rattle.bf_grammar.proofs.command.line_with_programs.Goals as goal

pub returns : goal.returns
returns c = c.subcommand-2.ensures _ _ (c.subcommand.ensures _ _ c.line_without_programs.ensures c.run_command.ensures refl) c.clear_command.ensures refl
