use Rattle.std.proofs.Common.{refl}
use Rattle.bf_grammar.proofs.command.line_without_programs.Goals as goal

pub returns : goal.returns
returns c =
    let looking = c.subcommand-2.ensures _ _ (c.subcommand.ensures _ _ c.line_without_commands.ensures c.check_command.ensures refl) c.list_command.ensures refl in
    c.subcommand-4.ensures _ _ (c.subcommand-3.ensures _ _ looking c.single_command.ensures refl) c.dry_command.ensures refl
