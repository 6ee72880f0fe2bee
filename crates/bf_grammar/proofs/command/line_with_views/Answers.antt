use Rattle.std.proofs.Common.{refl}
use Rattle.bf_grammar.proofs.command.line_with_views.Goals as goal

pub returns : goal.returns
returns c =
    let paged = c.subcommand-2.ensures _ _ (c.subcommand.ensures _ _ c.line_with_programs.ensures c.show_command.ensures refl) c.page_command.ensures refl in
    c.subcommand-4.ensures _ _ (c.subcommand-3.ensures _ _ paged c.explain_command.ensures refl) c.answers_command.ensures refl
