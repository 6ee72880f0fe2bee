use Rattle.std.proofs.Common.{true, ap}
use Rattle.clap.specs.Words.{App}
use Rattle.bf_grammar.proofs.command.line_without_commands.Goals as goal

pub returns : goal.returns
returns c =
    rw (c.arg_required_else_help-command.ensures, c.subcommand_required.ensures, c.version.ensures, c.about.ensures)
    (ap (λ (app : App). record app { top = record app.top { has_version = true; subcommand_required = true; arg_required_else_help = true } }) c.new.ensures.app)
