use Rattle.std.proofs.Common.{refl}
use Rattle.bf_grammar.proofs.command.backfill_command.Goals as goal

pub returns : goal.returns
returns c =
    c.subcommand-2.ensures _ _ (c.subcommand.ensures _ _ c.line_with_views.ensures c.schema_command.ensures refl) c.completions_command.ensures refl
