use Rattle.std.proofs.Common.{refl}
use Rattle.bf_grammar.proofs.command.clear_command.Goals as goal

pub returns : goal.returns
returns c =
    let seeded = c.with_cleared_options.ensures _ (c.arg-command.ensures _ _ c.new_graph_command.ensures c.positional.ensures refl) in
    c.with_program_options.ensures _ (c.with_backfill_options.ensures _ (c.arg-command-2.ensures _ _ seeded c.option_with_value.ensures refl))
