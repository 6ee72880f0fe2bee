use Rattle.std.proofs.Common.{refl}
use Rattle.bf_grammar.proofs.command.dry_command.Goals as goal

pub returns : goal.returns
returns c =
    let ranged = c.with_backfill_options.ensures _ (c.arg.ensures _ _ c.new_graph_command-command.ensures c.table_argument.ensures refl) in
    c.arg-2.ensures _ _ ranged c.keep_option.ensures refl
