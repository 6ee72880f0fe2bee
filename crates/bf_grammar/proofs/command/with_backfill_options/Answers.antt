use Rattle.std.proofs.Common.{refl}
use Rattle.bf_grammar.proofs.command.with_backfill_options.Goals as goal

pub returns : goal.returns
returns c app given =
    let told = c.arg-2.ensures _ _ (c.arg.ensures _ _ (c.with_range_options.ensures _ given) c.workers_option.ensures refl) c.progress_flag.ensures refl in
    c.arg-3.ensures _ _ told c.out_option.ensures refl
