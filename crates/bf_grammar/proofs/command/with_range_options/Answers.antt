use Rattle.std.proofs.Common.{refl}
use Rattle.bf_grammar.proofs.command.with_range_options.Goals as goal

pub returns : goal.returns
returns c app given =
    let between = c.arg-2.ensures _ _ (c.arg.ensures _ _ given c.from_option.ensures refl) c.to_option.ensures refl in
    c.arg-4.ensures _ _ (c.arg-3.ensures _ _ between c.on_option.ensures refl) c.some_flag.ensures refl
