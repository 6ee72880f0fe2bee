use Rattle.std.proofs.Common.{refl}
use Rattle.bf_grammar.proofs.command.ranged_show_command.Goals as goal

pub returns : goal.returns
returns c =
    let files = c.arg-2.ensures _ _ (c.arg.ensures _ _ c.new.ensures c.optional_positional.ensures refl) c.optional_positional-2.ensures refl in
    c.arg-5.ensures _ _ (c.arg-4.ensures _ _ (c.arg-3.ensures _ _ files c.zone_file_option.ensures refl) c.shown_from_option.ensures refl) c.shown_to_option.ensures refl
