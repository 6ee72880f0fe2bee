use Rattle.std.proofs.Common.{refl}
use Rattle.bf_grammar.proofs.command.show_command.Goals as goal

pub returns : goal.returns
returns c =
    let sized = c.arg-2.ensures _ _ (c.arg.ensures _ _ c.ranged_show_command.ensures c.shown_failed_flag.ensures refl) c.width_option.ensures refl in
    c.arg-4.ensures _ _ (c.arg-3.ensures _ _ sized c.color_option.ensures refl) c.json_option.ensures refl
