use Rattle.std.proofs.Common.{refl}
use Rattle.bf_grammar.proofs.command.with_cleared_options.Goals as goal

pub returns : goal.returns
returns c app given =
    let paired = c.arg-2.ensures _ _ (c.arg.ensures _ _ given c.task_option.ensures refl) c.run_option.ensures refl in
    let seeded = c.arg-4.ensures _ _ (c.arg-3.ensures _ _ paired c.index_option.ensures refl) c.seeds_option.ensures refl in
    c.arg-6.ensures _ _ (c.arg-5.ensures _ _ seeded c.failed_flag.ensures refl) c.plan_flag.ensures refl
