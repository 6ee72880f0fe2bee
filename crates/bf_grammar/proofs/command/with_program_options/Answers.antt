use Rattle.std.proofs.Common.{refl}
use Rattle.bf_grammar.proofs.command.with_program_options.Goals as goal

pub returns : goal.returns
returns c app given =
    let logged = c.arg-2.ensures _ _ (c.arg.ensures _ _ given c.launcher_option.ensures refl) c.logs_option.ensures refl in
    let stopping = c.arg-4.ensures _ _ (c.arg-3.ensures _ _ logged c.journal_option.ensures refl) c.stop_after_option.ensures refl in
    c.arg-6.ensures _ _ (c.arg-5.ensures _ _ stopping c.retry_failed_flag.ensures refl) c.quiet_flag.ensures refl
