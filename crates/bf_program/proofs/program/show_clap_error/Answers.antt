use Rattle.bf_planning.proofs.Results.{handed_on}
use Rattle.bf_program.proofs.Ends.{help_by, help_unshown}
use Rattle.bf_program.proofs.program.show_clap_error.Goals as goal

pub returns-in_err-send-clause-unshown : goal.returns-in_err-send-clause-unshown
returns-in_err-send-clause-unshown g c =
    handed_on _ _ c.from_residual-in_err-send.ensures.1
    (help_unshown _ _ _ _ _ (help_by _ _ c.use_stderr.ensures.1 c.if-use_stderr.false) _ c.in_err-send.ensures.part c.in_err-send.ensures.only_io c.in_err-send.ensures.halted)
