use Rattle.bf_command_fault.proofs.Leaving.{leaves_due}
use Rattle.bf_command_fault.specs.declared.status.Status.{Status}
use Rattle.bf_commands.proofs.Faults.{unwritten_leaves}
use Rattle.bf_backfills.specs.Commands.{plan_input}
use Rattle.bf_backfills.specs.inner.Named.{IsFaultOfTextsAsked}
use Rattle.bf_backfills.proofs.ClearInputs.{named_readable, named_reading, read_means, reading_leaves}
use Rattle.bf_backfills.proofs.ClearEnds.{of_planning, plan_answer, plan_fault, plan_unmeant}
use Rattle.bf_backfills.proofs.Exits.{fails}
use Rattle.bf_backfills.proofs.clear_plan.answer_clear_plan.Goals as goal

pub returns-in_err-meant : goal.returns-in_err-meant
returns-in_err-meant g c =
    fails _ _ _ _ _ c.from_residual.ensures.1 (plan_unmeant (g.S.Source.file c.args.files.now) c.args.asked _ c.in_err-meant.ensures.fault)
    (unwritten_leaves _ _ _ (IsFaultOfTextsAsked c.args.asked.range c.args.asked.cleared) (λ n written. written) _ c.in_err-meant.ensures.fault)

pub returns-in_err-ready : goal.returns-in_err-ready
returns-in_err-ready g c =
    let files = g.S.Source.file c.args.files.now in
    fails _ _ _ _ _ c.from_residual-in_err-ready.ensures.1
    (of_planning files c.args.asked c.in_ok-meant.meant.range c.in_ok-meant.ensures.range _
    (named_reading files (plan_input c.args.asked) c.in_ok-meant.meant.range c.in_ok-meant.meant.named c.in_ok-meant.ensures.named _ c.in_err-ready.ensures.fault))
    (reading_leaves _ _ _ files c.args.asked.graph _ _ c.in_ok-meant.meant.range _ _ c.in_err-ready.ensures.fault)

pub returns-in_err-write_plan : goal.returns-in_err-write_plan
returns-in_err-write_plan g c =
    let files = g.S.Source.file c.args.files.now in
    let ready = c.in_ok-ready.ensures in
    let readable = named_readable files (plan_input c.args.asked) c.in_ok-meant.meant.range c.in_ok-meant.meant.named c.in_ok-meant.ensures.named ready.readable in
    let means_what = read_means files c.args.asked.cleared c.in_ok-meant.meant.named c.in_ok-ready.ready.what c.in_ok-meant.ensures.named ready.what in
    fails _ _ _ _ _ c.from_residual-in_err-write_plan.ensures.1
    (plan_fault files c.args.asked c.in_ok-meant.meant.range c.in_ok-meant.ensures.range _ _ _ _ readable c.in_ok-ready.ready.what means_what ready.said
    c.in_ok-ready.ready.report ready.report _ c.in_err-write_plan.ensures.fault)
    (leaves_due _ _ _ (λ text is. (
      Status.Success,
      plan_answer files c.args.asked c.in_ok-meant.meant.range c.in_ok-meant.ensures.range _ _ _ _ readable c.in_ok-ready.ready.what means_what ready.said
          c.in_ok-ready.ready.report ready.report text is,
    )) _ _ _ c.in_err-write_plan.ensures.left)

pub returns-clause-answer : goal.returns-clause-answer
returns-clause-answer g c =
    let files = g.S.Source.file c.args.files.now in
    let ready = c.in_ok-ready.ensures in
    let readable = named_readable files (plan_input c.args.asked) c.in_ok-meant.meant.range c.in_ok-meant.meant.named c.in_ok-meant.ensures.named ready.readable in
    let means_what = read_means files c.args.asked.cleared c.in_ok-meant.meant.named c.in_ok-ready.ready.what c.in_ok-meant.ensures.named ready.what in
    let sends = c.in_ok-write_plan.ensures.ok in (
      sends.0,
      plan_answer files c.args.asked c.in_ok-meant.meant.range c.in_ok-meant.ensures.range _ _ _ _ readable c.in_ok-ready.ready.what means_what ready.said
          c.in_ok-ready.ready.report ready.report sends.0 sends.1,
      sends.2,
    )
