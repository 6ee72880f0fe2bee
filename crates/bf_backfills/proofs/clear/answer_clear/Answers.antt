use Rattle.bf_commands.proofs.Faults.{unwritten_leaves}
use Rattle.bf_backfills.specs.Commands.{IsClearAnswer, clear_input, machine_of}
use Rattle.bf_backfills.specs.inner.CommandFaults.{IsFaultOfAsked}
use Rattle.bf_backfills.proofs.ClearInputs.{named_readable, named_reading, read_means, reading_leaves}
use Rattle.bf_backfills.proofs.ClearEnds.{clear_answers, clear_faults, clear_unasked, of_clearing}
use Rattle.bf_backfills.proofs.Exits.{ends_badly, fails, runs_leave, runs_send}
use Rattle.bf_backfills.proofs.clear.answer_clear.Goals as goal

pub returns-in_err-meant : goal.returns-in_err-meant
returns-in_err-meant g c =
    let startable = g.J.Launchers.startable c.args.journals.now in
    fails _ _ _ _ _ c.from_residual.ensures.1
    (clear_unasked (g.RT.Starter.may_lose c.args.rt.now) (g.S.Source.file c.args.files.now) (machine_of (g.J.Journals.journal c.args.journals.now) startable) c.args.asked _ c.in_err-meant.ensures.fault)
    (unwritten_leaves _ _ _ (IsFaultOfAsked startable c.args.asked) (λ n written. written) _ c.in_err-meant.ensures.fault)

pub returns-in_err-ready : goal.returns-in_err-ready
returns-in_err-ready g c =
    let files = g.S.Source.file c.args.files.now in
    let meant = c.in_ok-meant.meant in
    fails _ _ _ _ _ c.from_residual-in_err-ready.ensures.1
    (of_clearing (g.RT.Starter.may_lose c.args.rt.now) files (machine_of (g.J.Journals.journal c.args.journals.now) (g.J.Launchers.startable c.args.journals.now)) c.args.asked meant.range c.in_ok-meant.ensures.range _
    (named_reading files (clear_input c.args.asked) meant.range meant.named c.in_ok-meant.ensures.named _ c.in_err-ready.ensures.fault))
    (reading_leaves _ _ _ files c.args.asked.graph _ _ meant.range _ _ c.in_err-ready.ensures.fault)

pub returns-clause-answer : goal.returns-clause-answer
returns-clause-answer g c =
    let files = g.S.Source.file c.args.files.now in
    let machine = machine_of (g.J.Journals.journal c.args.journals.now) (g.J.Launchers.startable c.args.journals.now) in
    let may_hear = g.RT.Starter.may_hear c.args.rt.now in
    let meant = c.in_ok-meant.meant in
    let is_meant = c.in_ok-meant.ensures in
    let ready = c.in_ok-ready.ensures in
    let readable = named_readable files (clear_input c.args.asked) meant.range meant.named is_meant.named ready.readable in
    let means_what = read_means files c.args.asked.cleared meant.named c.in_ok-ready.ready.what is_meant.named ready.what in
    runs_send _ (IsClearAnswer may_hear files machine c.args.asked)
    (clear_answers (g.RT.Starter.may_lose c.args.rt.now) files machine c.args.asked meant.range is_meant.range is_meant.launchable
    _ _ _ _ readable c.in_ok-ready.ready.what means_what ready.said c.in_ok-ready.ready.report ready.report _ c.launching_asked.ensures may_hear) _ _ _ _ c.map.ensures.cases
    (rw (c.with_launching-crew.ensures.machine, c.new.ensures.machine, c.with_launching-crew.ensures.launching) at c.resume_report.ensures.ok)

pub returns-clause-fault : goal.returns-clause-fault
returns-clause-fault g c =
    let files = g.S.Source.file c.args.files.now in
    let machine = machine_of (g.J.Journals.journal c.args.journals.now) (g.J.Launchers.startable c.args.journals.now) in
    let may_lose = g.RT.Starter.may_lose c.args.rt.now in
    let meant = c.in_ok-meant.meant in
    let is_meant = c.in_ok-meant.ensures in
    let ready = c.in_ok-ready.ensures in
    let readable = named_readable files (clear_input c.args.asked) meant.range meant.named is_meant.named ready.readable in
    let means_what = read_means files c.args.asked.cleared meant.named c.in_ok-ready.ready.what is_meant.named ready.what in
    ends_badly _ _ c.map.ensures.cases _ _
    (clear_faults may_lose files machine c.args.asked meant.range is_meant.range is_meant.launchable
    _ _ _ _ readable c.in_ok-ready.ready.what means_what ready.said c.in_ok-ready.ready.report ready.report _ c.launching_asked.ensures)
    (rw (c.with_launching-crew.ensures.machine, c.new.ensures.machine, c.with_launching-crew.ensures.progress, c.new.ensures.progress, c.with_launching-crew.ensures.launching) at c.resume_report.ensures.fault)

pub returns-clause-left : goal.returns-clause-left
returns-clause-left g c =
    let files = g.S.Source.file c.args.files.now in
    let machine = machine_of (g.J.Journals.journal c.args.journals.now) (g.J.Launchers.startable c.args.journals.now) in
    let may_hear = g.RT.Starter.may_hear c.args.rt.now in
    let meant = c.in_ok-meant.meant in
    let is_meant = c.in_ok-meant.ensures in
    let ready = c.in_ok-ready.ensures in
    let readable = named_readable files (clear_input c.args.asked) meant.range meant.named is_meant.named ready.readable in
    let means_what = read_means files c.args.asked.cleared meant.named c.in_ok-ready.ready.what is_meant.named ready.what in
    runs_leave _ (IsClearAnswer may_hear files machine c.args.asked)
    (clear_answers (g.RT.Starter.may_lose c.args.rt.now) files machine c.args.asked meant.range is_meant.range is_meant.launchable
    _ _ _ _ readable c.in_ok-ready.ready.what means_what ready.said c.in_ok-ready.ready.report ready.report _ c.launching_asked.ensures may_hear) _ _ _ _ c.map.ensures.cases _
    (rw (c.with_launching-crew.ensures.machine, c.new.ensures.machine, c.with_launching-crew.ensures.launching) at c.resume_report.ensures.left)
