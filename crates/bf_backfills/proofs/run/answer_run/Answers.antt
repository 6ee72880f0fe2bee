use Rattle.std.proofs.Common.{option_map, string_bytes, subst}
use Rattle.bf_input.specs.Inputs.{graph_paths}
use Rattle.bf_backfills.specs.Commands.{IsLaunchable, IsRunAnswer, machine_of}
use Rattle.bf_backfills.specs.inner.CommandFaults.{IsFaultOfLauncher}
use Rattle.bf_backfills.proofs.CommandEnds.{read_graph, run_answer_by, run_files_by, run_memory, run_unlaunched, run_unread}
use Rattle.bf_commands.proofs.Faults.{unwritten_leaves}
use Rattle.bf_backfills.proofs.Exits.{ends_badly, fails, reading_fails, runs_leave, runs_send}
use Rattle.bf_backfills.proofs.run.answer_run.Goals as goal

pub returns-in_err-refuse_unstartable_launcher : goal.returns-in_err-refuse_unstartable_launcher
returns-in_err-refuse_unstartable_launcher g c =
    let startable = g.J.Launchers.startable c.args.journals.now in
    let is = subst (λ l. IsFaultOfLauncher startable l c.in_err-refuse_unstartable_launcher.field-0.0) c.path_named.ensures c.in_err-refuse_unstartable_launcher.ensures.fault in
    fails _ _ _ _ _ c.from_residual-in_err-refuse_unstartable_launcher.ensures.1
    (run_unlaunched (g.RT.Starter.may_lose c.args.rt.now) (g.S.Source.file c.args.files.now) (machine_of (g.J.Journals.journal c.args.journals.now) startable) c.args.asked c.in_ok-range.range c.in_ok-range.ensures.means _ is)
    (unwritten_leaves _ _ _ (IsFaultOfLauncher startable (option_map string_bytes c.args.asked.launcher)) (λ n written. written) _ is)

pub returns-in_err-files : goal.returns-in_err-files
returns-in_err-files g c =
    reading_fails _ _ _ _ _ _ _ c.from_residual-in_err-files.ensures.1 (g.S.Source.file c.args.files.now) (graph_paths c.args.asked.graph) c.in_err-files.ensures.fault
    (run_memory (g.RT.Starter.may_lose c.args.rt.now) (g.S.Source.file c.args.files.now) (machine_of (g.J.Journals.journal c.args.journals.now) (g.J.Launchers.startable c.args.journals.now)) c.args.asked c.in_ok-range.range c.in_ok-range.ensures.means)
    (run_unread (g.RT.Starter.may_lose c.args.rt.now) (g.S.Source.file c.args.files.now) (machine_of (g.J.Journals.journal c.args.journals.now) (g.J.Launchers.startable c.args.journals.now)) c.args.asked c.in_ok-range.range c.in_ok-range.ensures.means)

pub returns-clause-answer : goal.returns-clause-answer
returns-clause-answer g c =
    let machine = machine_of (g.J.Journals.journal c.args.journals.now) (g.J.Launchers.startable c.args.journals.now) in
    let launchable = subst (IsLaunchable machine.startable) c.path_named.ensures c.in_ok-refuse_unstartable_launcher.ensures.ok in
    let bytes = read_graph c.in_ok-files.ensures.readable c.in_ok-files.ensures.alike in
    let may_hear = g.RT.Starter.may_hear c.args.rt.now in
    runs_send _ (IsRunAnswer may_hear (g.S.Source.file c.args.files.now) machine c.args.asked) (run_answer_by machine c.args.asked c.in_ok-range.range c.in_ok-range.ensures.means launchable bytes _ c.launching_asked.ensures may_hear) _ _ _ _ c.map.ensures.cases
    (rw (c.with_launching-crew.ensures.machine, c.new.ensures.machine, c.with_launching-crew.ensures.launching) at c.write_run_report.ensures.ok)

pub returns-clause-fault : goal.returns-clause-fault
returns-clause-fault g c =
    let machine = machine_of (g.J.Journals.journal c.args.journals.now) (g.J.Launchers.startable c.args.journals.now) in
    let launchable = subst (IsLaunchable machine.startable) c.path_named.ensures c.in_ok-refuse_unstartable_launcher.ensures.ok in
    let bytes = read_graph c.in_ok-files.ensures.readable c.in_ok-files.ensures.alike in
    ends_badly _ _ c.map.ensures.cases _ _ (run_files_by machine c.args.asked c.in_ok-range.range c.in_ok-range.ensures.means launchable bytes _ c.launching_asked.ensures (g.RT.Starter.may_lose c.args.rt.now))
    (rw (c.with_launching-crew.ensures.machine, c.new.ensures.machine, c.with_launching-crew.ensures.launching) at c.write_run_report.ensures.fault)

pub returns-clause-left : goal.returns-clause-left
returns-clause-left g c =
    let machine = machine_of (g.J.Journals.journal c.args.journals.now) (g.J.Launchers.startable c.args.journals.now) in
    let launchable = subst (IsLaunchable machine.startable) c.path_named.ensures c.in_ok-refuse_unstartable_launcher.ensures.ok in
    let bytes = read_graph c.in_ok-files.ensures.readable c.in_ok-files.ensures.alike in
    let may_hear = g.RT.Starter.may_hear c.args.rt.now in
    runs_leave _ (IsRunAnswer may_hear (g.S.Source.file c.args.files.now) machine c.args.asked) (run_answer_by machine c.args.asked c.in_ok-range.range c.in_ok-range.ensures.means launchable bytes _ c.launching_asked.ensures may_hear) _ _ _ _ c.map.ensures.cases _
    (rw (c.with_launching-crew.ensures.machine, c.new.ensures.machine, c.with_launching-crew.ensures.launching) at c.write_run_report.ensures.left)
