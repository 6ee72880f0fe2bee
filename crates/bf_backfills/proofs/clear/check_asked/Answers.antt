use Rattle.std.proofs.Common.{subst}
use Rattle.bf_planning.proofs.Results.{handed_on}
use Rattle.bf_backfills.specs.Commands.{IsLaunchable}
use Rattle.bf_backfills.specs.inner.CommandFaults.{IsFaultOfLauncher}
use Rattle.bf_backfills.proofs.ClearEnds.{asked_unlaunched, asked_unmeant}
use Rattle.bf_backfills.proofs.clear.check_asked.Goals as goal

pub returns-in_err-meant-clause-fault : goal.returns-in_err-meant-clause-fault
returns-in_err-meant-clause-fault g c = handed_on _ _ c.from_residual.ensures.1 (asked_unmeant (g.L.Launchers.startable c.args.launchers.now) c.args.asked.now _ c.in_err-meant.ensures.fault)

pub returns-in_err-refuse_unstartable_launcher-clause-fault : goal.returns-in_err-refuse_unstartable_launcher-clause-fault
returns-in_err-refuse_unstartable_launcher-clause-fault g c =
    let startable = g.L.Launchers.startable c.args.launchers.now in
    let is = subst (λ l. IsFaultOfLauncher startable l c.in_err-refuse_unstartable_launcher.field-0.0) c.launcher_used-launcher.ensures c.in_err-refuse_unstartable_launcher.ensures.fault in
    handed_on _ _ c.from_residual-in_err-refuse_unstartable_launcher.ensures.1 (asked_unlaunched startable c.args.asked.now c.in_ok-meant.meant.range c.in_ok-meant.ensures.range _ is)

pub returns-clause-launchable : goal.returns-clause-launchable
returns-clause-launchable g c = subst (IsLaunchable (g.L.Launchers.startable c.args.launchers.now)) c.launcher_used-launcher.ensures c.in_ok-refuse_unstartable_launcher.ensures.ok
