use Rattle.bf_process.specs.Words.{launching_of}
use Rattle.bf_kept.specs.Kept.{MayGiveUpAnew}
use Rattle.bf_commands.specs.Programs.{MayGiveUpLaunched}
use Rattle.bf_commands.proofs.ByPrograms.{told_stop}
use Rattle.bf_commands.proofs.backfill.resume_by_programs.Goals as goal

pub returns-in-Ok-clause-end : goal.returns-in-Ok-clause-end
returns-in-Ok-clause-end g c = rw (c.in-Ok.is, c.programs_of-programs.ensures) at c.resume_by_workers-ended.ensures.end

pub returns-clause-stop : goal.returns-clause-stop
returns-clause-stop g c =
    let may : _ = rw (c.in-Err.is, c.programs_of-programs.ensures) at c.resume_by_workers-ended.ensures.err in
    let told : _ = rw (c.stopped_backfill-stopping.ensures.plan, c.stopped_backfill-stopping.ensures.runs, c.stopped_backfill-stopping.ensures.logs) at c.stop_fault_by_programs.ensures.told in
    told_stop (MayGiveUpAnew (g.K.KeptTries.kept c.args.kept.now) (MayGiveUpLaunched (launching_of c.args.crew.now.launching) (g.RT.Starter.may_lose c.args.crew.now.rt.now) c.args.plan.now.dag c.args.runs.now))
    (launching_of c.args.crew.now.launching).logs c.args.plan.now.dag c.args.runs.now _ _ may told
