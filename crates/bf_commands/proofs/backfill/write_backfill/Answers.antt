use Rattle.std.proofs.Common.{sym}
use Rattle.bf_commands.specs.OverTable.{is_single_threaded_in}
use Rattle.bf_process.specs.Words.{launching_of}
use Rattle.bf_commands.proofs.Faults.{wanting_from}
use Rattle.bf_commands.proofs.FromKept.{reported_from}
use Rattle.bf_commands.proofs.Results.{leaves_as, sends_as}
use Rattle.bf_commands.proofs.backfill.write_backfill.Goals as goal

pub write_ended-requires : goal.write_ended-requires
write_ended-requires g c = sym c.in_ok-ended.ensures.end.of.runs_are

pub returns : goal.returns
returns g c =
    let is = reported_from c.state-end.ensures.end c.in_ok-ended.ensures.end in
    record {
      ok = sends_as is _ _ _ c.write_ended.ensures.ok;
      stop = wanting_from (is_single_threaded_in c.args.crew.now.progress) (g.K.KeptTries.kept c.args.kept.now) (launching_of c.args.crew.now.launching) (g.RT.Starter.may_lose c.args.crew.now.rt.now) c.args.answers
          c.args.plan.now.dag c.args.runs.now _ c.write_ended.ensures.wanting;
      left = leaves_as is _ _ _ _ c.write_ended.ensures.left;
    }
