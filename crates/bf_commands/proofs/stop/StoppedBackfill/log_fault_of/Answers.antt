use Rattle.std.proofs.Common.{◌∙◌}
use Rattle.bf_commands.specs.Programs.{IsLogBelow}
use Rattle.bf_commands.proofs.stop.StoppedBackfill.log_fault_of.Goals as goal

pub returns-in-Ok-clause-told : goal.returns-in-Ok-clause-told
returns-in-Ok-clause-told c =
    let log : IsLogBelow c.in-Some.folder.now c.args.self.now.plan.now.dag c.args.self.now.runs.now c.args.name c.new.result =
    record { context = c.in-Some-context_of.context; is_context = (c.in-Some-context_of.ensures {u = tt}).some; path_is = c.new.ensures ∙ (c.in-Ok.ensures {u = tt}) } in
    rw c.in-Some.is log
