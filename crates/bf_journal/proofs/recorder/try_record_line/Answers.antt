use Rattle.std.proofs.Common.{◌∙◌}
use Rattle.bf_journal.proofs.Going.{went_out}
use Rattle.bf_journal.proofs.recorder.try_record_line.Goals as goal

pub returns-in-Ok : goal.returns-in-Ok
returns-in-Ok g c = went_out c.args.line.now _ _ _ (c.try_sync.ensures.kept ∙ c.in-Ok.ensures.ok)

pub returns-in-Ok-2 : goal.returns-in-Ok-2
returns-in-Ok-2 g c = went_out c.args.line.now _ _ _ c.in-Ok.ensures.ok
