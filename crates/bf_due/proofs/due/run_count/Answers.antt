use Rattle.std.proofs.Common.{◌∙◌}
use Rattle.bf_due.proofs.Keeping.{runs_are}
use Rattle.bf_due.proofs.due.run_count.Goals as goal

pub returns : goal.returns
returns c = record {
  runs = c.run_count.ensures.runs ∙ runs_are c.args.core.now c.journal-replayed.ensures.replayed;
  rows = runs_are c.args.core.now c.journal-replayed.ensures.replayed;
  replayed = c.journal-replayed.ensures.replayed;
}
