use Rattle.bf_core.specs.Terms.{Cell}
use Rattle.bf_core.proofs.Placing.{put_put, with_runs}
use Rattle.bf_core.proofs.Shape.{length_put, row_put, row_in}
use Rattle.bf_core.proofs.state.State.change_instance_at.Goals as goal

pub replace_cell-requires-clause-run : goal.replace_cell-requires-clause-run
replace_cell-requires-clause-run c = rw (c.replace_cell-cell.ensures.now, length_put c.args.self.now.runs c.args.run c.args.task Cell.Undecided) c.requires.run

pub replace_cell-requires-clause-task : goal.replace_cell-requires-clause-task
unfolding row_in
replace_cell-requires-clause-task c = rw (c.replace_cell-cell.ensures.now, row_put c.args.self.now c.args.run c.args.task Cell.Undecided c.args.run) c.requires.task

pub returns : goal.returns
returns c =
    rw (c.replace_cell.ensures.now, c.replace_cell-cell.ensures.now, c.change_instance_at.ensures, c.replace_cell-cell.ensures.was)
    (with_runs _ _ c.args.self.now.ledger (put_put c.args.self.now.runs c.args.run c.args.task Cell.Undecided _))
