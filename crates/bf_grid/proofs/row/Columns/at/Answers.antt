use Rattle.std.proofs.Common.{◌*◌}
use Rattle.bf_grid.proofs.RowFacts.{column_cut}
use Rattle.bf_grid.proofs.row.Columns.at.Goals as goal

pub returns : goal.returns
returns c = column_cut (λ run. run.now) c.args.self.runs.now (c.args.place * c.args.self.each) c.args.self.each c.min-last.result c.min-last.ensures
