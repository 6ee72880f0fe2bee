use Rattle.std.proofs.Common.{◌∙◌}
use Rattle.bf_input.proofs.files.read_files_with_table.Goals as goal

pub returns-clause-alike : goal.returns-clause-alike
returns-clause-alike g c = λ graph held zone are told.
    (c.in_ok-graph.ensures.alike graph zone are, c.in_ok-table.ensures.says held (c.in_ok-graph.ensures.stays _ ∙ told))
