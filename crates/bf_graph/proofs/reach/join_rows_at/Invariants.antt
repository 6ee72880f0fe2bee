use Rattle.std.proofs.Common.{length}
use Rattle.bf_graph.specs.Reach.{rows_of}
use Rattle.bf_graph.proofs.ReachLemmas.{JoinsBelow}
use Rattle.bf_graph.proofs.reach.join_rows_at.Given as goal

abbrev pub invariant-loop-u : goal.invariant-loop-u
invariant-loop-u l = JoinsBelow (rows_of l.rows) l.upstreams (length l.rows) l.u-index l.row.items
