use Rattle.bf_graph.specs.Edges.{lists}
use Rattle.bf_graph.proofs.LookupLemmas.{AddsDownstream}
use Rattle.bf_graph.proofs.lookups.push_as_downstream.Given as goal

abbrev pub invariant-loop-u : goal.invariant-loop-u
invariant-loop-u l = AddsDownstream (lists l.edges) l.task l.u-index (lists l.found.items)
