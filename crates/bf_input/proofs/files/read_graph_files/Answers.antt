use Rattle.bf_input.proofs.files.read_graph_files.Goals as goal

pub returns-clause-whole : goal.returns-clause-whole
returns-clause-whole g c = λ graph zone held. c.in_ok-graph.ensures.whole graph held.graph_held
