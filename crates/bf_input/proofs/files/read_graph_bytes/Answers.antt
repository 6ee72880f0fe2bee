use Rattle.std.proofs.lemmas.Result.{IfOk-weaker}
use Rattle.bf_input.proofs.WholeFiles.{read_of, same_graph, whole_graph}
use Rattle.bf_input.proofs.files.read_graph_bytes.Goals as goal

pub returns-clause-says : goal.returns-clause-says
returns-clause-says g c = IfOk-weaker c.read_bytes_up_to.result _ _ (λ bytes read held told. same_graph held bytes.items (read_of 8_388_608 _ held bytes.items told read)) c.read_bytes_up_to.ensures.ok

pub returns-clause-whole : goal.returns-clause-whole
returns-clause-whole g c = IfOk-weaker c.read_bytes_up_to.result _ _ (λ bytes read held told. whole_graph held bytes.items (read_of 8_388_608 _ held bytes.items told read)) c.read_bytes_up_to.ensures.ok

pub returns-clause-read : goal.returns-clause-read
returns-clause-read g c = IfOk-weaker c.read_bytes_up_to.result _ _ (λ bytes read held told. read_of 8_388_608 _ held bytes.items told read) c.read_bytes_up_to.ensures.ok
