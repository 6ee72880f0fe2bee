use Rattle.std.proofs.lemmas.Result.{IfOk-weaker}
use Rattle.bf_input.proofs.WholeFiles.{read_of, same_table}
use Rattle.bf_input.proofs.files.read_table_bytes.Goals as goal

pub returns-clause-says : goal.returns-clause-says
returns-clause-says g c = IfOk-weaker c.read_bytes_up_to.result _ _ (λ bytes read held told. same_table held bytes.items (read_of 8_388_608 _ held bytes.items told read)) c.read_bytes_up_to.ensures.ok
