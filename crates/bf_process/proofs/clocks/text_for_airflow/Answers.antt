use Rattle.std.proofs.lemmas.Str.{IsAscii-take}
use Rattle.bf_process.proofs.clocks.text_for_airflow.Goals as goal

pub text_of_ascii-requires : goal.text_of_ascii-requires
text_of_ascii-requires c = IsAscii-take c.moment_bytes-bytes.result 19 c.moment_bytes-bytes.ensures.ascii
