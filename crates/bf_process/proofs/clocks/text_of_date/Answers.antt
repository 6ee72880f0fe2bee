use Rattle.std.proofs.Common.{[], ◌∷◌}
use Rattle.bf_process.proofs.Picked.{picked_ascii}
use Rattle.bf_process.proofs.clocks.text_of_date.Goals as goal

pub text_of_ascii-requires : goal.text_of_ascii-requires
text_of_ascii-requires c = picked_ascii c.moment_bytes.result (0 ∷ 1 ∷ 2 ∷ 3 ∷ 4 ∷ 5 ∷ 6 ∷ 7 ∷ 8 ∷ 9 ∷ []) c.moment_bytes.ensures.ascii
