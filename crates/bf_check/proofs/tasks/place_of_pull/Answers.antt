use Rattle.std.proofs.Common.{ap, ◌∙◌, is_some}
use Rattle.bf_check.proofs.NumberLemmas.{placed_among}
use Rattle.bf_check.proofs.tasks.place_of_pull.Goals as goal

pub unwrap-requires : goal.unwrap-requires
unwrap-requires c = ap is_some c.place_of.ensures.place ∙ placed_among c.args.pulled.now c.args.id.now c.requires.pulled
