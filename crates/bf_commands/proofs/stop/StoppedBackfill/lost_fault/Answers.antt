use Rattle.std.proofs.Common.{refl, rules, w32, SFits}
use Rattle.std.proofs.lemmas.Int.{to_z-of_z}
use Rattle.bf_commands.proofs.stop.StoppedBackfill.lost_fault.Goals as goal

pub returns-in-Ok-clause-told : goal.returns-in-Ok-clause-told
returns-in-Ok-clause-told c =
    let fits : SFits w32 c.args.name.index = search rules in
    (search rules, to_z-of_z w32 c.args.name.index fits, refl)

pub returns-in-Ok-clause-lost : goal.returns-in-Ok-clause-lost
returns-in-Ok-clause-lost c =
    let fits : SFits w32 c.args.name.index = search rules in
    (search rules, to_z-of_z w32 c.args.name.index fits, refl)
