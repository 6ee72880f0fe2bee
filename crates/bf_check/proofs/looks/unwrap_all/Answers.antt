use Rattle.std.proofs.Common.{rules, ap, ◌∙◌, map, Some}
use Rattle.bf_check.proofs.ListLemmas.{all_there}
use Rattle.bf_check.proofs.looks.unwrap_all.Goals as goal

pub returns : goal.returns
returns g c = ap (map Some) (search rules) ∙ all_there c.args.found.items c.requires
