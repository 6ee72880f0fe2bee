use Rattle.std.proofs.Common.{lit<}
use Rattle.std.proofs.lemmas.Str.Pattern.{split_once_first}
use Rattle.bf_seeds.proofs.Lines.{cut_is}
use Rattle.bf_seeds.proofs.line.split_at_space.Goals as goal

pub returns : goal.returns
returns c = cut_is c.args.text.now c.split_once.result (split_once_first 32 c.args.text.now c.split_once.result c.split_once.ensures.cases (lit< tt))
