use Rattle.std.proofs.Common.{rules, tests}
use Rattle.std.proofs.lemmas.Iterator.Consumers.{map_from_collect, YieldsList-from_filter}
use Rattle.std.proofs.lemmas.Iterator.Splits.{YieldsList-from_lines}
use Rattle.bf_seeds.specs.Seeds.{is_filled}
use Rattle.bf_seeds.proofs.reading.lines_of.Goals as goal

pub returns : goal.returns
returns c =
    map_from_collect _ c.collect.ensures.ran
    (YieldsList-from_filter _ is_filled (YieldsList-from_lines c.args.text.now cc) c.filter.ensures.closure (λ x r q k. search (rules, tests)))
