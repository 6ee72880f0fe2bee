use Rattle.std.proofs.Common.{rules}
use Rattle.bf_try.proofs.Pushes.{none_gives_items}
use Rattle.bf_try.proofs.grading.gives_items.Goals as goal

pub returns-else-expands : goal.returns-else-expands
returns-else-expands c = search (rules, none_gives_items)
