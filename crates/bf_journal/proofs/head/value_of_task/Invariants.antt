use Rattle.std.proofs.Common.{◌≡◌, ◌∷◌, map, take}
use Rattle.bf_value.specs.declared.xval.Xval.TheVariants.{Text}
use Rattle.bf_journal.specs.Heads.{id_value}
use Rattle.bf_journal.proofs.head.value_of_task.Given as goal

abbrev pub invariant-loop-pull : goal.invariant-loop-pull
invariant-loop-pull l = l.ids.items ≡ Text l.task.id ∷ map (id_value l.dag) (take l.pull-index l.task.pulls)
