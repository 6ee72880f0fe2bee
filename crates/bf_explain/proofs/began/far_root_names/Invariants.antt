use Rattle.std.proofs.Common.{◌≡◌, take}
use Rattle.std.specs.List.{flat_map}
use Rattle.bf_explain.specs.Began.{far_text}
use Rattle.bf_explain.proofs.began.far_root_names.Given as goal

abbrev pub invariant-loop-root : goal.invariant-loop-root
invariant-loop-root l = l.names.items ≡ flat_map (far_text l.plan.dag l.report l.run l.task) (take l.root-index l.roots)
