use Rattle.std.proofs.Common.{ℕ, ◌<◌, get_or}
use Rattle.bf_value.specs.Plain.{plain_depth}
use Rattle.bf_value.specs.Views.{plain_of}
use Rattle.bf_value.specs.declared.xval.Xval.{Xval}
use Rattle.bf_value.proofs.+nested.Given as goal

abbrev pub invariant-size::are_nested_within-loop-item : goal.invariant-size::are_nested_within-loop-item
invariant-size::are_nested_within-loop-item l = (i : ℕ) (d : Xval) → i < l.item-index → plain_depth (plain_of (get_or l.item-items i d)) < l.deepest
