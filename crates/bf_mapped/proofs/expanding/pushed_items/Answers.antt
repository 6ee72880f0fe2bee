use Rattle.std.proofs.Common.{Some, ap, ◌∙◌}
use Rattle.bf_mapped.proofs.FilterLemmas.{none_behind, one_behind}
use Rattle.bf_mapped.proofs.expanding.pushed_items.Goals as goal

pub loop-value-preserved-in-Continue-1 : goal.loop-value-preserved-in-Continue-1
loop-value-preserved-in-Continue-1 c = c.in_ok-push.ensures.items ∙ one_behind (λ v. v) c.loop-value.yielded c.in-Some.value c.in-Some-value.value c.loop-value.items.items c.in-Some-value.is c.loop-value.invariant

pub loop-value-preserved : goal.loop-value-preserved
loop-value-preserved c = none_behind (λ v. v) c.loop-value.yielded c.in-Some.value c.loop-value.items.items c.in_default.is c.loop-value.invariant
