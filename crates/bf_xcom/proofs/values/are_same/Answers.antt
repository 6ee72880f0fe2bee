use Rattle.std.proofs.Common.{refl, arith}
use Rattle.std.proofs.lemmas.List.{same_lists}
use Rattle.bf_xcom.proofs.values.are_same.Goals as goal

pub returns : goal.returns
returns c = (
  λ _. same_lists _ _ (omega arith) (λ k d h. c.loop-i.invariant k d (omega arith)),
  λ _. refl,
)
