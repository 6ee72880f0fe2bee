use Rattle.std.proofs.Common.{◌≡◌, true}
use Rattle.bf_dependents.proofs.Least.{least}
use Rattle.bf_dependents.proofs.laws.dependents_are_least.Goals as goal

pub returns : goal.returns
returns c = λ dag seeds has. least dag seeds (λ k t i. has k t i ≡ true)
