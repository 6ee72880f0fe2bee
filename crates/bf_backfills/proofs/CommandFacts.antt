-- What a line's texts mean.
use Rattle.std.proofs.Common.{◌≡◌, ℕ, List, subst}
use Rattle.jiff.specs.declared.timestamp.Timestamp.{Timestamp}
use Rattle.bf_input.specs.Moments.{Means}

-- a text that was lent means what it means
pub means_lent : (lent text : List ℕ) (t : Timestamp) → lent ≡ text → Means lent t → Means text t
means_lent lent text t same is = subst (λ (x : List ℕ). Means x t) same is
