-- A line that is there, or isn't.
use Rattle.std.proofs.Common.{◌≡◌, ℕ, Bool, true, List, [], ◌∷◌, sym, subst}
use Rattle.bf_explain.specs.ByHand.{IsLineIf}

pub line_if : (holds : Bool) (IsLine : List ℕ → Type 0) (line : List ℕ) (lines : List (List ℕ)) → holds ≡ true → IsLine line → lines ≡ line ∷ [] → IsLineIf holds IsLine lines
line_if holds IsLine line lines told is are = subst (λ (b : Bool). IsLineIf b IsLine lines) (sym told) (line, is, are)
