-- Texts, one behind another.
use Rattle.std.proofs.Common.{◌≡◌, ℕ, List, [], ◌∷◌, ◌++◌, ◌∙◌, append_assoc}

pub three_in_a_row : (t a b c : List ℕ) → ((t ++ a) ++ b) ++ c ≡ t ++ (a ++ (b ++ c))
three_in_a_row t a b c = append_assoc (t ++ a) b c ∙ append_assoc t a (b ++ c)

pub table_in_a_row : (t a b c d : List ℕ) → (((t ++ a) ++ b) ++ c) ++ d ≡ t ++ (a ++ (b ++ (c ++ d)))
table_in_a_row t a b c d = simp append_assoc
