-- Texts that spell something.
use Rattle.std.specs.Prelude.{◌≡◌, ◌==◌, ℕ, false, List, ◌∷◌, ◌++◌, Option, Some}
use Rattle.std.specs.List.{list_any}

-- a thing of its kind, and the text is its own
abbrev pub Spells : {X : Type 0} → (X → Type 0) → (X → List ℕ) → List ℕ → X → Type 0
Spells IsGood text_of text thing = IsGood thing × (text ≡ text_of thing)

-- a word has no space
abbrev pub IsWord : List ℕ → Type 0
IsWord text = list_any (λ byte. byte == 32) text ≡ false

-- each thing of which this holds is the one that was found
abbrev pub Finds : {X : Type 0} → (X → Type 0) → Option X → Type 0
Finds {X} Holds found = (thing : X) → Holds thing → found ≡ Some thing

-- four fields, separated by one space
abbrev pub AreFields : List ℕ → List ℕ → List ℕ → List ℕ → List ℕ → Type 0
AreFields text index state tries value =
    IsWord index × IsWord state × IsWord tries
    × (text ≡ index ++ 32 ∷ (state ++ 32 ∷ (tries ++ 32 ∷ value)))
