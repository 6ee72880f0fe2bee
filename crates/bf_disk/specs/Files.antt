-- What is told of the files of paths.
use Rattle.std.specs.Prelude.{◌≡◌, ◌≢◌, ◌⊎◌, ℕ, List, [], ◌∷◌, All, Option, Some, None}

-- of each path, where it is told: its file's bytes, or that it can't be read
abbrev pub Files : Type 0
Files = List ℕ → Option (Option (List ℕ))

-- the file is told to hold these bytes, however many they are
abbrev pub IsHeld : Option (Option (List ℕ)) → List ℕ → Type 0
IsHeld file bytes = file ≡ Some (Some bytes)

-- where a path is named, its file is told to hold these bytes; where none is, there are none
abbrev pub IsHeldIfNamed : Files → Option (List ℕ) → Option (List ℕ) → Type 0
IsHeldIfNamed files None None = Unit {0}
IsHeldIfNamed files (Some path) (Some bytes) = IsHeld (files path) bytes
IsHeldIfNamed files None (Some bytes) = ⊥
IsHeldIfNamed files (Some path) None = ⊥

-- ---- files that can't be read

-- it is not told that the file can't be read
abbrev pub IsReadable : Option (Option (List ℕ)) → Type 0
IsReadable file = file ≢ Some None

-- no bytes are told of the file
abbrev pub IsUntold : Option (Option (List ℕ)) → Type 0
IsUntold file = (bytes : List ℕ) → file ≢ Some (Some bytes)

abbrev pub AreReadable : Files → List (List ℕ) → Type 0
AreReadable files paths = All (λ path. IsReadable (files path)) paths

-- the path is one of these: no bytes are told of its file, and of none before it is told that it can't be read
abbrev pub IsFirstUntold : Files → List (List ℕ) → List ℕ → Type 0
IsFirstUntold files [] path = ⊥
IsFirstUntold files (p ∷ ps) path =
    ((path ≡ p) × IsUntold (files p)) ⊎ (IsReadable (files p) × IsFirstUntold files ps path)

-- the path of a file where one is named
abbrev pub named_paths : Option (List ℕ) → List (List ℕ)
named_paths None = []
named_paths (Some path) = path ∷ []
