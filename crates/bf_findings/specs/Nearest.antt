-- Which of some names is nearest to a text.
use Rattle.std.specs.Prelude.{◌≡◌, ℕ, suc, ◌≤◌, ◌-◌, ◌*◌, ◌==◌, List, [], ◌∷◌, map, length, take, drop, reverse, max, Contains, nat_eq, nat_le, nat_lt, if◌then◌else◌, Option, Some, None}
use Rattle.std.specs.Char.{to_ascii_lowercase}
use Rattle.std.specs.Str.{chars}
use Rattle.strsim.specs.Edits.{levenshtein_row}

abbrev pub lowered : List ℕ → List ℕ
lowered text = map to_ascii_lowercase text

-- how many changes of a character lead from one to the other (Levenshtein)
abbrev pub edits : List ℕ → List ℕ → ℕ
edits from to = levenshtein_row nat_eq from to (length to)

-- how many first characters two have in common
unfoldable pub shared : List ℕ → List ℕ → ℕ
shared [] ys = 0
shared (x ∷ xs) [] = 0
shared (x ∷ xs) (y ∷ ys) = if x == y then suc (shared xs ys) else 0

-- how many last ones
abbrev pub shared_at_end : List ℕ → List ℕ → ℕ
shared_at_end one other = shared (reverse one) (reverse other)

-- two texts without so many of their last characters
abbrev pub before_end : ℕ → List ℕ → List ℕ → List ℕ × List ℕ
before_end n one other = (take (length one - n) one, take (length other - n) other)

-- two texts without the end that they have in common
abbrev pub without_end : List ℕ → List ℕ → List ℕ × List ℕ
without_end one other = before_end (shared_at_end one other) one other

-- and without their common beginning: where the one differs from the other
abbrev pub differing_parts : List ℕ → List ℕ → List ℕ × List ℕ
differing_parts one other =
    without_end (drop (shared one other) one) (drop (shared one other) other)

-- how many changes lead from a text to a name, where that is less than half of the longer one
abbrev pub changes_below : ℕ → ℕ → Option ℕ
changes_below longer changes = if nat_lt (2 * changes) longer then Some changes else None

-- the same of the parts in which they differ, of at most 24 characters
abbrev pub changes_in : ℕ → List ℕ × List ℕ → Option ℕ
changes_in longer parts =
    if nat_le (max (length parts.0) (length parts.1)) 24
    then changes_below longer (edits parts.0 parts.1) else None

-- how many changes lead from a text to a name that is near; none where it isn't
unfoldable pub changes_of : List ℕ → List ℕ → Option ℕ
changes_of text name = changes_in (max (length text) (length name)) (differing_parts text name)

-- the same whatever the case. A name is of ASCII, so that its bytes are its characters
abbrev pub changes_to : List ℕ → List ℕ → Option ℕ
changes_to text name = changes_of (chars (lowered text)) (lowered name)

-- the name is one of them, it is near, and none of them is nearer
pub record IsNearest (text : List ℕ) (names : List (List ℕ)) (name : List ℕ) (changes : ℕ)
    : Type 0 where
  pub known : Contains names name
  pub near : changes_to text name ≡ Some changes
  pub none_nearer : (other : List ℕ) (far : ℕ) → Contains names other
      → changes_to text other ≡ Some far → changes ≤ far

-- which name is suggested: the nearest of those that are near, if there is one
abbrev pub IsSuggested : List ℕ → List (List ℕ) → Option (List ℕ) → Type 0
IsSuggested text names None =
    (name : List ℕ) → Contains names name → changes_to text name ≡ None
IsSuggested text names (Some name) = (changes : ℕ) × IsNearest text names name changes
