-- The entries of a table that answers as a report tells.
use Rattle.std.specs.Prelude.{ℕ, ℤ, pos, negsuc, Option, Some, None}

-- a map index, -1 of a task that isn't expanded
abbrev pub number_of : Option ℕ → ℤ
number_of None = negsuc 0
number_of (Some index) = pos index
