-- What a look at classes finds.
use Rattle.std.specs.Prelude.{ℤ, Option, None, Some}
use Rattle.std.specs.Int.{int_min}

-- the earlier of two moments
abbrev pub earlier_moment_of : Option ℤ → Option ℤ → Option ℤ
earlier_moment_of None found = found
earlier_moment_of (Some moment) None = Some moment
earlier_moment_of (Some moment) (Some other) = Some (int_min moment other)
