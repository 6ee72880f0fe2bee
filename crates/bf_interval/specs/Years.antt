-- The years that runs lie in.
use Rattle.std.specs.Prelude.{ℤ, pos, ◌≤ℤ◌}

-- a moment, in nanoseconds since 1970-01-01T00:00:00Z, up to 2199-12-31T23:59:59Z
abbrev pub IsInYears : ℤ → Type 0
IsInYears n = (pos 0 ≤ℤ n) × (n ≤ℤ pos 7_258_118_399_000_000_000)
