-- Moments as people read them.
use Rattle.std.specs.Prelude.{ℕ, ℤ, if◌then◌else◌, List, codes, drop, take}
use Rattle.std.specs.Str.{bytes_eq}
use Rattle.bf_moment.specs.Moment.{moment_text}

-- the text of a moment, of which midnight is left out
abbrev pub without_midnight_of : List ℕ → List ℕ
without_midnight_of moment =
    if bytes_eq (drop 10 moment) (codes "T00:00:00Z") then take 10 moment else moment

abbrev pub short_moment_of : ℤ → List ℕ
short_moment_of n = without_midnight_of (moment_text n)
