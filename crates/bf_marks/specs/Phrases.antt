-- Several moments as people read them.
use Rattle.std.specs.Prelude.{ℕ, List, map}
use Rattle.bf_moment.specs.declared.moment.Moment.{Moment}
use Rattle.bf_wording.specs.Moments.{short_moment_of}

-- moments as they are written shortest
abbrev pub short_moments : List Moment → List (List ℕ)
short_moments moments = map short_moment_of (map (λ moment. moment.at.nanosecond) moments)
