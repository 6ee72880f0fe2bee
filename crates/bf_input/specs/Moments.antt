-- Moments as a line says them.
use Rattle.std.specs.Prelude.{◌≡◌, ℕ, ℤ, List}
use Rattle.jiff.specs.declared.timestamp.Timestamp.{Timestamp}
use Rattle.bf_moment.specs.Moment.{Spells, nearest}

-- the text means this moment
abbrev pub Means : List ℕ → Timestamp → Type 0
Means text t = (n : ℤ) × (Spells text n × (t.nanosecond ≡ nearest n))

-- no moment is spelled so
abbrev pub IsNoMoment : List ℕ → Type 0
IsNoMoment text = (n : ℤ) → Spells text n → ⊥
